-- The kinds of records that a log of one transaction's records holds, and whether its record 2 awaits acks.
use Prim.Native.Nat.{ℕ}
use mathlib.Core.Path.{◌≡◌, refl, ap, ◌∙◌}
use mathlib.Core.Bool.{Bool, true, false, cond, ◌||◌}
use mathlib.Core.List.{List, [], ◌∷◌, map}
use lib.Dec.{T, eqb}
use borrow.Author.Tests.{eq-eqb, eqb-true}
use Rattle.codec.specs.Lists.{any}
use Rattle.codec.specs.Records.{LogRecord, of_transaction, awaits_acks, members_in, presume_commit_in}
use Rattle.site.specs.Cohort.{Cohort, remaining, masks_of}
use Rattle.joint.specs.State.{Site, holds, recorded_cohort}
use Rattle.joint.proofs.Safety.Tables.{has}
use Rattle.joint.proofs.Safety.Invariant.{record_for, awaits_commit}
use Rattle.site.specs.Laws.Sets.{owing_commit}

pub holds_kinds : (g : Cohort) (out t p k : ℕ) (ks : List ℕ) → holds t k (map (record_for g out t p) ks) ≡ has k ks
unfolding holds has any of_transaction
holds_kinds g out t p k [] = refl
holds_kinds g out t p k (j ∷ ks) = rw (eq-eqb t t refl) (ap (λ (b : Bool). eqb j k || b) (holds_kinds g out t p k ks))

-- a site with stable records of these kinds, and any unforced ones
pub holds_at : (g : Cohort) (out t p : ℕ) (ks : List ℕ) {u : Bool} {l : List LogRecord} {x : Site}
    → x ≡ record { up = u; stable = map (record_for g out t p) ks; unforced = l } → (k : ℕ) → holds t k x.stable ≡ has k ks
holds_at g out t p ks e k = ap (λ (z : Site). holds t k z.stable) e ∙ holds_kinds g out t p k ks

-- the cohort that a record of kind k tells, if there is one
pub recorded_kinds : (g : Cohort) (out t p k : ℕ) (ks : List ℕ) → T (has k ks)
    → recorded_cohort t k (map (record_for g out t p) ks) ≡ record { members = members_in (record_for g out t p k); presume_commit = presume_commit_in (record_for g out t p k) }
unfolding recorded_cohort has any of_transaction
recorded_kinds g out t p k [] h = absurd h
recorded_kinds g out t p k (j ∷ ks) h = rw (eq-eqb t t refl) (go (eqb j k) refl h (recorded_kinds g out t p k ks))
  where
    tells : ℕ → Cohort
    tells i = record { members = members_in (record_for g out t p i); presume_commit = presume_commit_in (record_for g out t p i) }

    go : (b : Bool) → eqb j k ≡ b → T (b || any (λ i. eqb i k) ks) → (T (any (λ i. eqb i k) ks) → recorded_cohort t k (map (record_for g out t p) ks) ≡ tells k)
        → cond b (tells j) (recorded_cohort t k (map (record_for g out t p) ks)) ≡ tells k
    go true e h f = ap tells (eqb-true j k e)
    go false e h f = f h

-- record 1 tells the cohort as opened, record 2 the one that remained
pub init_tells : (g : Cohort) (out t p : ℕ) (ks : List ℕ) → T (has 1 ks) → recorded_cohort t 1 (map (record_for g out t p) ks) ≡ g
unfolding members_in presume_commit_in masks_of
init_tells g out t p ks h = recorded_kinds g out t p 1 ks h

pub commit_tells : (g : Cohort) (out t p : ℕ) (ks : List ℕ) → T (has 2 ks) → recorded_cohort t 2 (map (record_for g out t p) ks) ≡ remaining g out
unfolding members_in presume_commit_in masks_of
commit_tells g out t p ks h = recorded_kinds g out t p 2 ks h

-- a record 2 awaits acks where someone owes one for commit
pub commit_awaits : (g : Cohort) (out t s : ℕ) → awaits_acks (record_for g out t s 2) ≡ awaits_commit (remaining g out)
unfolding awaits_acks members_in presume_commit_in masks_of
commit_awaits g out t s = rw (owing_commit (remaining g out))
