-- The opening of a transaction: nothing has happened before it, and nothing is decided.
use Prim.Native.Nat.{ℕ, suc, ◌<◌}
use mathlib.Core.Path.{◌≡◌, refl, sym, ap, ◌∙◌, subst}
use mathlib.Core.Bool.{Bool, true, false, not, true≢false}
use mathlib.Core.List.{[]}
use lib.Dec.{T}
use Rattle.codec.specs.Lists.{any}
use Rattle.codec.specs.Sets.{member, empty, part}
use Rattle.codec.specs.Laws.Tests.{of_true}
use Rattle.site.specs.Cohort.{Cohort}
use Rattle.site.specs.Step.{prepare, vote_yes, read_only}
use Rattle.joint.specs.State.{Site, started}
use Rattle.joint.specs.Plan.{opened_as}
use Rattle.joint.proofs.View.View.{View, view_at, view_settle}
use Rattle.joint.proofs.View.Turn.{Up}
use Rattle.joint.proofs.Safety.Tables.{has, trail, fresh, working}
use Rattle.joint.proofs.Safety.Sets.{empty-none}
use Rattle.joint.proofs.Safety.Invariant.{Standing, never, initial, collecting, decided, site_with, Stranger, Place, Edge, Inv, cohort_of}
use Rattle.joint.proofs.Safety.Coordinator.Steps.{stand, no_votes}
use Rattle.joint.proofs.Safety.Coordinator.Discards.{After}

-- ---- a transaction that is not opened stands as never

by-never {ℓ} : {t : ℕ} {v : View} (P : Standing → Type ℓ) → empty (cohort_of v).members ≡ true → ((u : Bool) → Inv t (never u) v → P (never u))
    → (h : Standing) → Inv t h v → P h
by-never P e f (never u) inv = f u inv
by-never P e f (initial b) inv = absurd (true≢false (sym (inv.mid.sound.opened ∙ e)))
by-never P e f (collecting w out b) inv = absurd (true≢false (sym (inv.mid.sound.opened ∙ e)))
by-never P e f (decided o out p l) inv = absurd (true≢false (sym (inv.mid.sound.opened ∙ e)))

-- nobody is a member of it
stranger : {t : ℕ} {v : View} {h : Standing} → Inv t h v → empty (cohort_of v).members ≡ true → (n : ℕ) → Stranger n v
stranger {t} {v} {h} inv e n = go (member (suc n) (cohort_of v).members) refl (inv.mid.stands n)
  where
    go : (b : Bool) → member (suc n) (cohort_of v).members ≡ b → Place b t n (inv.mid.status n) v → Stranger n v
    go true q x = absurd (empty-none (cohort_of v).members (suc n) (of_true e) (of_true q))
    go false q x = x

-- ---- the opening

module _ (t : ℕ) (v : View) (g : Cohort) where
  abbrev opened : View
  opened = view_settle (opened_as g) v

  -- a site with no record
  bare_site : (s : Site) → s.up ≡ true → s.stable ≡ [] → s.unforced ≡ [] → s ≡ site_with g 0 t 0 true [] []
  bare_site s a b c = λ i. record { up = a i; stable = b i; unforced = c i }

  new_place : (n : ℕ) (b : Bool) → member (suc n) g.members ≡ b → (member (suc n) g.members ≡ true → Up v (suc n)) → Stranger n v
      → Place b t n working opened
  unfolding view_settle opened_as
  new_place n true e up x = record { site = bare_site (v.site (suc n)) (up e) x.stable x.unforced; phase = rw e refl }
  new_place n false e up x = record { stable = x.stable; unforced = x.unforced; sent = x.sent; entered = x.entered }

  new_trail : (k : Bool) → T (trail working k false false)
  unfolding has any
  new_trail true = tt
  new_trail false = tt

  new_edge : (n : ℕ) → Stranger n v → Edge fresh n working opened
  unfolding view_settle opened_as has any
  new_edge n x =
      record {
        shape = subst (λ (b : Bool). T (not b)) (sym (x.sent prepare)) tt;
        messages = λ k u. absurd (subst T (x.sent k) u);
        entries = λ o u. absurd (subst T (x.entered o) u);
        counted = λ u. absurd u;
        honest = λ u. absurd (subst T (x.sent vote_yes) u);
        looked = rw (x.sent vote_yes, x.sent read_only) (new_trail (v.transaction.marked (suc n)));
      }

  pub open_after : t < 8 → g.members < 256 → part g.presume_commit g.members ≡ true → empty g.members ≡ false
      → empty (cohort_of v).members ≡ true → Up v 0 → ((n : ℕ) → member (suc n) g.members ≡ true → Up v (suc n)) → (h : Standing) → Inv t h v
      → After t h opened
  unfolding view_settle opened_as
  open_after small byte parts some none up ups =
      by-never (λ h. After t h opened) none
      (λ u inv.
      record {
        standing = initial false;
        inv =
            record {
              mid =
                  record {
                    sound = record { number = λ k. small; byte = byte; part = parts; opened = sym some; fit = tt; proper = tt; sets = tt; remains = tt };
                    log = bare_site (v.site 0) up (ap (λ (s : Site). s.stable) inv.mid.log) (ap (λ (s : Site). s.unforced) inv.mid.log);
                    entries = λ o k. inv.mid.entries o k;
                    votes = no_votes refl (λ n m c. c);
                    status = λ n. working;
                    stands = λ n. new_place n (member (suc n) g.members) refl (ups n) (stranger inv none n);
                    fine = λ n m. new_edge n (stranger inv none n);
                  };
              phase = refl;
              whole = tt;
            };
        from = record { keeps = λ o k. k; new = λ k. absurd k; outs = λ n k. k };
      })

-- ---- a start where it is not opened

pub start-after : (t : ℕ) (v : View) → empty (cohort_of v).members ≡ true → (h : Standing) → Inv t h v → After t h (view_at 0 started v)
unfolding view_at
start-after t v none =
    by-never (λ h. After t h (view_at 0 started v)) none
    (λ u inv.
    record {
      standing = never true;
      inv =
          record {
            mid =
                stand inv.mid (record { never = refl; fit = tt; proper = tt; sets = tt; remains = tt; votes = no_votes refl (λ n m c. c); passing = λ n m. tt }) (λ o k. k) started
                (unfold started in refl);
            phase = inv.phase;
            whole = tt;
          };
      from = record { keeps = λ o k. k; new = λ k. absurd k; outs = λ n k. k };
    })
