-- Effects on one site and one transaction: in parts, how many of each kind, and whether a log has room for them.
use Prim.Native.Nat.{ℕ, zero, suc, ◌+◌, ◌≤◌, ◌<◌}
use mathlib.Core.Path.{◌≡◌, refl, sym, ap, ◌∙◌}
use mathlib.Core.Bool.{Bool, true, false, cond, not}
use mathlib.Core.List.{List, [], ◌∷◌, ◌++◌, map}
use lib.ListN.{length, take, get_or, length-append, length-take}
use lib.Dec.{eqb, leb}
use native.Mathlib.Nat.{add-zero}
use native.Mathlib.Omega.{arith}
use borrow.Author.Tests.{ne_eqb}
use Rattle.codec.specs.Lists.{select}
use Rattle.site.specs.Presumption.{Outcome, commit, abort}
use Rattle.site.specs.Step.{Message, prepare, messages, Effect, append, force, enter, send, given}
use Rattle.site.specs.Coordinator.{ordered}
use Rattle.site.specs.Numbers.{appending, entry_of}
use Rattle.site.specs.Answers.{fields_by, sending, effects_in}
use Rattle.site.specs.Laws.Parts.{five}
use Rattle.site.specs.declared.effects.Effects.{Effects}
use Rattle.joint.specs.State.{Site, Transaction, appended, forced}
use Rattle.joint.specs.Run.{is_append, is_force, is_send}
use Rattle.joint.specs.Inside.{site_after, transaction_after, counted, size, Fits}
use Rattle.joint.proofs.Base.Lists.{among, select-take}
use Rattle.joint.proofs.Base.Placed.{counted-append}

-- ---- effects in two parts

pub site-append : (t : ℕ) (es fs : List Effect) (a : Site) → site_after t (es ++ fs) a ≡ site_after t fs (site_after t es a)
unfolding site_after
site-append t [] fs a = refl
site-append t (append k vs ∷ es) fs a = site-append t es fs _
site-append t (force ∷ es) fs a = site-append t es fs _
site-append t (enter o ∷ es) fs a = site-append t es fs a
site-append t (send m p ∷ es) fs a = site-append t es fs a

pub transaction-append : (s : ℕ) (es fs : List Effect) (x : Transaction) → transaction_after s (es ++ fs) x ≡ transaction_after s fs (transaction_after s es x)
unfolding transaction_after
transaction-append s [] fs x = refl
transaction-append s (append k vs ∷ es) fs x = transaction-append s es fs x
transaction-append s (force ∷ es) fs x = transaction-append s es fs x
transaction-append s (enter o ∷ es) fs x = transaction-append s es fs _
transaction-append s (send m p ∷ es) fs x = transaction-append s es fs _

-- ---- a log has room for each part of what it has room for

pub counted-take : (f : Effect → Bool) (n : ℕ) (es : List Effect) → counted f (take n es) ≤ counted f es
unfolding counted
counted-take f n es = omega (arith, ap length (select-take f n es), length-take (among f n es) (select f es))

pub size-after : (t : ℕ) (es : List Effect) (a : Site) → size (site_after t es a) ≡ size a + counted is_append es
unfolding size site_after counted select is_append appended forced
size-after t [] a = sym (add-zero _)
size-after t (append k vs ∷ es) a = size-after t es _ ∙ simp length-append (omega arith)
size-after t (force ∷ es) a = size-after t es _ ∙ simp length-append (omega arith)
size-after t (enter o ∷ es) a = size-after t es a
size-after t (send m p ∷ es) a = size-after t es a

-- ---- the parts that leave the transaction, and those that leave the site

module _ (s : ℕ) where
  unappended : (x : Transaction) (k : ℕ) (vs : List ℕ) → transaction_after s (appending k vs) x ≡ x
  unfolding appending transaction_after
  unappended x zero vs = refl
  unappended x (suc k) vs = refl

  unforced : (x : Transaction) (b : Bool) → transaction_after s (given b (force ∷ [])) x ≡ x
  unfolding given transaction_after
  unforced x true = refl
  unforced x false = refl

  -- entries and sends are all that a transaction has of a row
  pub transaction-row : (t : ℕ) (x : Transaction) (e : Effects)
      → transaction_after s (effects_in t e) x ≡ transaction_after s (sending t e.message e.owing e.to) (transaction_after s (entry_of e.entered) x)
  transaction-row t x e =
      ap (λ (l : List Effect). transaction_after s l x) (five t e)
      ∙ simp (transaction-append, unappended, unforced)

module _ (t : ℕ) where
  unentered : (a : Site) (n : ℕ) → site_after t (entry_of n) a ≡ a
  unfolding entry_of site_after
  unentered a zero = refl
  unentered a (suc zero) = refl
  unentered a (suc (suc zero)) = refl
  unentered a (suc (suc (suc n))) = refl

  unsent_each : (a : Site) (m : Message) (ps : List ℕ) → site_after t (map (send m) ps) a ≡ a
  unfolding site_after
  unsent_each a m [] = refl
  unsent_each a m (p ∷ ps) = unsent_each a m ps

  unsent : (a : Site) (kind owing to : ℕ) → site_after t (sending t kind owing to) a ≡ a
  unfolding sending given site_after
  unsent a kind owing to = by (leb kind 7)
    where
      by : (b : Bool) → site_after t (cond b (map (send (get_or messages kind prepare)) (ordered t owing to)) []) a ≡ a
      by true = unsent_each a _ (ordered t owing to)
      by false = refl

  -- records and forces are all that a site has of it
  pub site-row : (a : Site) (e : Effects)
      → site_after t (effects_in t e) a
      ≡ site_after t (appending e.last (fields_by e.last 0 0))
      (site_after t (given e.forced (force ∷ [])) (site_after t (appending e.appended (fields_by e.appended e.first e.second)) a))
  site-row a e =
      ap (λ (l : List Effect). site_after t l a) (five t e)
      ∙ simp (site-append, unentered, unsent)

-- ---- counts

counted-appending : (k : ℕ) (vs : List ℕ) → counted is_append (appending k vs) ≡ cond (not (eqb k 0)) 1 0
unfolding appending counted select is_append
counted-appending zero vs = refl
counted-appending (suc k) vs = rw (ne_eqb (suc k) 0 (λ e. omega (arith, e)))

counted-given : (b : Bool) → counted is_force (given b (force ∷ [])) ≡ cond b 1 0
unfolding given counted select is_force
counted-given true = refl
counted-given false = refl

counted-sends : (t kind owing to : ℕ) → counted is_send (sending t kind owing to) ≡ length (sending t kind owing to)
unfolding sending given counted select is_send
counted-sends t kind owing to = by (leb kind 7)
  where
    each : (m : Message) (ps : List ℕ) → length (select is_send (map (send m) ps)) ≡ length (map (send m) ps)
    each m [] = refl
    each m (p ∷ ps) = ap suc (each m ps)

    by : (b : Bool) → length (select is_send (cond b (map (send (get_or messages kind prepare)) (ordered t owing to)) []))
        ≡ length (cond b (map (send (get_or messages kind prepare)) (ordered t owing to)) [])
    by true = each _ (ordered t owing to)
    by false = refl

-- a part without an effect that is counted
module _ (f : Effect → Bool) where
  none-appended : ((k : ℕ) (vs : List ℕ) → f (append k vs) ≡ false) → (k : ℕ) (vs : List ℕ) → counted f (appending k vs) ≡ 0
  unfolding appending counted select
  none-appended h zero vs = refl
  none-appended h (suc k) vs = rw (h (suc k) vs)

  none-forced : f force ≡ false → (b : Bool) → counted f (given b (force ∷ [])) ≡ 0
  unfolding given counted select
  none-forced h true = rw h
  none-forced h false = refl

  none-entered : ((o : Outcome) → f (enter o) ≡ false) → (n : ℕ) → counted f (entry_of n) ≡ 0
  unfolding entry_of counted select
  none-entered h zero = refl
  none-entered h (suc zero) = rw (h commit)
  none-entered h (suc (suc zero)) = rw (h abort)
  none-entered h (suc (suc (suc n))) = refl

  none-sent : ((m : Message) (p : ℕ) → f (send m p) ≡ false) → (t kind owing to : ℕ) → counted f (sending t kind owing to) ≡ 0
  unfolding sending given counted select
  none-sent h t kind owing to = by (leb kind 7)
    where
      each : (m : Message) (ps : List ℕ) → length (select f (map (send m) ps)) ≡ 0
      each m [] = refl
      each m (p ∷ ps) = rw (h m p) (each m ps)

      by : (b : Bool) → length (select f (cond b (map (send (get_or messages kind prepare)) (ordered t owing to)) [])) ≡ 0
      by true = each _ (ordered t owing to)
      by false = refl

-- records, forces and sends of a row
in_five : (f : Effect → Bool) (t : ℕ) (e : Effects)
    → counted f (effects_in t e)
    ≡ counted f (appending e.appended (fields_by e.appended e.first e.second))
    + (counted f (given e.forced (force ∷ []))
    + (counted f (entry_of e.entered) + (counted f (sending t e.message e.owing e.to) + counted f (appending e.last (fields_by e.last 0 0)))))
in_five f t e = ap (counted f) (five t e) ∙ simp counted-append

pub row-records : (t : ℕ) (e : Effects) → counted is_append (effects_in t e) ≡ cond (not (eqb e.appended 0)) 1 0 + cond (not (eqb e.last 0)) 1 0
unfolding is_append
row-records t e =
    in_five is_append t e
    ∙ rw (counted-appending e.appended, counted-appending e.last, none-forced is_append refl, none-entered is_append (λ o. refl), none-sent is_append (λ m p. refl)) (omega arith)

pub row-forces : (t : ℕ) (e : Effects) → counted is_force (effects_in t e) ≡ cond e.forced 1 0
unfolding is_force
row-forces t e =
    in_five is_force t e
    ∙ simp (none-appended is_force (λ k vs. refl), counted-given, none-entered is_force (λ o. refl), none-sent is_force (λ m p. refl)) (omega arith)

pub row-sends : (t : ℕ) (e : Effects) → counted is_send (effects_in t e) ≡ length (sending t e.message e.owing e.to)
unfolding is_send
row-sends t e =
    in_five is_send t e
    ∙ simp (none-appended is_send (λ k vs. refl), none-forced is_send refl, none-entered is_send (λ o. refl), counted-sends) (omega arith)

-- a row's first record is counted behind the force too
pub size-first : (t k : ℕ) (vs : List ℕ) (b : Bool) (a : Site)
    → size (site_after t (given b (force ∷ [])) (site_after t (appending k vs) a)) ≡ size a + cond (eqb k 0) 0 1
unfolding is_append
size-first t k vs b a =
    size-after t (given b (force ∷ [])) (site_after t (appending k vs) a)
    ∙ rw (size-after t (appending k vs) a, counted-appending k vs, none-forced is_append refl b) (go (eqb k 0))
  where
    go : (c : Bool) → size a + cond (not c) 1 0 + 0 ≡ size a + cond c 0 1
    go true = omega arith
    go false = omega arith

-- ---- a record, or none

pub kind-none : (t k : ℕ) (vs : List ℕ) (a : Site) → k ≡ 0 → a ≡ site_after t (appending k vs) a
unfolding appending site_after
kind-none t k vs a e = rw e refl

pub kind-some : (t k : ℕ) (vs : List ℕ) (a : Site) → (k ≡ 0 → ⊥) → Fits (appending k vs) a
    → (size a < 24) × (appended (record { kind = k; transaction = t; fields = vs }) a ≡ site_after t (appending k vs) a)
unfolding appending site_after counted select is_append
kind-some t zero vs a h fits = absurd (h refl)
kind-some t (suc k) vs a h fits = (omega (arith, fits), refl)

-- ---- room for the first part, and for the last one behind it

pub room : (t : ℕ) (a : Site) (e : Effects) → Fits (effects_in t e) a
    → Fits (appending e.appended (fields_by e.appended e.first e.second)) a
    × Fits (appending e.last (fields_by e.last 0 0))
    (site_after t (given e.forced (force ∷ [])) (site_after t (appending e.appended (fields_by e.appended e.first e.second)) a))
room t a e fits =
    let first = appending e.appended (fields_by e.appended e.first e.second) in
    let forced = given e.forced (force ∷ []) in (
      omega (arith, fits, in_five is_append t e),
      omega (arith, fits, in_five is_append t e, size-after t first a, size-after t forced (site_after t first a)),
    )

pub fits_cut : (es hs : List Effect) (a : Site) (n : ℕ) → hs ≡ take n es → Fits es a → Fits hs a
fits_cut es hs a n happen fits = rw happen (omega (arith, fits, counted-take is_append n es))
