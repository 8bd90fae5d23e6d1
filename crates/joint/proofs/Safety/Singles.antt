-- At every moment, in front of each effect of a row too, at most one record of a transaction is unforced at each site.
use Prim.Native.Nat.{ℕ, zero, suc, ◌≤◌}
use mathlib.Core.Path.{◌≡◌, refl, ap}
use mathlib.Core.Bool.{Bool, true, false}
use mathlib.Core.List.{List}
use native.Mathlib.Omega.{arith}
use lib.ListN.{length, take, length-map}
use lib.Dec.{eqb, leb}
use borrow.Author.Tests.{eqb-true, eqb-false, leb-true}
use Rattle.codec.specs.Sets.{member}
use Rattle.codec.specs.Laws.Tests.{true_of}
use Rattle.site.specs.Step.{Input, Effect, Row}
use Rattle.site.specs.Coordinator.{Coordinator}
use Rattle.joint.specs.State.{Site, forced}
use Rattle.joint.proofs.Base.Lists.{each_take}
use Rattle.joint.proofs.Base.Updates.{update-point}
use Rattle.joint.proofs.View.View.{View, view_at, view_effects}
use Rattle.joint.proofs.View.Turn.{OwnRow, coordinates, participates, resumes, returns, SeenRow, own, others, bare}
use Rattle.joint.proofs.View.Carries.{after-forces}
use Rattle.joint.proofs.Safety.Tables.{Status, unforced_kinds}
use Rattle.joint.proofs.Safety.Finite.{at_status}
use Rattle.joint.proofs.Safety.Invariant.{waiting, resting, down, Standing, never, initial, collecting, decided, kind_if, unforced_at, Place, Mid, Inv, cohort_of}
use Rattle.joint.proofs.Safety.Participant.Local.{Local}
use Rattle.joint.proofs.Safety.Participant.Places.{Middle}
use Rattle.joint.proofs.Safety.Participant.Participants.{row_middle, return_middle}
use Rattle.joint.proofs.Safety.Coordinator.Coordinators.{Stepped, steps, looks, coordinator_next}
use Rattle.joint.proofs.Safety.Coordinator.Resumes.{resume_next}

abbrev pub Single : View → Type 0
Single v = (s : ℕ) → length (v.site s).unforced ≤ 1

-- ---- where the invariant holds

kind-single : (b : Bool) (k : ℕ) → length (kind_if b k) ≤ 1
kind-single true k = omega arith
kind-single false k = omega arith

standing_single : (h : Standing) → length (unforced_at h) ≤ 1
standing_single (never u) = omega arith
standing_single (initial b) = kind-single b 1
standing_single (collecting w out b) = kind-single b 2
standing_single (decided o out (waiting w) l) = omega arith
standing_single (decided o out (resting b) l) = kind-single b _
standing_single (decided o out down l) = omega arith

status_single : (s : Status) → length (unforced_kinds s) ≤ 1
status_single s = leb-true _ 1 (true_of _ (at_status (λ s. leb (length (unforced_kinds s)) 1) tt s))

pub mid_single : {t : ℕ} {h : Standing} {v : View} → Mid t h v → Single v
mid_single {h} mid zero = rw (mid.log, length-map) (standing_single h)
mid_single {t} {h} {v} mid (suc n) = go (member (suc n) (cohort_of v).members) (mid.stands n)
  where
    go : (b : Bool) → Place b t n (mid.status n) v → length (v.site (suc n)).unforced ≤ 1
    go true x = rw (x.site, length-map) (status_single (mid.status n))
    go false x = rw x.unforced (omega arith)

-- ---- after forces

force-single : (s : ℕ) (v : View) → Single v → Single (view_at s forced v)
unfolding view_at forced
force-single s v h z = update-point (λ (a : Site). length a.unforced ≤ 1) forced (λ a k. omega arith) s v.site z (h z)

-- ---- in a row

-- at the participant whose row it is, and elsewhere
middle_single : {t n : ℕ} {v w : View} → Middle t n v w → Single v → Single w
middle_single {t} {n} {v} {w} x h z = go (eqb z (suc n)) refl
  where
    go : (b : Bool) → eqb z (suc n) ≡ b → length (w.site z).unforced ≤ 1
    go true e = rw (eqb-true z (suc n) e, x.reached.site, length-map) (leb-true _ 1 (true_of _ x.single))
    go false e = rw (ap (λ (l : Local). l.site.unforced) (x.reached.elsewhere.rest z (eqb-false z (suc n) e))) (h z)

stepped_single : {t : ℕ} {v : View} {row : Row Coordinator} {h : Standing} {i : Input} → Stepped t v row h i → (m : ℕ) → Single (view_effects 0 t (take m row.effects) v)
stepped_single (steps x) m = mid_single (x.middle m).1
stepped_single (looks p x) m = mid_single (x.middle m).1

module _ {t : ℕ} {h : Standing} {v : View} (inv : Inv t h v) where
  own_single : {Out : ℕ → Type 0} {s : ℕ} {es : List Effect} {f : View → View} → OwnRow t Out v s es f → (m : ℕ) → Single (view_effects s t (take m es) v)
  own_single (coordinates {row} i o up k takes e) m = stepped_single (coordinator_next t v row inv o up i k e) m
  own_single (participates n i k up g its e) m = middle_single (row_middle t h v inv n i k up e m) (mid_single inv.mid)
  own_single (resumes o d e) m = mid_single ((resume_next t v h inv o d e).middle m).1
  own_single (returns n d e) m = middle_single (return_middle t h v inv n d e m) (mid_single inv.mid)

  -- what t sees of an event's row, up to any effect
  pub row-single : {Out : ℕ → Type 0} {s : ℕ} {es : List Effect} {f : View → View} → SeenRow t Out v s es f → (m : ℕ) → Single (view_effects s t (take m es) v)
  unfolding view_effects
  row-single (own x) m = own_single x m
  row-single {s} {es} (others x) m = after-forces Single s t (force-single s) (take m es) (each_take _ m es x) v (mid_single inv.mid)
  row-single (bare x) zero = mid_single inv.mid
  row-single (bare x) (suc m) = mid_single inv.mid
