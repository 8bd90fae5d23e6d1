-- A row at its site: its records and its force, and what follows these.
use Prim.Native.Nat.{ℕ}
use mathlib.Core.Path.{◌≡◌, refl, sym, ap, ◌∙◌}
use mathlib.Core.Bool.{Bool, false, not, ◌||◌}
use mathlib.Core.List.{[], ◌∷◌}
use lib.Dec.{eqb}
use borrow.Author.Tests.{eqb-true, not-false}
use Rattle.codec.specs.Laws.Tests.{or_none}
use Rattle.site.specs.Step.{force, given}
use Rattle.site.specs.Answers.{effects_in}
use Rattle.joint.specs.State.{Site}
use Rattle.joint.specs.Inside.{site_after, then_site, moves, writes_log}
use Rattle.joint.specs.declared.rows.Row.{Row}
use Rattle.joint.specs.declared.rows.Then.{Then}
use Rattle.joint.specs.declared.rows.Then.TheVariants as follows
use Rattle.joint.proofs.Base.Booleans.{clash}
use Rattle.joint.proofs.Engine.Effects.{site-row, kind-none}

-- ---- what follows, where a match leaves it

pub unmoved : (x : Then) → ((last : Bool) → x ≡ follows.Discarded last → ⊥) → ((keep : ℕ) → x ≡ follows.Down keep → ⊥) → moves x ≡ false
unfolding moves
unmoved follows.Same off cut = refl
unmoved (follows.Coordinator c) off cut = refl
unmoved (follows.Participant c) off cut = refl
unmoved (follows.Opened g) off cut = refl
unmoved (follows.Discarded last) off cut = absurd (off last refl)
unmoved (follows.Down keep) off cut = absurd (cut keep refl)
unmoved follows.Marked off cut = refl

-- it goes down, and no record moves: none is kept
pub unkept : (x : Then) (keep : ℕ) → x ≡ follows.Down keep → moves x ≡ false → keep ≡ 0
unfolding moves
unkept x keep e d = eqb-true keep 0 (not-false _ (rw e at d))

-- no record moves, and the site stays up
pub unchanged : (x : Then) → ((keep : ℕ) → x ≡ follows.Down keep → ⊥) → moves x ≡ false
    → (t : ℕ) (a : Site) → a ≡ then_site t x a
unfolding moves then_site
unchanged follows.Same off d t a = refl
unchanged (follows.Coordinator c) off d t a = refl
unchanged (follows.Participant c) off d t a = refl
unchanged (follows.Opened g) off d t a = refl
unchanged (follows.Discarded last) off d t a = absurd (clash d)
unchanged (follows.Down keep) off d t a = absurd (off keep refl)
unchanged follows.Marked off d t a = refl

-- ---- a row that leaves the records

-- it has a force at most, and none of them moves
pub recordless : (x : Row) → writes_log x ≡ false
    → (moves x.then ≡ false) × ((t : ℕ) (a : Site) → site_after t (given x.effects.forced (force ∷ [])) a ≡ site_after t (effects_in t x.effects) a)
unfolding writes_log
recordless x h =
    let e = x.effects in
    let p = or_none (not (eqb e.appended 0) || not (eqb e.last 0)) (moves x.then) h in
    let q = or_none (not (eqb e.appended 0)) (not (eqb e.last 0)) p.0 in (
      p.1,
      λ t a. sym
          (site-row t a e
          ∙ sym (kind-none t e.last _ _ (eqb-true e.last 0 (not-false _ q.1)))
          ∙ ap (site_after t (given e.forced (force ∷ []))) (sym (kind-none t e.appended _ a (eqb-true e.appended 0 (not-false _ q.0))))),
    )
