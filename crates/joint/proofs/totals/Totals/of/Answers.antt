use Prim.Native.Nat.{ℕ, zero, suc, ◌/◌, ◌%◌, ◌<◌}
use mathlib.Core.Path.{◌≡◌, refl}
use native.Mathlib.Omega.{arith}
use Rattle.std.specs.Prelude.{Option, None, Some, SomeIff}
use Rattle.std.specs.Option.{unwrap_or}
use Rattle.joint.specs.Totals as plain
use Rattle.joint.specs.Totals.{totals_of}
use Rattle.joint.specs.Answers.{totals_seen}
use Rattle.joint.proofs.totals.Totals.of.Goals as goal

divided : (f n : ℕ) (q r : Option ℕ) → SomeIff q (0 < n) (f / n) → SomeIff r (0 < n) (f % n)
    → ◌≡◌ {A = plain.Totals} (record { forces = f; handovers = n; quotient = unwrap_or q 0; remainder = unwrap_or r f }) (totals_of f n)
unfolding totals_of
divided f zero None None q r = refl
divided f zero None (Some y) q r = absurd (omega (arith, r.0))
divided f zero (Some x) r q h = absurd (omega (arith, q.0))
divided f (suc n) None r q h = absurd (q (omega arith))
divided f (suc n) (Some x) None q r = absurd (r (omega arith))
divided f (suc n) (Some x) (Some y) q r = rw (q.1, r.1) refl

pub returns : goal.returns
unfolding totals_seen
returns c = rw (c.unwrap_or.ensures, c.unwrap_or-2.ensures) (divided _ _ _ _ c.checked_div.ensures c.checked_rem.ensures)
