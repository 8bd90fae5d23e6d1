use Rattle.std.proofs.Common.{ℕ, ◌-◌, ◌≡◌, ◌∙◌, length, take, drop, arith, length-drop}
use lib.Seq.{take_all}
use Rattle.joint.specs.Drill.{decimal}
use Rattle.drill_text.specs.declared.number.Digits.{Digits}
use Rattle.drill_text.proofs.Pushed.{room_first, room_then, pushed_both}
use Rattle.drill_text.proofs.text.Text.push_field.Goals as goal

-- the digits that are lent
lent : (d : Digits) (n : ℕ) → drop d.from d.of ≡ decimal 19 n → take (length d.of - d.from) (drop d.from d.of) ≡ decimal 19 n
lent d n e = take_all (length d.of - d.from) (drop d.from d.of) (omega (arith, length-drop d.from d.of)) ∙ e

pub push-requires : goal.push-requires
push-requires c = rw (lent c.of-digits.result c.args.n c.of-digits.ensures.1) (room_first c.args.self.now _ _ c.requires)

pub push-requires-2 : goal.push-requires-2
push-requires-2 c = room_then _ c.requires (rw (lent c.of-digits.result c.args.n c.of-digits.ensures.1) at c.push.ensures)

pub returns : goal.returns
returns c =
    pushed_both c.requires (rw (lent c.of-digits.result c.args.n c.of-digits.ensures.1) at c.push.ensures) c.push-2.ensures
