use Rattle.std.proofs.Common.{◌+◌, ◌≡◌, length, arith}
use Rattle.drill_text.specs.Decimal.{AllDigits, value}
use Rattle.drill_text.proofs.Decimal.{Digit, digit, value_is, digits_of}
use Rattle.drill_text.proofs.number.Number.count.Goals as goal
use Rattle.drill_text.proofs.number.Number.count.Goals.{Joined-e-lt57, then-e-lt57, else-e-lt57+then-d-lt57, else-e-lt57+else-d-lt57+then-c-lt57, else-e-lt57+else-d-lt57+else-c-lt57+then-b-lt57, else-e-lt57+else-d-lt57+else-c-lt57+else-b-lt57}

-- the digits stay digits, and show one more
counted : (c : Joined-e-lt57) → AllDigits c.if-e-lt57.self × (value c.if-e-lt57.self ≡ value c.args.self.now.digits + 1)
counted c =
    let l = c.args.self.now.digits in
    let five : length l ≡ 5 = omega arith in
    let is = value_is l five c.args.self.now.in_range in
    let a = digit l five c.args.self.now.in_range 0 (omega arith) in
    let b = digit l five c.args.self.now.in_range 1 (omega arith) in
    let c' = digit l five c.args.self.now.in_range 2 (omega arith) in
    let d = digit l five c.args.self.now.in_range 3 (omega arith) in
    let e = digit l five c.args.self.now.in_range 4 (omega arith) in
    let nought : Digit 48 = (omega arith, omega arith) in
    elim c.if-e-lt57.branch [
      | then-e-lt57 w ↦ rw w.self-is (digits_of a b c' d (omega arith, omega arith) _ (omega arith))
      | else-e-lt57+then-d-lt57 w ↦ rw w.self-is (digits_of a b c' (omega arith, omega arith) nought _ (omega arith))
      | else-e-lt57+else-d-lt57+then-c-lt57 w ↦ rw w.self-is (digits_of a b (omega arith, omega arith) nought nought _ (omega arith))
      | else-e-lt57+else-d-lt57+else-c-lt57+then-b-lt57 w ↦ rw w.self-is (digits_of a (omega arith, omega arith) nought nought nought _ (omega arith))
      | else-e-lt57+else-d-lt57+else-c-lt57+else-b-lt57 w ↦ rw w.self-is (digits_of (omega arith, omega arith) nought nought nought nought _ (omega arith))
    ]

pub invariant_of-self : goal.invariant_of-self
invariant_of-self c = record { in_range = (counted c).0 }

pub returns : goal.returns
returns c = (counted (goal.at.returns c).Joined-e-lt57).1
