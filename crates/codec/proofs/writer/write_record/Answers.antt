use mathlib.Core.Path.{ap, ◌∙◌}
use mathlib.Core.List.{List}
use Prim.Native.Nat.{ℕ}
use native.Mathlib.Omega.{arith}
use lib.ListN.{set, length-set}
use Rattle.codec.specs.Laws.Fields.{bytes_length, length_most}
use Rattle.codec.proofs.Stored.{stored_record}
use Rattle.codec.proofs.writer.write_record.Goals as goal
use Rattle.codec.proofs.writer.write_record.Goals.{Then-size-gt3, then-size-gt2, else-size-gt2}

pub bounds-out-0 : goal.bounds-out-0
bounds-out-0 c = omega (arith, bytes_length c.args.x)

pub bounds-out-1 : goal.bounds-out-1
bounds-out-1 c = simp length-set (omega (arith, bytes_length c.args.x))

pub returns-then-size-gt3 : goal.returns-then-size-gt3
returns-then-size-gt3 c =
    let a = c.args in
    elim c.if-size-gt2.branch [
      | then-size-gt2 w ↦ ap (λ (l : List ℕ). set l 3 a.x.second) w.out-is ∙ stored_record a.x 2 a.out.now c.requires (omega (arith, bytes_length a.x, length_most a.x.kind))
      | else-size-gt2 w ↦ absurd (omega arith)
    ]

pub returns-else-size-gt3 : goal.returns-else-size-gt3
returns-else-size-gt3 c =
    let a = c.args in
    elim c.if-size-gt2.branch [
      | then-size-gt2 w ↦ w.out-is ∙ stored_record a.x 1 a.out.now c.requires (omega arith)
      | else-size-gt2 w ↦ w.out-is ∙ stored_record a.x 0 a.out.now c.requires (omega (arith, bytes_length a.x))
    ]
