use Prim.Native.Nat.{ℕ, ◌+◌, ◌-◌, ◌<◌, ◌≤◌}
use mathlib.Core.Path.{◌≡◌, refl, sym, ◌∙◌}
use mathlib.Core.Bool.{Bool, true, false, not, ◌&&◌, ◌||◌, or-false}
use mathlib.Core.List.{[], ◌∷◌}
use native.Mathlib.Omega.{arith}
use lib.Dec.{T, eqb}
use Rattle.codec.specs.Lists.{any}
use Rattle.codec.specs.Records.{awaits_acks}
use Rattle.codec.specs.Answers.{record_in}
use Rattle.codec.specs.Laws.Tests.{alike, alike_eq, below, below_at}
use Rattle.codec.specs.declared.record.Record.{Record}
use Rattle.joint.specs.Plan.{closes}
use Rattle.joint.proofs.records.closes.Goals as goal

commit_closes : (x : Record) → x.kind ≡ 2 → not (awaits_acks (record_in x)) ≡ closes (record_in x)
unfolding closes any record_in
commit_closes x e = rw e refl

-- kind k is not 2, and a record of it closes or not, as b says
abbrev told : Bool → ℕ → Bool
told b k = not (eqb k 2) && alike b (any (eqb k) (3 ∷ 4 ∷ 6 ∷ 7 ∷ []))

by_told : (two b c d : Bool) → T (not two && alike b c) → b ≡ (c || (two && d))
by_told true b c d t = absurd t
by_told false b c d t = alike_eq b c t ∙ sym (or-false c)

-- n kinds from k on
other_closes : (k n : ℕ) (b : Bool) → T (below n (λ j. told b (k + j))) → (x : Record) → k ≤ x.kind → x.kind < k + n → b ≡ closes (record_in x)
unfolding closes record_in
other_closes k n b t x l h =
    let e : x.kind ≡ k + (x.kind - k) = omega arith in
    by_told (eqb x.kind 2) b (any (eqb x.kind) (3 ∷ 4 ∷ 6 ∷ 7 ∷ [])) _
    (rw (← e) at (below_at n (λ j. told b (k + j)) t (x.kind - k) (omega arith)))

pub returns-in-2 : goal.returns-in-2
returns-in-2 c =
    rw c.awaits_acks.ensures (commit_closes c.args.x c.in-2.is)

pub returns-in-3 : goal.returns-in-3
unfolding any
returns-in-3 c = other_closes 3 2 true tt c.args.x (omega arith) (omega arith)

pub returns-in-3-2 : goal.returns-in-3-2
unfolding any
returns-in-3-2 c = other_closes 6 2 true tt c.args.x (omega arith) (omega arith)

pub returns-in_default : goal.returns-in_default
unfolding any
returns-in_default c = other_closes 0 2 false tt c.args.x (omega arith) (omega arith)

pub returns-in_default-2 : goal.returns-in_default-2
unfolding any
returns-in_default-2 c = other_closes 5 1 false tt c.args.x (omega arith) (omega arith)

pub returns-in_default-3 : goal.returns-in_default-3
unfolding any
returns-in_default-3 c = other_closes 8 248 false tt c.args.x (omega arith) (omega arith)
