-- A text of 220,924 bytes is long enough for every drill, so what is counted is the drill. Assumes nothing.
use Rattle.std.proofs.Common.{◌≡◌, ◌≤◌, length, take, ℕ, ◌+◌, true, List, ◌++◌, sym, ap}
use Rattle.std.specs.Prelude.{drop}
use Rattle.std.proofs.lemmas.Bool.{le-leb}
use Rattle.std.proofs.lemmas.List.{length-append, take_at}
use Rattle.std.proofs.Math.Dec.{leb}
use native.Mathlib.Omega.{arith}
use Rattle.io.specs.Counts.{IsPrefixLen}
use Rattle.codec.specs.Image.{stored, Written}
use Rattle.codec.specs.Answers.{written}
use Rattle.joint.specs.Drill.{drill, text_into, drill_into}
use Rattle.drill.proofs.lines.Goals as goal

whole : (input buffer text : List ℕ) (r : ℕ) → 220924 ≤ length buffer → length (drill input) ≤ 220924 → written r text ≡ drill_into input buffer
    → IsPrefixLen r text × (take r text ≡ drill input)
unfolding drill_into text_into stored
whole input buffer text r h k e =
    let d = drill input in
    let fits : leb (length d) (length buffer) ≡ true = le-leb (length d) (length buffer) (omega arith) in
    let all : written r text ≡ written (length d) (d ++ drop (0 + length d) buffer) = rw fits at e in
    let n : r ≡ length d = ap (λ (x : Written). x.answer) all in
    let held : text ≡ d ++ drop (0 + length d) buffer = ap (λ (x : Written). x.buffer) all in
    let front : take r text ≡ d = rw (held, take_at d (drop (0 + length d) buffer) r (sym n)) in
    let room : r ≤ length text = rw (n, held, length-append) (omega arith) in
    ((room, rw front n), front)

pub returns-clause-prefix_len : goal.returns-clause-prefix_len
returns-clause-prefix_len c =
    (whole c.args.input.now c.args.text.now c.drill.new.text c.unwrap.result c.requires c.drill.ensures.input_len_bound (rw c.unwrap.ensures at c.drill.ensures.text_after)).0

pub returns-clause-text_after : goal.returns-clause-text_after
returns-clause-text_after c =
    (whole c.args.input.now c.args.text.now c.drill.new.text c.unwrap.result c.requires c.drill.ensures.input_len_bound (rw c.unwrap.ensures at c.drill.ensures.text_after)).1
