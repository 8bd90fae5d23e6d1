use mathlib.Core.Path.{◌≡◌, refl, ap, sym, ◌∙◌}
use Prim.Native.Nat.{ℕ, ◌+◌, ◌-◌, ◌*◌, ◌<◌}
use native.Mathlib.Omega.{arith}
use Rattle.codec.specs.Image.{site_in, count_in}
use Rattle.codec.specs.Answers.{values, image_values}
use Rattle.codec.specs.Inside.{Within, word_at}
use Rattle.codec.proofs.Held.{held}
use Rattle.codec.proofs.Filled.{filled_none, filled_next, filled_all, within, image-stopped, records-refused, answer_at}
use Rattle.codec.proofs.reader.read_records.Goals as goal
use Rattle.codec.proofs.reader.read_records.Goals.{In-loop-i, After-read-read, After-from-in-loop-i}

more : (c : In-loop-i) → c.loop-i.i < count_in c.args.bytes.now
more c = rw c.loop-i.invariant.0 at c.loop-i-test.true

-- record i and its pair lie in the image
inside : (c : In-loop-i) → Within c.args.bytes.now c.loop-i.at c.loop-i.i
inside c = within c.args.bytes.now c.requires c.loop-i.log.records c.loop-i.newest.of c.loop-i.at c.loop-i.i c.loop-i.invariant.1.1.1 (more c)

named : {p : ℕ × ℕ} {r a b : ℕ} → r ≡ p.1 → p ≡ (a, b) → r ≡ b
named e is = e ∙ ap (λ (p : ℕ × ℕ). p.1) is

-- the record ends where the pair says
size : (c : After-from-in-loop-i) → c.from-in-loop-i.result ≡ word_at c.args.bytes.now (6 + 4 * c.loop-i.i + 2)
size c = named c.from-in-loop-i.ensures c.pair.ensures

-- what the reader of one record answers
read_is : (c : After-read-read) → c.read-read.result ≡ answer_at c.args.bytes.now c.loop-i.newest.of c.loop-i.at (word_at c.args.bytes.now (6 + 4 * c.loop-i.i + 2))
read_is c =
    let part : c.loop-i.at + c.from-in-loop-i.result - c.loop-i.at ≡ word_at c.args.bytes.now (6 + 4 * c.loop-i.i + 2) = omega (arith, named c.from-in-loop-i.ensures c.pair.ensures) in
    (rw c.loop-i.invariant.1.0 at c.read-read.ensures) ∙ ap (answer_at c.args.bytes.now c.loop-i.newest.of c.loop-i.at) part

pub loop-i-init : goal.loop-i-init
unfolding site_in count_in
loop-i-init c = rw (c.new-log.ensures, c.none-newest.ensures, c.head_length-at.ensures) (c.from.ensures, (refl, (c.from.ensures, filled_none _ c.requires)))

pub pair-requires : goal.pair-requires
pair-requires c = (inside c).pair

pub overflow_add-end : goal.overflow_add-end
overflow_add-end c = let p = (inside (goal.at.overflow_add-end c).In-loop-i).part in omega (arith, size c)

pub slice_bounds-read-end : goal.slice_bounds-read-end
slice_bounds-read-end c = rw (size c) (inside (goal.at.slice_bounds-read-end c).In-loop-i).part

pub returns-in_default : goal.returns-in_default
unfolding image_values values
returns-in_default c =
    let e = c.unwrap_err.result in
    let told = sym (read_is (goal.at.returns-in_default c).After-read-read) ∙ c.unwrap_err.ensures in
    let struck = image-stopped c.args.bytes.now c.requires c.loop-i.log.records c.loop-i.newest.of c.loop-i.at c.loop-i.i c.loop-i.invariant.1.1.1 (more (goal.at.returns-in_default c).In-loop-i) e told in
    ap values (records-refused c.args.bytes.now e _ struck.0 struck.1)

pub loop-i-preserved : goal.loop-i-preserved
loop-i-preserved c =
    let inv = c.loop-i.invariant in
    let v = (goal.at.loop-i-preserved c).After-read-read in
    let next = filled_next c.args.bytes.now c.requires c.loop-i.log.records c.loop-i.newest.of c.loop-i.at c.loop-i.i inv.1.1.1 (more (goal.at.loop-i-preserved c).In-loop-i) c.in-Ok.record (sym (read_is v) ∙ c.in-Ok.is) in
    (inv.0, (inv.1.0, (inv.1.1.0, rw (c.with-newest.ensures, size (goal.at.loop-i-preserved c).After-from-in-loop-i) next)))

pub returns : goal.returns
unfolding image_values
returns c =
    let inv = c.loop-i.invariant in
    rw (held c.loop-i.log (rw inv.1.1.0 c.requires.few), inv.1.0, inv.1.1.0) (filled_all c.args.bytes.now c.requires c.loop-i.log.records c.loop-i.newest.of c.loop-i.at c.loop-i.i inv.1.1.1 (rw inv.0 at c.loop-i-test.false))
