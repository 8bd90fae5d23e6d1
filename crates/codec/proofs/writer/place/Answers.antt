use mathlib.Core.Path.{◌≡◌, ap, ◌∙◌}
use Prim.Native.Nat.{◌≤◌}
use native.Mathlib.Omega.{arith}
use borrow.Author.Rules.{rules}
use lib.ListN.{length, length-take, length-drop}
use Rattle.codec.specs.Lists.{first}
use Rattle.codec.specs.Image.{image, log_refusals}
use Rattle.codec.specs.declared.log.Log.{Log}
use Rattle.codec.specs.Answers.{log_in, written}
use Rattle.codec.specs.Laws.Stored.{stored-part}
use Rattle.codec.specs.Laws.Refusals.{write_short, write_whole}
use Rattle.codec.proofs.Held.{held-count, passed_few, image-size}
use Rattle.codec.proofs.writer.place.Goals as goal
use Rattle.codec.proofs.writer.place.Goals.{After-size_of-size, then-buffer-at-via-then-buffer-at, then-buffer-at-via-else-buffer-at+then-buffer-at-2}

few : (l : Log) → first (log_refusals l.site (log_in l)) ≡ 0 → length l.records ≡ 24 → l.count ≤ 24
few l passes fit = omega (arith, passed_few l.site (log_in l) passes, held-count l fit)

size : (c : After-size_of-size) → let l = c.args.log.now in c.size_of-size.result ≡ length (image l.site (log_in l))
size c =
    let l = c.args.log.now in
    let fit : length l.records ≡ 24 = search rules in
    c.size_of-size.ensures ∙ rw c.held.ensures (image-size l (few l c.requires fit) fit)

pub held-requires : goal.held-requires
held-requires c = few c.args.log.now c.requires (search rules)

pub returns-then-buffer-at : goal.returns-then-buffer-at
returns-then-buffer-at c =
    let l = c.args.log.now in
    let e = size (goal.at.returns-then-buffer-at c).After-size_of-size in
    elim c.then-buffer-at.branch [
      | then-buffer-at-via-then-buffer-at w ↦ write_short l.site _ c.args.at c.args.buffer.now c.requires (omega arith)
      | then-buffer-at-via-else-buffer-at+then-buffer-at-2 w ↦ write_short l.site _ c.args.at c.args.buffer.now c.requires (omega arith)
    ]

pub write_front-requires-clause-few : goal.write_front-requires-clause-few
write_front-requires-clause-few c = few c.args.log.now c.requires (search rules)

pub write_front-requires-clause-room : goal.write_front-requires-clause-room
write_front-requires-clause-room c =
    simp (length-take, length-drop) (omega (arith, size (goal.at.write_front-requires-clause-room c).After-size_of-size))

pub returns : goal.returns
returns c =
    let l = c.args.log.now in
    ap (written 0) (stored-part c.args.at _ c.args.buffer.now _ c.write_front.ensures)
    ∙ write_whole l.site _ c.args.at c.args.buffer.now c.requires (omega (arith, size (goal.at.returns c).After-size_of-size))
