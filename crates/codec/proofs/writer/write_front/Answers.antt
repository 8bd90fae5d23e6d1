use mathlib.Core.Path.{◌≡◌, refl, ◌∙◌}
use mathlib.Core.List.{◌++◌}
use Prim.Native.Nat.{◌-◌}
use native.Mathlib.Nat.{le_trans, le-add_right}
use native.Mathlib.Omega.{arith}
use borrow.Author.Rules.{rules}
use lib.ListN.{length}
use borrow.Rule.Slice.PartMut.{put_mid}
use Rattle.codec.specs.Image.{magic, image}
use Rattle.codec.specs.Answers.{log_in}
use Rattle.codec.specs.Laws.Stored.{Left, left_front, next_last, left-part, left_next, left_put, stored-part}
use Rattle.codec.proofs.InTurn.{table_of, records_of, image_head, image_table, head_end}
use Rattle.codec.proofs.writer.write_front.Goals as goal
use Rattle.codec.proofs.writer.write_front.Goals.{After-write_head, After-head_length}

pub write_head-requires : goal.write_head-requires
unfolding image magic
write_head-requires c = omega (arith, c.requires.room)

-- the table and the records are left
headed : (c : After-write_head)
    →
    let l = c.args.log.now in
    let records = c.held-records.result.now in
    Left 0 (image l.site (log_in l)) c.args.out.now 6 (table_of records ++ records_of records) c.write_head.new.out
unfolding magic
headed c =
    let fit : length c.args.log.now.records ≡ 24 = search rules in
    left_next (left_front c.requires.room) (image_head c.args.log.now c.requires.few fit _ c.held-records.ensures) 6 refl _ c.write_head.ensures

pub slice_bounds-write_pairs-count : goal.slice_bounds-write_pairs-count
slice_bounds-write_pairs-count c = le_trans (le-add_right _ _) (headed (goal.at.slice_bounds-write_pairs-count c).After-write_head).room

pub slice_bounds-write_pairs-start : goal.slice_bounds-write_pairs-start
slice_bounds-write_pairs-start c = le_trans (le-add_right _ _) (headed (goal.at.slice_bounds-write_pairs-start c).After-write_head).room

pub write_pairs-requires-clause-room : goal.write_pairs-requires-clause-room
write_pairs-requires-clause-room c = left-part (headed (goal.at.write_pairs-requires-clause-room c).After-write_head) (image_table _)

-- the records are left
tabled : (c : After-head_length)
    →
    let l = c.args.log.now in
    let out = c.write_head.new.out in
    Left 0 (image l.site (log_in l)) c.args.out.now c.head_length.result (records_of c.held-records.result.now) (put_mid 6 (length out - 6) out c.write_pairs.new.out)
unfolding magic
tabled c =
    let fit : length c.args.log.now.records ≡ 24 = search rules in
    let l = c.args.log.now in
    let head = left_next (left_front c.requires.room) (image_head l c.requires.few fit _ c.held-records.ensures) 6 refl _ c.write_head.ensures in
    left_put head (image_table _) _ (c.head_length.ensures ∙ head_end l c.requires.few fit _ c.held-records.ensures) _ c.write_pairs.ensures

pub slice_bounds-write_records-count : goal.slice_bounds-write_records-count
slice_bounds-write_records-count c = le_trans (le-add_right _ _) (tabled (goal.at.slice_bounds-write_records-count c).After-head_length).room

pub slice_bounds-write_records-start : goal.slice_bounds-write_records-start
slice_bounds-write_records-start c = le_trans (le-add_right _ _) (tabled (goal.at.slice_bounds-write_records-start c).After-head_length).room

pub write_records-requires-clause-room : goal.write_records-requires-clause-room
write_records-requires-clause-room c = left-part (tabled (goal.at.write_records-requires-clause-room c).After-head_length) next_last

pub returns : goal.returns
returns c = stored-part _ _ _ _ c.write_records.ensures ∙ (tabled (goal.at.returns c).After-head_length).whole
