use Rattle.std.proofs.Common.{refl, arith}
use Rattle.drill_text.proofs.Pushed.{left_start, left_room, left_next, left_end}
use Rattle.drill_text.proofs.Texts.{field_next, field_last, fields_next}
use Rattle.drill_text.proofs.text.Text.push_fields.Goals as goal

pub push_field-requires : goal.push_field-requires
push_field-requires c = left_room (left_start {t = c.args.self.now} c.requires) (fields_next c.args.numbers (omega arith))

pub push_field-requires-2 : goal.push_field-requires-2
push_field-requires-2 c = left_room (left_next (left_start {t = c.args.self.now} c.requires) (fields_next c.args.numbers (omega arith)) c.push_field.ensures) (field_next 19 _ _ _)

pub push_field-requires-3 : goal.push_field-requires-3
push_field-requires-3 c = left_room (left_next (left_next (left_start {t = c.args.self.now} c.requires) (fields_next c.args.numbers (omega arith)) c.push_field.ensures) (field_next 19 _ _ _) c.push_field-2.ensures) (field_next 19 _ _ _)

pub push_field-requires-4 : goal.push_field-requires-4
push_field-requires-4 c = left_room (left_next (left_next (left_next (left_start {t = c.args.self.now} c.requires) (fields_next c.args.numbers (omega arith)) c.push_field.ensures) (field_next 19 _ _ _) c.push_field-2.ensures) (field_next 19 _ _ _) c.push_field-3.ensures) (field_last 19 _)

pub returns : goal.returns
returns c = left_end (left_next (left_next (left_next (left_next (left_start {t = c.args.self.now} c.requires) (fields_next c.args.numbers (omega arith)) c.push_field.ensures) (field_next 19 _ _ _) c.push_field-2.ensures) (field_next 19 _ _ _) c.push_field-3.ensures) (field_last 19 _) c.push_field-4.ensures) refl
