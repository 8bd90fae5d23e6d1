-- Bytes written one behind the other in a text. Assumes nothing.
use Rattle.std.proofs.Common.{ℕ, ◌+◌, ◌-◌, ◌≡◌, ◌≤◌, refl, sym, ap, ◌∙◌, List, [], ◌++◌, zero-add, arith}
use mathlib.Core.List.{append_assoc}
use Rattle.std.proofs.Math.ListN.{length, take, drop}
use Rattle.std.proofs.Math.Seq.{drop-drop, take_at}
use borrow.Rule.Slice.PartMut.{put_mid}
use Rattle.codec.specs.Image.{stored}
use Rattle.codec.specs.Laws.Stored as lent
use Rattle.codec.specs.Laws.Stored.{Next}
use Rattle.drill_text.specs.declared.text.Text.{Text}
use Rattle.drill_text.specs.Inside.{Room, Pushed}

-- bytes that were copied to a part of a buffer
pub part_stored : (from next : ℕ) (x buffer y : List ℕ) → next ≡ from + length x → y ≡ x → put_mid from (next - from) buffer y ≡ stored from x buffer
unfolding stored
part_stored from next x buffer y n e =
    let size : next - from ≡ length x = omega arith in
    rw (e, size, drop-drop, ← append_assoc (take from buffer) x (drop (from + length x) buffer)) refl

-- a text in which `rest` is left to be written, so that it then has `all` behind where it began
pub record Left (start now : Text) (all rest : List ℕ) : Type 0 where
  pub same : now.bytes.ghost_name ≡ start.bytes.ghost_name
  pub left : lent.Left start.end all start.bytes.now now.end rest now.bytes.now

pub left_start : {t : Text} {all : List ℕ} → Room t all → Left t t all all
left_start h = record { same = refl; left = lent.left-start h }

module _ {start now : Text} {all bytes x rest : List ℕ} (l : Left start now all bytes) (e : Next bytes x rest) where
  pub left_room : Room now x
  left_room = lent.left_room l.left e

  pub left_next : {new : Text} → Pushed now new x → Left start new all rest
  left_next p = record { same = p.same ∙ l.same; left = lent.left_next l.left e _ p.end _ p.bytes }

pub left_end : {start now : Text} {all rest : List ℕ} → Left start now all rest → rest ≡ [] → Pushed start now all
left_end l e = record { same = l.same; bytes = lent.left_end l.left e; end = omega (arith, l.left.size, ap length e) }

-- x and then y
pub front : {x y : List ℕ} → Next (x ++ y) x y
front = record { split = refl }

-- x in two parts
pub inner : {bytes x rest y z : List ℕ} → Next bytes x rest → Next x y z → Next bytes y (z ++ rest)
inner {rest = rest} {y = y} {z = z} e f = record { split = e.split ∙ ap (◌++ rest) f.split ∙ append_assoc y z rest }

pub room_first : (t : Text) (x y : List ℕ) → Room t (x ++ y) → Room t x
room_first t x y h = left_room (left_start {t = t} h) (front {x = x} {y = y})

pub room_then : {t u : Text} {x : List ℕ} (y : List ℕ) → Room t (x ++ y) → Pushed t u x → Room u y
room_then y h p = left_room (left_next (left_start h) front p) lent.next_last

pub pushed_both : {t u v : Text} {x y : List ℕ} → Room t (x ++ y) → Pushed t u x → Pushed u v y → Pushed t v (x ++ y)
pushed_both h p q = left_end (left_next (left_next (left_start h) front p) lent.next_last q) refl

-- where x ends, and x at the front
pub pushed_within : {t u : Text} {x : List ℕ} → Room t x → Pushed t u x → u.end ≤ length u.bytes.now
pushed_within {t} {u} {x} h p = rw (p.bytes, p.end, lent.length-stored t.end x t.bytes.now h) h

pub pushed_front : {t u : Text} {x : List ℕ} → t.end ≡ 0 → Pushed t u x → take u.end u.bytes.now ≡ x
unfolding stored
pushed_front {t} {u} {x} e p = rw (p.bytes, p.end, e) (take_at x (drop (0 + length x) t.bytes.now) (0 + length x) (sym (zero-add (length x))))
