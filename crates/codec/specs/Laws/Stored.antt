-- Bytes stored one behind the other in a lent buffer. Assumes nothing.
use Rattle.std.specs.Prelude.{ℕ, ◌+◌, ◌-◌, ◌≤◌, ◌<◌, ◌≡◌, refl, set, take, drop}
use Rattle.std.proofs.Common.{sym, ap, ◌∙◌, add_assoc, add-zero, zero-add, add-one, arith, length-drop, take-append-drop, drop_of_length-le, take_at, take_all}
use mathlib.Core.List.{List, [], ◌∷◌, ◌++◌, append_assoc, append-nil}
use Rattle.std.proofs.Math.ListN.{length, length-append, length-take}
use Rattle.std.proofs.lemmas.List.Edits.{sets-eq}
use Rattle.std.proofs.Math.Seq.{drop_at, drop-drop}
use borrow.Rule.Slice.PartMut.{mid_of, put_mid}
use Rattle.codec.specs.Image.{stored}

module _ (at : ℕ) (x buffer : List ℕ) (h : at + length x ≤ length buffer) where
  pub length-stored : length (stored at x buffer) ≡ length buffer
  unfolding stored
  length-stored = simp (length-append, length-take, length-drop) (omega arith)

  pub stored-append : (y : List ℕ) → stored at (x ++ y) buffer ≡ stored (at + length x) y (stored at x buffer)
  unfolding stored
  stored-append y =
      let front : length (take at buffer ++ x) ≡ at + length x = simp (length-append, length-take) (omega arith) in
      rw (take_at, ← drop-drop (length y) (at + length x) (stored at x buffer), drop_at, drop-drop, length-append, ← append_assoc, add_assoc)

-- at the front, and behind it
pub stored-two : (x y buffer : List ℕ) → length x ≤ length buffer → stored (length x) y (stored 0 x buffer) ≡ stored 0 (x ++ y) buffer
stored-two x y buffer h =
    ap (λ (n : ℕ). stored n y (stored 0 x buffer)) (sym (zero-add (length x))) ∙ sym (stored-append 0 x buffer (omega arith) y)

stored_nil : (at : ℕ) (buffer : List ℕ) → stored at [] buffer ≡ buffer
unfolding stored
stored_nil at buffer = rw (append-nil, add-zero, take-append-drop)

-- what is stored at the front of the part from `at` on, when the part is back
pub stored-part : (at : ℕ) (x buffer y : List ℕ) → y ≡ stored 0 x (mid_of at (length buffer - at) buffer) → put_mid at (length buffer - at) buffer y ≡ stored at x buffer
unfolding stored
stored-part at x buffer y e =
    let part : mid_of at (length buffer - at) buffer ≡ drop at buffer = take_all (length buffer - at) (drop at buffer) (simp length-drop (omega arith)) in
    let behind : drop (length buffer - at) (drop at buffer) ≡ [] = drop_of_length-le (drop at buffer) {i = length buffer - at} (simp length-drop (omega arith)) in
    rw (e, part, behind, append-nil (x ++ drop (0 + length x) (drop at buffer)), drop-drop, zero-add, ← append_assoc (take at buffer) x (drop (at + length x) buffer))

-- one byte, two bytes
pub set-stored : (buffer : List ℕ) (i b : ℕ) → i < length buffer → set buffer i b ≡ stored i (b ∷ []) buffer
unfolding stored
set-stored buffer i b h = sets-eq (b ∷ []) buffer i (omega arith)

pub two-stored : (buffer : List ℕ) (at a b : ℕ) → at + 2 ≤ length buffer → set (set buffer at a) (at + 1) b ≡ stored at (a ∷ b ∷ []) buffer
unfolding stored
two-stored buffer at a b h = rw add-one (sets-eq (a ∷ b ∷ []) buffer at h)

-- ---- a buffer in which `rest` is left to be stored from `at` on, so that it holds `all` from `from` on where it began as `start`

pub record Left (from : ℕ) (all start : List ℕ) (at : ℕ) (rest buffer : List ℕ) : Type 0 where
  pub size : at + length rest ≡ from + length all
  pub room : at + length rest ≤ length buffer
  pub same : length buffer ≡ length start
  pub whole : stored at rest buffer ≡ stored from all start

pub left-start : {from : ℕ} {all start : List ℕ} → from + length all ≤ length start → Left from all start from all start
left-start h = record { size = refl; room = h; same = refl; whole = refl }

pub left_front : {all start : List ℕ} → length all ≤ length start → Left 0 all start 0 all start
left_front h = left-start (omega arith)

pub left_end : {from : ℕ} {all start : List ℕ} {at : ℕ} {rest buffer : List ℕ} → Left from all start at rest buffer → rest ≡ [] → buffer ≡ stored from all start
left_end {at = at} {buffer = buffer} l e = sym (stored_nil at buffer) ∙ (rw e at l.whole)

-- x is stored next
pub record Next (bytes x rest : List ℕ) : Type 0 where
  pub split : bytes ≡ x ++ rest

pub next_last : {x : List ℕ} → Next x x []
next_last {x} = record { split = sym (append-nil x) }

module _ {from : ℕ} {all start : List ℕ} {at : ℕ} {bytes buffer x rest : List ℕ} (l : Left from all start at bytes buffer) (e : Next bytes x rest) where
  parts : length bytes ≡ length x + length rest
  parts = ap length e.split ∙ length-append x rest

  pub left_room : at + length x ≤ length buffer
  left_room = omega (arith, l.room, parts)

  pub left_next : (next : ℕ) → next ≡ at + length x → (y : List ℕ) → y ≡ stored at x buffer → Left from all start next rest y
  left_next next n y s =
      let kept : length y ≡ length buffer = rw s (length-stored at x buffer left_room) in
      record {
        size = omega (arith, l.size, parts);
        room = omega (arith, l.room, parts);
        same = kept ∙ l.same;
        whole = rw (n, s, ← stored-append at x buffer left_room rest, ← e.split) l.whole;
      }

  -- the same where the part from `at` on is lent on, and x is stored at its front
  pub left-part : length x ≤ length (mid_of at (length buffer - at) buffer)
  left-part = simp (length-take, length-drop) (omega (arith, left_room))

  pub left_put : (next : ℕ) → next ≡ at + length x → (y : List ℕ) → y ≡ stored 0 x (mid_of at (length buffer - at) buffer)
      → Left from all start next rest (put_mid at (length buffer - at) buffer y)
  left_put next n y s = left_next next n (put_mid at (length buffer - at) buffer y) (stored-part at x buffer y s)
