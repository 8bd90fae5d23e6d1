-- Events cut from bytes, and their answers as bytes: how many there are. Assumes nothing.
use Rattle.std.specs.Prelude.{ℕ, zero, suc, ◌+◌, ◌*◌, ◌/◌, min, ◌≡◌, refl, Bool, true, false, leb, length, take, drop}
use Rattle.std.proofs.Common.{ap, sym, ◌∙◌, arith, take_all, leb-true, leb-false}
use mathlib.Core.List.{List, [], ◌∷◌, ◌++◌, map, flatten, append_assoc}
use Rattle.joint.specs.State.{Run, fresh}
use Rattle.joint.specs.Event.{event_length}
use Rattle.joint.specs.Run.{Answer, event, answers}
use Rattle.joint.specs.Drill.{chunks, events_of, answer_bytes}

pub take-most {ℓ} : {A : Type ℓ} (n : ℕ) (l : List A) → take (min n (length l)) l ≡ take n l
take-most n l = go (leb n (length l)) refl
  where
    go : (b : Bool) → leb n (length l) ≡ b → take (min n (length l)) l ≡ take n l
    go true t =
        let e : min n (length l) ≡ n = omega (arith, leb-true) in
        rw e
    go false t = take_all (min n (length l)) l (omega (arith, leb-false)) ∙ sym (take_all n l (omega (arith, leb-false)))

-- ---- events

pub length-chunks : (n : ℕ) (bytes : List ℕ) → length (chunks n bytes) ≡ n
unfolding chunks
length-chunks zero bytes = refl
length-chunks (suc n) bytes = ap suc (length-chunks n (drop event_length bytes))

-- how many events there are
abbrev pub events_for : List ℕ → ℕ
events_for bytes = (length bytes + 5) / 6

pub events_count : (bytes : List ℕ) → length (events_of bytes) ≡ events_for bytes
unfolding events_of event_length
events_count bytes = length-chunks (events_for bytes) bytes

-- ---- answers

pub length-answers : (r : Run) (es : List (List ℕ)) → length (answers r es) ≡ length es
unfolding answers
length-answers r [] = refl
length-answers r (e ∷ es) = ap suc (length-answers (event r e).run es)

-- as bytes
abbrev pub bytes_of : List Answer → List ℕ
bytes_of l = flatten (map answer_bytes l)

pub bytes_append : (l m : List Answer) → bytes_of (l ++ m) ≡ bytes_of l ++ bytes_of m
unfolding flatten
bytes_append [] m = refl
bytes_append (a ∷ l) m = rw (bytes_append l m, append_assoc)

pub length_bytes : (l : List Answer) → length (bytes_of l) ≡ 4 * length l
unfolding flatten answer_bytes
length_bytes [] = refl
length_bytes (a ∷ l) = omega (arith, length_bytes l)

-- the answers to a list of events from the fresh run
abbrev pub bytes_told : List (List ℕ) → List ℕ
bytes_told es = bytes_of (answers fresh es)

pub length_told : (es : List (List ℕ)) → length (bytes_told es) ≡ 4 * length es
length_told es = length_bytes (answers fresh es) ∙ ap (4 *◌) (length-answers fresh es)
