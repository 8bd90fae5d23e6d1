-- The lines of a drill: how long they are, what the answers' bytes stand for, and all lines in a lent buffer.
use Rattle.std.proofs.Common.{ℕ, zero, suc, ◌+◌, ◌*◌, ◌/◌, ◌%◌, ◌≤◌, ◌<◌, min, ◌≡◌, refl, sym, ap, ◌∙◌, Bool, true, false, leb, ltb, List, [], ◌∷◌, ◌++◌, length, get_or, take, drop, arith, zero-add, length-append, length-take}
use mathlib.Core.List.{flatten}
use lib.Seq.{get_or-drop, take_at}
use borrow.Author.Tests.{le-leb, lt-leb, ltb-false}
use Rattle.std.specs.Simd.{first_chunks}
use Rattle.std.proofs.lemmas.List.{get_or-take, length-drop}
use Rattle.codec.specs.Image.{stored}
use Rattle.codec.specs.Answers.{written}
use Rattle.codec.specs.Sets.{participants}
use Rattle.codec.specs.Laws.Stored.{length-stored, next_last}
use Rattle.joint.specs.State.{Run, fresh}
use Rattle.joint.specs.Run.{Answer, after, answers}
use Rattle.joint.specs.Totals.{Totals, totals}
use Rattle.joint.specs.Drill.{events_in, answer_bytes, Replayed, replayed, decimal, line, event_lines, totals_line, drill, text_into}
use Rattle.joint.specs.Answers.{run_in, totals_in, replay_in}
use Rattle.joint.specs.declared.replay.Ran.{Ran}
use Rattle.joint.specs.Laws.Events.{take-most, length-answers, bytes_of, bytes_told, length_told, events_for, events_count}
use Rattle.drill_text.specs.declared.text.Text.{Text}
use Rattle.drill_text.specs.Inside.{Room, Pushed, lines_from, opened_in, transaction_lines, sites, site_lines, text_of}
use Rattle.drill_text.proofs.Pushed.{Left, front, left_start, left_room, left_next, left_end}
use Rattle.drill_text.proofs.Texts.{text_length, spelled}

-- ---- how long a line is

-- a number of at most j + 1 digits
abbrev Digits : ℕ → ℕ → Type 0
Digits zero n = n < 10
Digits (suc j) n = Digits j (n / 10)

digit_size : (j n : ℕ) (b : Bool) (front : List ℕ) → (b ≡ false → length front ≤ j)
    → length {A = ℕ} (elim b [ true ↦ (48 + n) ∷ [] | false ↦ front ++ ((48 + n % 10) ∷ []) ]) ≤ suc j
digit_size j n true front h = omega arith
digit_size j n false front h = simp length-append (omega (arith, h refl))

decimal-size : (j k n : ℕ) → Digits j n → length (decimal k n) ≤ suc j
unfolding decimal
decimal-size j zero n h = omega arith
decimal-size zero (suc k) n h = digit_size 0 n (ltb n 10) (decimal k (n / 10)) (λ e. absurd (omega (arith, ltb-false n 10 e)))
decimal-size (suc j) (suc k) n h = digit_size (suc j) n (ltb n 10) (decimal k (n / 10)) (λ e. decimal-size j k (n / 10) h)

byte_size : (n : ℕ) → n < 256 → length (decimal 5 n) ≤ 3
byte_size n h = decimal-size 2 5 n (omega arith)

line-size : (n : ℕ) (a : List ℕ) → n ≤ 10000 → length a ≡ 4 → ((i : ℕ) → i < 4 → get_or a i 0 < 256) → length (line 5 (n ∷ a)) ≤ 22
unfolding line
line-size n a h four small =
    rw (spelled a four)
    (simp length-append
    (omega (
      arith,
      decimal-size 4 5 n (omega arith),
      byte_size (get_or a 0 0) (small 0 (omega arith)),
      byte_size (get_or a 1 0) (small 1 (omega arith)),
      byte_size (get_or a 2 0) (small 2 (omega arith)),
      byte_size (get_or a 3 0) (small 3 (omega arith)),
    )))

-- a number of any size
decimal_short : (k n : ℕ) → length (decimal k n) ≤ suc k
unfolding decimal
decimal_short zero n = omega arith
decimal_short (suc k) n = digit_size (suc k) n (ltb n 10) (decimal k (n / 10)) (λ e. decimal_short k (n / 10))

-- the line of a site, and the lines of some sites
totals_short : (x : Totals) → length (totals_line x) ≤ 84
unfolding totals_line line
totals_short x =
    simp length-append
    (omega (arith, decimal_short 19 x.forces, decimal_short 19 x.handovers, decimal_short 19 x.quotient, decimal_short 19 x.remainder))

sites_short : (f : ℕ → Totals) (ss : List ℕ) → length (site_lines f ss) ≤ 84 * length ss
unfolding flatten
sites_short f [] = omega arith
sites_short f (s ∷ ss) = simp length-append (omega (arith, totals_short (f s), sites_short f ss))

pub sites-most : (f : ℕ → Totals) → length (site_lines f sites) ≤ 756
unfolding participants
sites-most f = sites_short f sites

-- the lines of n answers of four bytes each, numbered from m on
lines-size : (m n : ℕ) (bytes : List ℕ) → m + n ≤ 10001 → 4 * n ≤ length bytes → ((i : ℕ) → get_or bytes i 0 < 256)
    → length (lines_from m (first_chunks 4 n bytes)) ≤ 22 * n
unfolding lines_from
lines-size m zero bytes h room small = omega arith
lines-size m (suc n) bytes h room small =
    let four : length (take 4 bytes) ≡ 4 = omega (arith, length-take 4 bytes) in
    simp length-append
    (omega (
      arith,
      line-size m (take 4 bytes) (omega arith) four (λ i q. rw (get_or-take 4 bytes i 0 q) (small i)),
      lines-size (m + 1) n (drop 4 bytes) (omega arith) (omega (arith, length-drop 4 bytes)) (λ i. rw get_or-drop (small (4 + i))),
    ))

-- ---- all lines

-- at most 10,000 answers, in four bytes each, and eight opened transactions
pub record Few (bytes : List ℕ) (r : Run) : Type 0 where
  pub answers : length bytes ≤ 40000
  pub small : (i : ℕ) → get_or bytes i 0 < 256
  pub opened : length (opened_in r) ≤ 8

module _ {bytes : List ℕ} {r : Run} (few : Few bytes r) (f : ℕ → Totals) where
  abbrev lines : List ℕ
  lines = lines_from 1 (first_chunks 4 (length bytes / 4) bytes)

  abbrev text : List ℕ
  text = text_of bytes r f

  pub text_size : length text ≡ length lines + 21 * length (opened_in r) + length (site_lines f sites)
  text_size = simp length-append (omega (arith, text_length r (opened_in r)))

  pub lines_short : length lines ≤ 22 * (length bytes / 4)
  lines_short = lines-size 1 (length bytes / 4) bytes (omega (arith, few.answers)) (omega arith) few.small

  pub text_short : length text ≤ 220924
  text_short = omega (arith, text_size, lines_short, sites-most f, few.answers, few.opened)

  -- where there is no room for it
  pub text_none : (buffer : List ℕ) → length buffer < length text → written 0 buffer ≡ text_into text buffer
  unfolding text_into
  text_none buffer h = rw (lt-leb (length text) (length buffer) h) refl

  -- where there is: its three parts in turn
  module _ (t : Text) (start : t.end ≡ 0) (room : length text ≤ length t.bytes.now) where
    begun : Left t t text text
    begun = left_start (omega (arith, start, room))

    pub room_for_lines : Room t lines
    room_for_lines = left_room begun front

    module _ {u : Text} (p : Pushed t u lines) where
      lined : Left t u text (transaction_lines r ++ site_lines f sites)
      lined = left_next begun front p

      pub room_for_transactions : Room u (transaction_lines r)
      room_for_transactions = left_room lined front

      module _ {v : Text} (q : Pushed u v (transaction_lines r)) where
        pub room_for_sites : Room v (site_lines f sites)
        room_for_sites = left_room (left_next lined front q) next_last

        pub text_all : {w : Text} → Pushed v w (site_lines f sites) → (all : List ℕ) → all ≡ w.bytes.now → written w.end all ≡ text_into text t.bytes.now
        unfolding text_into
        text_all s all e =
            let whole = left_end (left_next (left_next lined front q) next_last s) refl in
            let fits : leb (length text) (length t.bytes.now) ≡ true = le-leb (length text) (length t.bytes.now) room in
            rw (fits, e, whole.bytes, whole.end, start, zero-add (length text)) refl

-- what was stored at the front
pub front_of : (x buffer : List ℕ) (n : ℕ) → n ≡ length x → take n (stored 0 x buffer) ≡ x
unfolding stored
front_of x buffer n e = take_at x (drop (0 + length x) buffer) n (sym e)

-- ---- the drill

-- the lines of answers in four bytes each
lines_back : (m : ℕ) (l : List Answer) → lines_from m (first_chunks 4 (length l) (bytes_of l)) ≡ event_lines m l
unfolding lines_from event_lines answer_bytes flatten
lines_back m [] = refl
lines_back m (a ∷ l) = ap (line 5 (m ∷ a.number ∷ a.records ∷ a.forces ∷ a.sends ∷ []) ++◌) (lines_back (m + 1) l)

-- what a replay of the input leaves: how many answers, the run with its totals, and the buffer
pub record Answered (input : List ℕ) (count : ℕ) (r : Run) (f : ℕ → Totals) (buffer : List ℕ) : Type 0 where
  pub few : count ≤ 10000
  pub room : 4 * count ≤ length buffer
  pub text : text_of (take (4 * count) buffer) r f ≡ drill input

-- the buffer is long enough
pub answered : (input start buffer : List ℕ) (len : ℕ) (x : Ran) → len ≡ min 60000 (length input) → length start ≡ 40000
    → replay_in x buffer ≡ replayed (take len input) start → Answered input x.count (run_in x.run) (totals_in x.run) buffer
unfolding replay_in replayed events_in drill stored
answered input start buffer len x h k e =
    let es = events_in input in
    let told = bytes_told es in
    let first : take len input ≡ take 60000 input = rw h (take-most 60000 input) in
    let most : events_for (take 60000 input) ≤ 10000 = omega (arith, length-take 60000 input) in
    let count : length es ≡ events_for (take 60000 input) = events_count (take 60000 input) in
    let size : length told ≡ 4 * length es = length_told es in
    let fits : leb (length told) (length start) ≡ true = le-leb (length told) (length start) (omega arith) in
    let all : replay_in x buffer ≡ record { count = length es; run = after fresh es; totals = totals es; buffer = stored 0 told start } = rw (first, fits) at e in
    let n : x.count ≡ length es = ap (λ (y : Replayed). y.count) all in
    let held : buffer ≡ stored 0 told start = ap (λ (y : Replayed). y.buffer) all in
    let front : take (4 * length es) (stored 0 told start) ≡ told = front_of told start (4 * length es) (sym size) in
    let four : length told / 4 ≡ length (answers fresh es) = omega (arith, length-answers fresh es) in
    record {
      few = omega arith;
      room = rw held (omega (arith, length-stored 0 told start (omega arith)));
      text = ap (λ (y : Replayed). text_of (take (4 * y.count) y.buffer) y.run y.totals) all ∙ rw (front, four, lines_back 1 (answers fresh es)) refl;
    }
