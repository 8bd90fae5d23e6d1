-- Events run one by one from any run, and their answers in a lent buffer: what one event more adds to each.
use Prim.Native.Nat.{ℕ, zero, suc, ◌+◌, ◌-◌, ◌*◌, ◌≤◌, ◌<◌, min}
use mathlib.Core.Path.{◌≡◌, refl, sym, ap, ap₂, ◌∙◌, subst, fun_ext}
use mathlib.Core.Bool.{true, ◌&&◌, and-true, and_assoc, and-eq-true_iff}
use mathlib.Core.List.{List, [], ◌∷◌, ◌++◌, flatten, append-nil}
use native.Mathlib.Nat.{add_assoc, zero-add}
use native.Mathlib.Numerals.{add-one}
use native.Mathlib.Omega.{arith}
use lib.ListN.{length, take, drop, length-drop}
use lib.Seq.{drop-drop}
use borrow.Author.Tests.{le-leb, lt-leb}
use Rattle.codec.specs.Image.{stored}
use Rattle.codec.specs.Laws.Stored.{length-stored, stored-two}
use Rattle.joint.specs.State.{Run, fresh}
use Rattle.codec.specs.Lists.{select}
use Rattle.joint.specs.Event.{event_length}
use Rattle.joint.specs.Run.{event, after, answers, answer_of}
use Rattle.joint.specs.Drill.{chunks, events_of, answer_bytes, replayed}
use Rattle.joint.specs.Safety.{Moment, happened, history}
use Rattle.joint.specs.Totals as totals
use Rattle.joint.specs.Totals.{forces_at, totals_of}
use Rattle.joint.specs.Answers.{run_in, forces_in, handovers_in, totals_in, Answer as ProgramAnswer, answer_in, Seen, seen, replay_in}
use Rattle.joint.specs.Laws.Events.{take-most, length-chunks, events_for, events_count, length-answers, bytes_of, bytes_append, length_bytes}
use Rattle.joint.specs.Program.{has_room, Begins, Adds}
use Rattle.joint.specs.Inside.{room_along}
use Rattle.joint.specs.declared.run.Run as program
use Rattle.joint.specs.declared.replay.Ran.{Ran}
use Rattle.joint.proofs.Base.History.{after_snoc, answers_snoc, history_snoc}
use Rattle.joint.proofs.Base.Forces.{held-sum, forces-append}
use Rattle.joint.proofs.Engine.Openings.{handovers-few, openings_counted}

-- ---- events

-- the event behind the first n
abbrev pub event_at : ℕ → List ℕ → List ℕ
event_at n bytes = take 6 (drop (6 * n) bytes)

pub chunks_snoc : (n : ℕ) (bytes : List ℕ) → chunks (suc n) bytes ≡ chunks n bytes ++ (event_at n bytes ∷ [])
unfolding chunks event_length
chunks_snoc zero bytes = refl
chunks_snoc (suc n) bytes =
    let more : 6 + 6 * n ≡ 6 * suc n = omega arith in
    ap (λ (l : List (List ℕ)). take 6 bytes ∷ l) (chunks_snoc n (drop 6 bytes) ∙ rw (drop-drop, more))

-- it ends where it is whole, or with all bytes
pub event_at_lem : (n : ℕ) (bytes : List ℕ) (end : ℕ) → 6 * n ≤ length bytes → end ≡ min (6 * n + 6) (length bytes)
    → take (end - 6 * n) (drop (6 * n) bytes) ≡ event_at n bytes
event_at_lem n bytes end h e =
    let size : end - 6 * n ≡ min 6 (length (drop (6 * n) bytes)) = omega (arith, length-drop (6 * n) bytes) in
    rw size (take-most 6 (drop (6 * n) bytes))

-- ---- answers

bytes_snoc : (r : Run) (es : List (List ℕ)) (e : List ℕ) → bytes_of (answers r (es ++ (e ∷ []))) ≡ bytes_of (answers r es) ++ answer_bytes (answer_of (event (after r es) e))
unfolding flatten
bytes_snoc r es e = rw (answers_snoc, bytes_append, append-nil)

length_all : (r : Run) (es : List (List ℕ)) → length (bytes_of (answers r es)) ≡ 4 * length es
length_all r es = length_bytes (answers r es) ∙ ap (4 *◌) (length-answers r es)

-- ---- room along a list

pub room_snoc : (r : Run) (es : List (List ℕ)) (e : List ℕ) → room_along r (es ++ (e ∷ [])) ≡ (room_along r es && has_room (after r es) e)
unfolding room_along after
room_snoc r [] e = and-true (has_room r e)
room_snoc r (x ∷ es) e = ap (has_room r x &&◌) (room_snoc (event r x).run es e) ∙ sym (and_assoc (has_room r x) (room_along (event r x).run es) (has_room (after (event r x).run es) e))

-- ---- the first `count` events have been run from r; the forces counted were `before`, and are `forces`

pub record Ahead (r : Run) (before : ℕ → ℕ) (bytes start : List ℕ) (events : ℕ) (buffer : List ℕ) (run : Run) (forces : ℕ → ℕ) (count : ℕ) : Type 0 where
  pub room : 4 * events ≤ length start
  pub passed : count ≤ events
  pub kept : length buffer ≡ length start
  pub ran : room_along r (chunks count bytes) ≡ true → run ≡ after r (chunks count bytes)
  pub held : room_along r (chunks count bytes) ≡ true → buffer ≡ stored 0 (bytes_of (answers r (chunks count bytes))) start
  pub adds : room_along r (chunks count bytes) ≡ true → Adds before (history r (chunks count bytes)) forces

-- where no force happens a run counts what it did
pub adds_none : (r : program.Run) (h : List Moment) → ((s : ℕ) → forces_at s h ≡ 0) → Adds (forces_in r) h (forces_in r)
unfolding forces_in totals.held totals.highest
adds_none r h none-forced s = omega (arith, none-forced s)

-- what happened and what happens next
pub adds_more : (f g k : ℕ → ℕ) (a b : List Moment) → Adds f a g → Adds g b k → Adds f (a ++ b) k
adds_more f g k a b p q s =
    q s
    ∙ ap (λ (n : ℕ). totals.held (n + forces_at s b)) (p s)
    ∙ held-sum (f s + forces_at s a) (forces_at s b)
    ∙ ap totals.held (add_assoc (f s) (forces_at s a) (forces_at s b) ∙ ap (f s +◌) (sym (forces-append s a b)))

pub ahead_start : (r : Run) (forces : ℕ → ℕ) (bytes start : List ℕ) (events : ℕ) → 4 * events ≤ length start → Adds forces [] forces
    → Ahead r forces bytes start events start r forces 0
unfolding chunks after answers flatten stored history
ahead_start r forces bytes start events h same =
    record { room = h; passed = omega arith; kept = refl; ran = λ _. refl; held = λ _. refl; adds = λ _. same }

module _ {r : Run} {before : ℕ → ℕ} {bytes start : List ℕ} {events : ℕ} {buffer : List ℕ} {run : Run} {forces : ℕ → ℕ} {count : ℕ}
    (a : Ahead r before bytes start events buffer run forces count) where
  abbrev es : List (List ℕ)
  es = chunks count bytes

  -- one more: x is the event, n its answer
  pub ahead_next : (n : ProgramAnswer) (next : Run) (counted : ℕ → ℕ) (x now : List ℕ) → count < events → x ≡ event_at count bytes
      → (has_room run x ≡ true → (record { answer = answer_in n; run = next } ≡ seen (event run x)) × Adds forces (happened run x) counted)
      → now ≡ stored (4 * count) (answer_bytes (answer_in n)) buffer
      → Ahead r before bytes start events now next counted (count + 1)
  unfolding seen answer_bytes
  ahead_next n next counted x now h g e f =
      record {
        room = a.room;
        passed = omega arith;
        kept = rw f (length-stored (4 * count) (answer_bytes (answer_in n)) buffer (omega (arith, h, a.kept, a.room)) ∙ a.kept);
        ran = λ k. rw (more, after_snoc) (ap (λ (t : Seen). t.run) (step k));
        held =
            λ k.
            rw (more, bytes_snoc, ← ap (λ (t : Seen). t.answer) (step k), ← stored-two (bytes_of (answers r es)) (answer_bytes (answer_in n)) start (omega (arith, size, h, a.room)), size, ← a.held (rooms k).0) f;
        adds =
            λ k.
            rw (more, history_snoc)
            (adds_more before forces counted (history r es) (happened (after r es) x) (a.adds (rooms k).0)
            (subst (λ (w : Run). Adds forces (happened w x) counted) (a.ran (rooms k).0) (e (open_here k)).1));
      }
    where
      more : chunks (count + 1) bytes ≡ es ++ (x ∷ [])
      more = rw (add-one, g) (chunks_snoc count bytes)

      size : length (bytes_of (answers r es)) ≡ 4 * count
      size = length_all r es ∙ ap (4 *◌) (length-chunks count bytes)

      rooms : room_along r (chunks (count + 1) bytes) ≡ true → (room_along r es ≡ true) × (has_room (after r es) x ≡ true)
      rooms k = (and-eq-true_iff (room_along r es) (has_room (after r es) x)).0 (sym (room_snoc r es x) ∙ ap (room_along r) (sym more) ∙ k)

      open_here : room_along r (chunks (count + 1) bytes) ≡ true → has_room run x ≡ true
      open_here k = ap (λ (w : Run). has_room w x) (a.ran (rooms k).0) ∙ (rooms k).1

      step : room_along r (chunks (count + 1) bytes) ≡ true → ◌≡◌ {A = Seen} (record { answer = answer_in n; run = next }) (seen (event (after r es) x))
      step k = (e (open_here k)).0 ∙ ap (λ (w : Run). seen (event w x)) (a.ran (rooms k).0)

-- ---- what a replay gives

length_events : (bytes : List ℕ) → length (bytes_of (answers fresh (events_of bytes))) ≡ 4 * events_for bytes
length_events bytes = length_all fresh (events_of bytes) ∙ ap (4 *◌) (events_count bytes)

-- from no force counted, what a run counts is what happened in the events that it comes from
pub totals_from : (es : List (List ℕ)) (r : program.Run) (f : ℕ → ℕ) → ((s : ℕ) → f s ≡ 0) → run_in r ≡ after fresh es → Adds f (history fresh es) (forces_in r) → (s : ℕ)
    → totals_in r s ≡ totals.totals es s
unfolding totals_in totals.totals
totals_from es r f none_yet e h s =
    ap₂ totals_of
    (h s ∙ ap totals.held (ap (◌+ forces_at s (history fresh es)) (none_yet s) ∙ zero-add (forces_at s (history fresh es))))
    (ap (λ (w : Run). handovers_in w s) e ∙ sym (few (handovers-few (after fresh es) s)) ∙ ap totals.held (openings_counted es s))
  where
    few : {n : ℕ} → n ≤ 8 → totals.held n ≡ n
    few {n} h = unfold totals.held totals.highest in omega (arith, h)

pub replay_none : (bytes buffer : List ℕ) (x : Ran) → length buffer < 4 * events_for bytes → x.count ≡ 0 → Begins x.run → replay_in x buffer ≡ replayed bytes buffer
unfolding replay_in replayed after history
replay_none bytes buffer x h n e =
    let same = adds_none x.run [] (λ s. unfold forces_at select in refl) in
    rw (lt-leb (length (bytes_of (answers fresh (events_of bytes)))) (length buffer) (omega (arith, h, length_events bytes)), n, fun_ext (totals_from [] x.run (forces_in x.run) e.1 e.0 same), e.0)

pub replay_all : (bytes start now : List ℕ) (b : program.Run) (x : Ran) → 4 * events_for bytes ≤ length start → room_along fresh (events_of bytes) ≡ true
    → Begins b → x.count ≡ events_for bytes → Ahead (run_in b) (forces_in b) bytes start (events_for bytes) now (run_in x.run) (forces_in x.run) (events_for bytes)
    → replay_in x now ≡ replayed bytes start
unfolding replay_in replayed events_of event_length
replay_all bytes start now b x h k e n ahead =
    let g : Ahead fresh (forces_in b) bytes start (events_for bytes) now (run_in x.run) (forces_in x.run) (events_for bytes) =
    subst (λ (w : Run). Ahead w (forces_in b) bytes start (events_for bytes) now (run_in x.run) (forces_in x.run) (events_for bytes)) e.0 ahead in
    rw (le-leb (length (bytes_of (answers fresh (events_of bytes)))) (length start) (omega (arith, h, length_events bytes)), length-chunks, n, fun_ext (totals_from (events_of bytes) x.run (forces_in b) e.1 (g.ran k) (g.adds k)), g.ran k, g.held k)
