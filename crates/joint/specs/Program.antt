-- Demand 3 of the program: what it answers and stores along any list of events is the plain run's, and the plain run is safe.
use Rattle.std.specs.Prelude.{ℕ, ◌+◌, ◌≡◌, Bool, true, not, ◌||◌, List, [], ◌∷◌, ◌++◌, map, length, eqb, leb}
use Rattle.std.proofs.Math.Option.{Option, none, some}
use Rattle.codec.specs.Lists.{any, first}
use Rattle.site.specs.Presumption.{Outcome}
use Rattle.site.specs.Cohort.{Cohort}
use Rattle.joint.specs.State as plain
use Rattle.joint.specs.State.{fresh}
use Rattle.joint.specs.Event.{Event, Parsed, parse}
use Rattle.joint.specs.Refusals.{refusals}
use Rattle.joint.specs.Plan.{Plan, plan}
use Rattle.joint.specs.Run as run
use Rattle.joint.specs.Run.{is_append, count}
use Rattle.joint.specs.Safety.{Moment, happened, history, is_entry_at, is_sending, Safe}
use Rattle.joint.specs.Totals.{held, forces_at, totals}
use Rattle.joint.specs.Bill.{bill, own_answers, add_up, whole, Clean}
use Rattle.joint.specs.Answers.{run_in, forces_in, totals_in, Answer, answer_in, seen, next_in}
use Rattle.joint.specs.declared.run.Run.{Run}
use Rattle.joint.specs.declared.run.Next.{Next}

-- ---- room: the program's logs hold 24 records each

unfoldable pub room_for_plan : plain.Run → Option Plan → Bool
room_for_plan r none = true
room_for_plan r (some p) =
    let a = r.site p.site in
    leb (length (a.stable ++ a.unforced) + count is_append p.acts) 24

-- where an event is not refused, the log of its site has room for the records that it appends
unfoldable pub room_for : plain.Run → Event → Bool
room_for r e = not (eqb (first (refusals r e)) 0) || room_for_plan r (plan r e)

unfoldable pub room_parsed : plain.Run → Option Parsed → Bool
room_parsed r none = true
room_parsed r (some e) = room_for r e.event

unfoldable pub has_room : plain.Run → List ℕ → Bool
has_room r bytes = room_parsed r (parse bytes)

-- ---- what the program promises, in the words that its functions cite

-- `Run::new` in src/run.rt: a fresh run, in which no force is counted
abbrev pub Begins : Run → Type 0
Begins r = (run_in r ≡ fresh) × ((s : ℕ) → forces_in r s ≡ 0)

-- g counts at each site what f counts, and the forces of h
abbrev pub Adds : (ℕ → ℕ) → List Moment → (ℕ → ℕ) → Type 0
Adds f h g = (s : ℕ) → g s ≡ held (f s + forces_at s h)

-- `Run::event` in src/replay.rt: where the run's logs have room, answer, counts and next run are the plain event's, and its forces are counted
abbrev pub Takes : Run → List ℕ → Next → Type 0
Takes r bytes next =
    has_room (run_in r) bytes ≡ true → (next_in next ≡ seen (run.event (run_in r) bytes)) × Adds (forces_in r) (happened (run_in r) bytes) (forces_in next.run)

-- ---- the program along a list of events, of any bytes

-- the events so far, the program's answer to each, and the run that it has then; of these it asks what is promised and no more
pub data Execution : List (List ℕ) → List Answer → Run → Type 0 where
  begun : {r : Run} → Begins r → Execution [] [] r
  goes : {es : List (List ℕ)} {given : List Answer} {r : Run} → Execution es given r
      → (bytes : List ℕ) (next : Next) → Takes r bytes next
      → Execution (es ++ (bytes ∷ [])) (given ++ (next.answer ∷ [])) next.run

-- ---- the claim

pub record Faithful (es : List (List ℕ)) (given : List Answer) (r : Run) : Type 0 where
  -- the program's answers and counts are the plain run's
  pub answers : map answer_in given ≡ run.answers fresh es
  -- so are its records, messages, phases and entries: what can be seen of r is promised of `run_in r`
  pub run : run_in r ≡ run.after fresh es
  -- what it stores as entered is what happened: outcome o of transaction t was entered at site s
  pub entries : (t s : ℕ) (o : Outcome) → ((run_in r).transaction t).entered s o ≡ any (is_entry_at t s o) (history fresh es)
  -- and so is what it stores as sent: a message of transaction t of kind k, to participant p or from it, was sent
  pub messages : (t p k : ℕ) → ((run_in r).transaction t).sent p k ≡ any (is_sending t p k) (history fresh es)
  -- and so are the totals: forced writes and handovers of each site, with quotient and remainder
  pub totals : (s : ℕ) → totals_in r s ≡ totals es s
  -- and the plain run's list keeps the three sentences
  pub safe : Safe es

-- all along the list: where an execution has come to is an execution too
abbrev pub Demand3OfProgram : Type 0
Demand3OfProgram = (es : List (List ℕ)) (given : List Answer) (r : Run) → Execution es given r → Faithful es given r

-- the counts in the program's answers to t's own events add up to the bill of a clean run
abbrev pub BillOfProgram : Type 0
BillOfProgram =
    (before : List (List ℕ)) (t : ℕ) (g : Cohort) (rest : List (List ℕ)) → Clean before t g rest
    → (given : List Answer) (r : Run) → Execution (whole before t g rest) given r
    → add_up (own_answers t (whole before t g rest) (map answer_in given)) ≡ bill g
