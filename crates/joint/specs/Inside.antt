-- What the program's inner functions promise each other. No reader has to believe it: proofs/ shows what it has to do with 01.
use Rattle.std.specs.Prelude.{ℕ, zero, suc, ◌+◌, ◌-◌, ◌*◌, ◌≤◌, min, Bool, true, false, cond, not, ◌&&◌, ◌||◌, List, [], ◌∷◌, ◌++◌, ◌≡◌, length, take, drop, get_or, set, eqb, leb}
use Rattle.std.specs.Prelude as std
use Rattle.std.proofs.Math.Option.{Option, none, some}
use Rattle.codec.specs.Lists.{select}
use Rattle.codec.specs.Sets.{member, empty}
use Rattle.codec.specs.declared.record.Record.{Record}
use Rattle.site.specs.Step.{prepare, messages, receiver, Effect}
use Rattle.site.specs.Participant.{ParticipantPhase}
use Rattle.site.specs.Numbers.{input_of, receives}
use Rattle.site.specs.Answers.{coordinator_state_in, cohort_in, effects_in, participant_in, has_kind}
use Rattle.site.specs.declared.effects.Effects.{Effects}
use Rattle.joint.specs.State as plain
use Rattle.joint.specs.State.{takes_part, appended, stopped, with_coordinator, with_participant, with_marked, at_site, at_transaction, update, holds, opened, down, perform_all}
use Rattle.joint.specs.Event as event
use Rattle.joint.specs.Event.{opening, beginning, delivery, timeout, forcing, discarding, marking, cut_at, Parsed}
use Rattle.joint.specs.Plan.{Plan, step, or_nothing, acting, opened_as, trimmed, forgotten_unless, restart_all, transactions}
use Rattle.joint.specs.Run as run
use Rattle.joint.specs.Run.{is_send, count, event_parsed, answer_of}
unfoldable pub use Rattle.joint.specs.Laws.Effects.{site_after, transaction_after, counted}
use Rattle.joint.specs.Answers.{site_from, transactions_in, refusal_number, number_of, Seen, seen}
use Rattle.joint.specs.Program.{has_room}
use Rattle.joint.specs.declared.answers.Refusal.{Refusal}
use Rattle.joint.specs.declared.sites.Site.{Site}
use Rattle.joint.specs.declared.rows.Then.{Then}
use Rattle.joint.specs.declared.rows.Then.TheVariants as follows
use Rattle.joint.specs.declared.rows.Row.{Row}
use Rattle.joint.specs.declared.events.Cut.{Cut}
use Rattle.joint.specs.declared.events.Step.{Step}
use Rattle.joint.specs.declared.events.Step.TheVariants as steps
use Rattle.joint.specs.declared.events.Event.{Event}
use Rattle.joint.specs.declared.events.Event.TheVariants as events
use Rattle.joint.specs.declared.restarts.Resumed.{Resumed}
use Rattle.joint.specs.declared.restarts.Restarted.{Restarted}

-- ---- a site's log

-- how many records a log has
unfoldable pub size : plain.Site → ℕ
size a = length (a.stable ++ a.unforced)

-- a log has room for the records that effects append
abbrev pub Fits : List Effect → plain.Site → Type 0
Fits es a = size a + counted run.is_append es ≤ 24

-- by its counts: how many of a site's 24 records are stable, and how many are of the log
abbrev pub stable_of : Site → ℕ
stable_of x = min x.stable 24

abbrev pub count_of : Site → ℕ
count_of x = min (x.stable + x.unforced) 24

-- a record put at n; kind 0 is none
unfoldable pub put_at : ℕ → Record → List Record → List Record
put_at n x rs = cond (eqb x.kind 0) rs (set rs n x)

-- a row's first record and its last, of transaction t, behind the first n
unfoldable pub put_row : ℕ → ℕ → Effects → List Record → List Record
put_row n t e rs =
    put_at (n + cond (eqb e.appended 0) 0 1) (record { kind = e.last; transaction = t; first = 0; second = 0 })
    (put_at n (record { kind = e.appended; transaction = t; first = e.first; second = e.second }) rs)

-- the counts are those of a site of a run
abbrev pub Here : Site → plain.Run → ℕ → Type 0
Here x w s = (rs : List Record) × ((length rs ≡ 24) × (site_from x rs ≡ w.site s))

-- ---- rows: their effects, and what follows these

unfoldable pub then_in : ℕ → ℕ → Then → plain.Run → plain.Run
then_in s t follows.Same = λ r. r
then_in s t (follows.Coordinator c) = at_transaction t (with_coordinator 0 (coordinator_state_in c))
then_in s t (follows.Participant c) = at_transaction t (with_participant s (participant_in c))
then_in s t (follows.Opened g) = at_transaction t (opened_as (cohort_in g))
then_in s t (follows.Discarded last) = λ r. forgotten_unless (not last) t s (at_site s (trimmed t) r)
then_in s t (follows.Down keep) = down s keep
then_in s t follows.Marked = at_transaction t (with_marked s)

-- the same on the site, and on the transaction
unfoldable pub then_site : ℕ → Then → plain.Site → plain.Site
then_site t follows.Same a = a
then_site t (follows.Coordinator c) a = a
then_site t (follows.Participant c) a = a
then_site t (follows.Opened g) a = a
then_site t (follows.Discarded last) a = trimmed t a
then_site t (follows.Down keep) a = stopped keep a
then_site t follows.Marked a = a

unfoldable pub then_transaction : ℕ → Then → plain.Transaction → plain.Transaction
then_transaction s follows.Same x = x
then_transaction s (follows.Coordinator c) x = with_coordinator 0 (coordinator_state_in c) x
then_transaction s (follows.Participant c) x = with_participant s (participant_in c) x
then_transaction s (follows.Opened g) x = opened_as (cohort_in g) x
then_transaction s (follows.Discarded last) x = cond last (with_participant s ParticipantPhase.unknown x) x
then_transaction s (follows.Down keep) x = x
then_transaction s follows.Marked x = with_marked s x

unfoldable pub goes_down : Then → Bool
goes_down follows.Same = false
goes_down (follows.Coordinator c) = false
goes_down (follows.Participant c) = false
goes_down (follows.Opened g) = false
goes_down (follows.Discarded last) = false
goes_down (follows.Down keep) = true
goes_down follows.Marked = false

-- records may move: one is dropped, or some of the unforced ones survive
unfoldable pub moves : Then → Bool
moves follows.Same = false
moves (follows.Coordinator c) = false
moves (follows.Participant c) = false
moves (follows.Opened g) = false
moves (follows.Discarded last) = true
moves (follows.Down keep) = not (eqb keep 0)
moves follows.Marked = false

-- a row appends, drops or keeps a record
unfoldable pub writes_log : Row → Bool
writes_log x = not (eqb x.effects.appended 0) || not (eqb x.effects.last 0) || moves x.then

-- a site after a row of transaction t
unfoldable pub row_site : ℕ → Row → plain.Site → plain.Site
row_site t x a = then_site t x.then (site_after t (effects_in t x.effects) a)

-- the plan that a row of site s in transaction t is
abbrev pub plan_in : ℕ → ℕ → Row → Plan
plan_in s t x = record { site = s; acts = acting t (effects_in t x.effects); settle = then_in s t x.then }

unfoldable pub found_in : ℕ → ℕ → std.Option Row → Option Plan
found_in s t (std.Some x) = some (plan_in s t x)
found_in s t std.None = none

-- what site s receives: a participant its own messages, the coordinator those of members
unfoldable pub MayReceive : plain.Transaction → ℕ → ℕ → ℕ → Type 0
MayReceive x zero kind p = (receives 0 kind && (leb 16 kind || member p x.cohort.members)) ≡ true
MayReceive x (suc n) kind p = (p ≡ suc n) × (receives 1 kind ≡ true)

-- ---- events

-- an event that refusal 1 does not strike
unfoldable pub taken : plain.Run → event.Event → Option (ℕ × ℕ) → Seen
taken r e c = seen (event_parsed r (some (record { event = e; cut = c })))

-- 255 for no cut
abbrev pub cut_from : ℕ → ℕ → Option (ℕ × ℕ)
cut_from cut keep = cut_at false (eqb cut 255) cut keep

abbrev pub cut_in : std.Option Cut → Option (ℕ × ℕ)
cut_in std.None = none
cut_in (std.Some c) = some (c.after, c.keep)

-- begin, a timer or a message, by the number of its kind
unfoldable pub input_event : ℕ → ℕ → ℕ → event.Event
input_event kind t p = cond (eqb kind 16) (beginning t) (cond (eqb kind 17) (timeout t p) (delivery t p (get_or messages kind prepare)))

-- what an event asks of site s, by the number of its kind, with participant p
pub data Asks : event.Event → ℕ → ℕ → ℕ → ℕ → Type 0 where
  begins : (t : ℕ) → Asks (beginning t) t 0 16 0
  delivers : (t kind p : ℕ) → kind ≤ 7 → 1 ≤ p → Asks (delivery t p (get_or messages kind prepare)) t (receiver (get_or messages kind prepare) p) kind p
  times : (t s : ℕ) → Asks (timeout t s) t s 17 s

-- the plan of a step; begin and timer are refused where there is no row, and a message has no effect then
unfoldable pub upon_input : plain.Run → ℕ → ℕ → ℕ → ℕ → Option Plan
upon_input r t s kind p =
    let found = step r t s (input_of kind p) in
    cond (leb 16 kind) found (some (or_nothing s found))

abbrev pub step_site : Step → ℕ
step_site (steps.Open e) = 0
step_site (steps.Input e) = e.site.number
step_site (steps.Force s) = s.number
step_site (steps.Discard e) = e.site.number
step_site (steps.Crash e) = e.site.number
step_site (steps.Mark e) = e.participant.number

abbrev pub step_transaction : Step → ℕ
step_transaction (steps.Open e) = e.transaction.number
step_transaction (steps.Input e) = e.transaction.number
step_transaction (steps.Force s) = 0
step_transaction (steps.Discard e) = e.transaction.number
step_transaction (steps.Crash e) = 0
step_transaction (steps.Mark e) = e.transaction.number

unfoldable pub step_in : Step → Parsed
step_in (steps.Open e) = record { event = opening e.transaction.number e.cohort.members e.cohort.presume_commit; cut = none }
step_in (steps.Input e) = record { event = input_event e.kind e.transaction.number e.participant; cut = cut_in e.cut }
step_in (steps.Force s) = record { event = forcing s.number; cut = none }
step_in (steps.Discard e) = record { event = discarding e.transaction.number e.site.number; cut = none }
step_in (steps.Crash e) = record { event = event.crash e.site.number; cut = some (0, e.keep) }
step_in (steps.Mark e) = record { event = marking e.transaction.number e.participant.number; cut = none }

unfoldable pub event_in : std.Result Event Refusal → Option Parsed
event_in (std.Err e) = none
event_in (std.Ok (events.Step e)) = some (step_in e)
event_in (std.Ok (events.Restart e)) = some (record { event = event.restart e.site.number; cut = cut_in e.cut })

-- ---- changes

-- the first that strikes of 3, 4 and 5, or 0: unopened, no part, down
abbrev pub unready : plain.Transaction → ℕ → Bool → ℕ
unready x p up = cond (empty x.cohort.members) 3 (cond (not (takes_part x p)) 4 (cond (not up) 5 0))

-- in run w, of site s and transaction t
unfoldable pub change_in : plain.Run → ℕ → ℕ → std.Result Row Refusal → Seen
change_in w s t (std.Err e) = record { answer = refusal_number (number_of e); run = w }
change_in w s t (std.Ok x) = seen (run.carry w (plan_in s t x) none)

-- ---- restart

-- the kinds of the stable records of each transaction at site s
abbrev pub KindsOf : List ℕ → plain.Run → ℕ → Type 0
KindsOf kinds w s = (t k : ℕ) → t ≤ 7 → k ≤ 7 → has_kind (get_or kinds t 0) k ≡ holds t k (w.site s).stable

-- the transactions after the restart's effects up to the cut, how many more could have happened, and the sends
pub record Resumption : Type 0 where
  pub transaction : ℕ → plain.Transaction
  pub left : ℕ
  pub sends : ℕ

unfoldable pub resumed_in : Resumed → Resumption
resumed_in x = record { transaction = transactions_in x.transactions; left = x.left; sends = x.sends }

unfoldable pub resumed : plain.Run → ℕ → ℕ → Resumption
resumed r s cut =
    let p = restart_all r s (select (opened r) transactions) in
    let happen = take cut p.acts in
    record { transaction = (p.settle (perform_all s happen r)).transaction; left = cut - length p.acts; sends = count is_send happen }

-- of site s in run r
unfoldable pub restarted_in : ℕ → plain.Run → std.Result Restarted Refusal → Seen
restarted_in s r (std.Err e) = record { answer = refusal_number (number_of e); run = r }
restarted_in s r (std.Ok x) =
    record {
      answer = record { number = 0; records = 0; forces = 0; sends = x.sends };
      run = record { site = update s (λ _. site_from x.log.site x.log.records.of) r.site; transaction = transactions_in x.transactions };
    }

-- ---- events one after the other

-- the logs have room along a list
unfoldable pub room_along : plain.Run → List (List ℕ) → Bool
room_along r [] = true
room_along r (e ∷ es) = has_room r e && room_along (run.event r e).run es
