-- What an event that passes the refusals 1 to 7 does: its site, its acts in order, and what follows them where it is not cut.
use Rattle.std.specs.Prelude.{ℕ, zero, suc, Bool, true, false, cond, not, ◌&&◌, ◌||◌, List, [], ◌∷◌, ◌++◌, map, eqb}
use Rattle.std.proofs.Math.Option.{Option, none, some}
use Rattle.codec.specs.Lists.{select, any, only_if}
use Rattle.codec.specs.Sets.{member}
use Rattle.codec.specs.Records.{LogRecord, of_transaction, awaits_acks}
use Rattle.site.specs.Step.{receiver, Input, begin, timer, received, Effect, force, Row}
use Rattle.site.specs.Cohort.{Cohort, presumption_of}
use Rattle.site.specs.Coordinator.{CoordinatorPhase, coordinator_step, coordinator_restart}
use Rattle.site.specs.Participant.{ParticipantPhase, participant_step, participant_restart}
use Rattle.joint.specs.State.{Run, Site, Transaction, Act, at_site, at_transaction, opened, cohort_at, coordinator_at, holds, recorded_cohort, started, with_coordinator, with_participant, with_marked}
use Rattle.joint.specs.Event.{Event, opening, beginning, delivery, timeout, forcing, discarding, crash, restart, marking}

pub record Plan : Type 0 where
  pub site : ℕ
  pub acts : List Act
  pub settle : Run → Run

-- an event without effects
abbrev pub settling : ℕ → (Run → Run) → Plan
settling s f = record { site = s; acts = []; settle = f }

-- ---- rows

unfoldable pub acting : ℕ → List Effect → List Act
acting t es = map (λ e. record { transaction = t; effect = e }) es

-- a row of site s on transaction t; g sets the phase
unfoldable pub row_plan : {P : Type 0} → ℕ → ℕ → (P → Transaction → Transaction) → Row P → Plan
row_plan s t g row = record { site = s; acts = acting t row.effects; settle = at_transaction t (g row.phase) }

unfoldable pub planned : {P : Type 0} → ℕ → ℕ → (P → Transaction → Transaction) → Option (Row P) → Option Plan
planned s t g none = none
planned s t g (some row) = some (row_plan s t g row)

-- the step of site s on transaction t
unfoldable pub step : Run → ℕ → ℕ → Input → Option Plan
step r t zero i =
    let x = r.transaction t in
    planned 0 t (with_coordinator 0) (coordinator_step t (cohort_at x 0) i (coordinator_at x 0))
step r t (suc n) i =
    let x = r.transaction t in
    planned (suc n) t (with_participant (suc n))
    (participant_step (presumption_of x.cohort (suc n)) (suc n) (x.marked (suc n)) i (x.participant (suc n)))

-- a message that finds no row has no effect
unfoldable pub or_nothing : ℕ → Option Plan → Plan
or_nothing s none = settling s (λ r. r)
or_nothing s (some p) = p

-- ---- open: hub Open, members Working

unfoldable pub opened_as : Cohort → Transaction → Transaction
opened_as g x =
    record {
      cohort = g;
      coordinator = record { phase = CoordinatorPhase.initial; taken_out = 0 };
      participant = λ p. cond (member p g.members) ParticipantPhase.working (x.participant p);
      marked = x.marked;
      sent = x.sent;
      entered = x.entered;
    }

-- ---- discard

-- a record that closes its transaction there: 3, 4, or 2 without PrA members; 6 or 7
unfoldable pub closes : LogRecord → Bool
closes x = any (eqb x.kind) (3 ∷ 4 ∷ 6 ∷ 7 ∷ []) || (eqb x.kind 2 && not (awaits_acks x))

unfoldable pub newest : (LogRecord → Bool) → List LogRecord → Bool
newest f [] = false
newest f (x ∷ []) = f x
newest f (x ∷ y ∷ ys) = newest f (y ∷ ys)

-- a transaction, by its records at a site: the newest closes it
unfoldable pub closed : List LogRecord → Bool
closed records = newest closes records

-- the stable records of t at site s close it
unfoldable pub may_discard : Run → ℕ → ℕ → Bool
may_discard r t s = closed (select (of_transaction t) (r.site s).stable)

unfoldable pub drop_oldest : (LogRecord → Bool) → List LogRecord → List LogRecord
drop_oldest f [] = []
drop_oldest f (x ∷ xs) = cond (f x) xs (x ∷ drop_oldest f xs)

-- the oldest record of t is dropped
unfoldable pub trimmed : ℕ → Site → Site
trimmed t x = record { up = x.up; stable = drop_oldest (of_transaction t) x.stable; unforced = x.unforced }

-- a site has a record of t
unfoldable pub remembers : ℕ → Site → Bool
remembers t x = any (of_transaction t) (x.stable ++ x.unforced)

-- with the last one gone a participant is Unknown: whether one is left, or the site is the coordinator
unfoldable pub forgotten_unless : Bool → ℕ → ℕ → Run → Run
forgotten_unless true t s r = r
forgotten_unless false t s r = at_transaction t (with_participant s ParticipantPhase.unknown) r

unfoldable pub discard : ℕ → ℕ → Run → Run
discard t s r =
    let r' = at_site s (trimmed t) r in
    forgotten_unless (eqb s 0 || remembers t (r'.site s)) t s r'

-- ---- restart: each opened transaction in rising order

unfoldable pub transactions : List ℕ
transactions = 0 ∷ 1 ∷ 2 ∷ 3 ∷ 4 ∷ 5 ∷ 6 ∷ 7 ∷ []

-- one transaction, from its records in the stable log: at the coordinator by their masks
unfoldable pub restarting : Run → ℕ → ℕ → Plan
restarting r zero t =
    let log = (r.site 0).stable in
    row_plan 0 t (with_coordinator 0) (coordinator_restart t (λ k. holds t k log) (λ k. recorded_cohort t k log))
restarting r (suc n) t =
    let x = r.transaction t in
    row_plan (suc n) t (with_participant (suc n))
    (participant_restart (presumption_of x.cohort (suc n)) (suc n) (λ k. holds t k (r.site (suc n)).stable))

unfoldable pub joined : Plan → Plan → Plan
joined a b = record { site = a.site; acts = a.acts ++ b.acts; settle = λ r. b.settle (a.settle r) }

unfoldable pub restart_all : Run → ℕ → List ℕ → Plan
restart_all r s [] = settling s (at_site s started)
restart_all r s (t ∷ ts) = joined (restarting r s t) (restart_all r s ts)

-- ---- mark: a participant that only looked, while it is Working

unfoldable pub is_working : ParticipantPhase → Bool
is_working ParticipantPhase.working = true
is_working ParticipantPhase.prepared = false
is_working (ParticipantPhase.decided o) = false
is_working ParticipantPhase.unknown = false

-- ---- the plan of an event; `none`: refused by 8

unfoldable pub plan : Run → Event → Option Plan
plan r (opening t M C) = some (settling 0 (at_transaction t (opened_as (record { members = M; presume_commit = C }))))
plan r (beginning t) = step r t 0 begin
plan r (delivery t p m) = some (or_nothing (receiver m p) (step r t (receiver m p) (received m p)))
plan r (timeout t s) = step r t s timer
plan r (forcing s) = some (record { site = s; acts = acting 0 (force ∷ []); settle = λ x. x })
plan r (discarding t s) = only_if (may_discard r t s) (settling s (discard t s))
plan r (crash s) = some (settling s (λ x. x))
plan r (restart s) = some (restart_all r s (select (opened r) transactions))
plan r (marking t p) = only_if (is_working ((r.transaction t).participant p)) (settling p (at_transaction t (with_marked p)))
