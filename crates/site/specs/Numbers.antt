-- One site's step on numbers, as the lock controllers' firmware calls it. Phases count from 0 in 01's order.
use Rattle.std.specs.Prelude.{ℕ, zero, suc, ◌+◌, ◌*◌, ◌/◌, ◌%◌, ◌^◌, ◌-◌, Bool, false, cond, not, ◌&&◌, ◌||◌, List, [], ◌∷◌, ◌++◌, map, get_or, eqb, leb}
use Rattle.std.proofs.Math.Option.{some}
use Rattle.codec.specs.Lists.{any, every}
use Rattle.codec.specs.Sets.{participants, member, empty, both, part}
use Rattle.site.specs.Presumption.{Outcome, commit, abort, Presumption, presumption_number}
use Rattle.site.specs.Step.{prepare, messages, message_kind, given, Input, begin, timer, received, Effect, append, force, enter, send, Answer, refused, no_row, row, answer_number, answered, answer_if}
use Rattle.site.specs.Cohort.{Cohort, remaining, masks_of, presumption_of, owing}
use Rattle.site.specs.Coordinator.{CoordinatorPhase, Coordinator, ordered, initial, collecting, awaiting_acks, coordinator_step}
use Rattle.site.specs.Participant.{ParticipantPhase, working, prepared, decided, participant_step, participant_restart}

-- ---- phases, waiting sets and inputs as numbers

unfoldable pub coordinator_phase : CoordinatorPhase → ℕ
coordinator_phase initial = 0
coordinator_phase (collecting w) = 1
coordinator_phase (awaiting_acks commit w) = 2
coordinator_phase (awaiting_acks abort w) = 3
coordinator_phase CoordinatorPhase.unknown = 4

unfoldable pub waiting_set : CoordinatorPhase → ℕ
waiting_set initial = 0
waiting_set (collecting w) = w
waiting_set (awaiting_acks o w) = w
waiting_set CoordinatorPhase.unknown = 0

unfoldable pub coordinator_from : ℕ → ℕ → CoordinatorPhase
coordinator_from phase w = get_or (initial ∷ collecting w ∷ awaiting_acks commit w ∷ awaiting_acks abort w ∷ []) phase CoordinatorPhase.unknown

unfoldable pub participant_phase : ParticipantPhase → ℕ
participant_phase working = 0
participant_phase prepared = 1
participant_phase (decided commit) = 2
participant_phase (decided abort) = 3
participant_phase ParticipantPhase.unknown = 4

unfoldable pub participant_from : ℕ → ParticipantPhase
participant_from phase = get_or (working ∷ prepared ∷ decided commit ∷ decided abort ∷ []) phase ParticipantPhase.unknown

-- kind 16 is begin, 17 the timer
unfoldable pub input_of : ℕ → ℕ → Input
input_of kind p = cond (eqb kind 16) begin (cond (eqb kind 17) timer (received (get_or messages kind prepare) p))

-- the kinds that a site receives
unfoldable pub kinds_received : ℕ → List ℕ
kinds_received zero = 1 ∷ 2 ∷ 5 ∷ 6 ∷ 7 ∷ 16 ∷ 17 ∷ []
kinds_received (suc n) = 0 ∷ 3 ∷ 4 ∷ 17 ∷ []

unfoldable pub receives : ℕ → ℕ → Bool
receives s kind = any (eqb kind) (kinds_received s)

-- the step by the kind's number: refused are a kind that the coordinator never receives, and a message of what is no member
unfoldable pub coordinator_answer : ℕ → Cohort → ℕ → ℕ → Coordinator → Answer Coordinator
coordinator_answer t g kind p c =
    answer_if (receives 0 kind && (leb 16 kind || member p g.members)) (coordinator_step t g (input_of kind p) c)

-- refused are a kind that a participant never receives, and what is no participant
unfoldable pub participant_answer : Presumption → ℕ → Bool → ℕ → ParticipantPhase → Answer ParticipantPhase
participant_answer presumption p mark kind x =
    answer_if (receives 1 kind && any (eqb p) participants) (participant_step presumption p mark (input_of kind p) x)

-- restart: refused is what is no participant
unfoldable pub participant_restarted : Presumption → ℕ → (ℕ → Bool) → Answer ParticipantPhase
participant_restarted presumption p has = answer_if (any (eqb p) participants) (some (participant_restart presumption p has))

-- ---- the arguments, in the order of the call; `cohort` is members and PC as opened

pub record Arguments : Type 0 where
  pub site : ℕ
  pub kind : ℕ
  pub transaction : ℕ
  pub participant : ℕ
  pub presumption : ℕ
  pub phase : ℕ
  pub waiting : ℕ
  pub cohort : Cohort
  pub mark : ℕ
  pub taken_out : ℕ

-- the coordinator's waiting set: a part of the members, not empty in Collecting, Committing (PrA members only)
-- and Aborting (PrC members only), and 0 in Open and Unknown
unfoldable pub waiting_in_range : Cohort → ℕ → ℕ → Bool
waiting_in_range g phase w =
    get_or
    (empty w
    ∷ (not (empty w) && part w g.members)
    ∷ (not (empty w) && part w (owing g commit))
    ∷ (not (empty w) && part w (owing g abort))
    ∷ empty w
    ∷ [])
    phase
    false

-- the set taken out: a part of the members outside the waiting set, empty in Open
unfoldable pub taken_out_in_range : Cohort → ℕ → ℕ → ℕ → Bool
taken_out_in_range g phase w out = every (part out g.members ∷ empty (both out w) ∷ (not (eqb phase 0) || empty out) ∷ [])

-- a member, with its presumption
unfoldable pub is_member : Arguments → Bool
is_member a =
    member a.participant a.cohort.members && eqb a.presumption (presumption_number (presumption_of a.cohort a.participant))

-- begin and the coordinator's timer name no participant
unfoldable pub names_none : Arguments → Bool
names_none a = eqb a.participant 0 && eqb a.presumption 0

-- at the coordinator, which has no mark; at a participant, which is named itself, waits for nobody and takes nobody out
unfoldable pub in_range_at : ℕ → Arguments → Bool
in_range_at zero a =
    every
    (waiting_in_range a.cohort a.phase a.waiting
    ∷ taken_out_in_range a.cohort a.phase a.waiting a.taken_out
    ∷ eqb a.mark 0
    ∷ cond (leb 16 a.kind) (names_none a) (is_member a)
    ∷ [])
in_range_at (suc n) a =
    every (eqb a.waiting 0 ∷ eqb a.taken_out 0 ∷ leb a.mark 1 ∷ eqb a.participant (suc n) ∷ is_member a ∷ [])

unfoldable pub arguments_in_range : Arguments → Bool
arguments_in_range a =
    every
    (leb a.site 8
    ∷ receives a.site a.kind
    ∷ leb a.transaction 7
    ∷ leb a.phase 4
    ∷ leb 1 a.cohort.members
    ∷ leb a.cohort.members 255
    ∷ part a.cohort.presume_commit a.cohort.members
    ∷ in_range_at a.site a
    ∷ [])

-- ---- what a row does, as numbers

-- the kinds of the record appended before any other effect, and of the one appended behind others (0: none); whether the log is forced;
-- the outcome entered (0: none, 1 commit, 2 abort); the kind of message sent (0 also where none is), and the participants whose
-- message it is (0: none is sent): a coordinator's message goes to each of them, a participant's is its own
pub record Summary : Type 0 where
  pub first : ℕ
  pub last : ℕ
  pub forced : ℕ
  pub entered : ℕ
  pub message : ℕ
  pub to : ℕ

unfoldable pub outcome_number : Outcome → ℕ
outcome_number commit = 1
outcome_number abort = 2

-- effects behind the first: a record among them is appended last
unfoldable pub summary_behind : List Effect → Summary
summary_behind [] = record { first = 0; last = 0; forced = 0; entered = 0; message = 0; to = 0 }
summary_behind (append k fs ∷ es) =
    let x = summary_behind es in
    record { first = 0; last = k; forced = x.forced; entered = x.entered; message = x.message; to = x.to }
summary_behind (force ∷ es) =
    let x = summary_behind es in
    record { first = 0; last = x.last; forced = 1; entered = x.entered; message = x.message; to = x.to }
summary_behind (enter o ∷ es) =
    let x = summary_behind es in
    record { first = 0; last = x.last; forced = x.forced; entered = outcome_number o; message = x.message; to = x.to }
summary_behind (send m p ∷ es) =
    let x = summary_behind es in
    record { first = 0; last = x.last; forced = x.forced; entered = x.entered; message = message_kind m; to = 2 ^ (p - 1) + x.to }

-- a record that is the first effect is appended first
unfoldable pub summary_from : ℕ → Summary → Summary
summary_from k x = record { first = k; last = x.last; forced = x.forced; entered = x.entered; message = x.message; to = x.to }

unfoldable pub summary : List Effect → Summary
summary [] = summary_behind []
summary (append k fs ∷ es) = summary_from k (summary_behind es)
summary (force ∷ es) = summary_behind (force ∷ es)
summary (enter o ∷ es) = summary_behind (enter o ∷ es)
summary (send m p ∷ es) = summary_behind (send m p ∷ es)

-- ---- the step: the answer's number, and its values: phase, waiting set, set taken out, and the row's numbers.
-- The two kinds of record share a byte, the last in its high four bits; so do whether the log is forced and the outcome, twice its number

unfoldable pub row_values : ℕ → ℕ → ℕ → List Effect → List ℕ
row_values phase w out es =
    let x = summary es in
    phase ∷ w ∷ out ∷ (x.first + 16 * x.last) ∷ (x.forced + 2 * x.entered) ∷ x.message ∷ x.to ∷ []

unfoldable pub no_values : List ℕ
no_values = 0 ∷ 0 ∷ 0 ∷ 0 ∷ 0 ∷ 0 ∷ 0 ∷ []

-- no row: phase, waiting set and set taken out as they came
unfoldable pub coordinator_values : ℕ → ℕ → ℕ → Answer Coordinator → List ℕ
coordinator_values phase w out refused = no_values
coordinator_values phase w out no_row = row_values phase w out []
coordinator_values phase w out (row r) =
    row_values (coordinator_phase r.phase.phase) (waiting_set r.phase.phase) r.phase.taken_out r.effects

unfoldable pub participant_values : ℕ → Answer ParticipantPhase → List ℕ
participant_values phase refused = no_values
participant_values phase no_row = row_values phase 0 0 []
participant_values phase (row r) = row_values (participant_phase r.phase) 0 0 r.effects

unfoldable pub coordinator_result : ℕ → ℕ → ℕ → Answer Coordinator → List ℕ
coordinator_result phase w out a = answer_number a ∷ coordinator_values phase w out a

unfoldable pub participant_result : ℕ → Answer ParticipantPhase → List ℕ
participant_result phase a = answer_number a ∷ participant_values phase a

-- a refusal is 1, and zeros
unfoldable pub refusal : List ℕ
refusal = 1 ∷ no_values

unfoldable pub step_at : ℕ → Arguments → List ℕ
step_at zero a =
    coordinator_result a.phase a.waiting a.taken_out
    (answered
    (coordinator_step a.transaction a.cohort (input_of a.kind a.participant)
    (record { phase = coordinator_from a.phase a.waiting; taken_out = a.taken_out })))
step_at (suc n) a =
    participant_result a.phase
    (answered (participant_step (presumption_of a.cohort (suc n)) (suc n) (eqb a.mark 1) (input_of a.kind (suc n)) (participant_from a.phase)))

unfoldable pub site_step : Arguments → List ℕ
site_step a = cond (arguments_in_range a) (step_at a.site a) refusal

-- ---- what firmware does with the row's numbers (include/dpr.h)

-- the fields of a record that a step appends: 1 the masks as passed, 2 those without the set taken out after the step, 5 the presumption,
-- the others none
unfoldable pub fields_of : Arguments → ℕ → ℕ → List ℕ
fields_of a out kind =
    get_or ([] ∷ masks_of a.cohort ∷ masks_of (remaining a.cohort out) ∷ [] ∷ [] ∷ (a.presumption ∷ []) ∷ []) kind []

-- an outcome goes first to those that owe an ack for it
unfoldable pub go_first : Cohort → ℕ → ℕ
go_first g kind = get_or (0 ∷ 0 ∷ 0 ∷ owing g commit ∷ owing g abort ∷ []) kind 0

unfoldable pub entry_of : ℕ → List Effect
entry_of n = get_or ([] ∷ (enter commit ∷ []) ∷ (enter abort ∷ []) ∷ []) n []

unfoldable pub appending : ℕ → List ℕ → List Effect
appending zero fs = []
appending (suc k) fs = append (suc k) fs ∷ []

-- append, force, enter, send, append; `out` is the set taken out after the step
unfoldable pub doing : Arguments → ℕ → Summary → List Effect
doing a out x =
    appending x.first (fields_of a out x.first)
    ++ (given (eqb x.forced 1) (force ∷ [])
    ++ (entry_of x.entered
    ++ (map (send (get_or messages x.message prepare)) (ordered a.transaction (go_first a.cohort x.message) x.to)
    ++ appending x.last (fields_of a out x.last))))

-- the row's numbers, read from the values of a call
unfoldable pub row_read : List ℕ → Summary
row_read vs =
    let records = get_or vs 4 0 in
    let acts = get_or vs 5 0 in
    record { first = records % 16; last = records / 16; forced = acts % 2; entered = acts / 2; message = get_or vs 6 0; to = get_or vs 7 0 }

unfoldable pub done : Arguments → List ℕ → List Effect
done a vs = doing a (get_or vs 3 0) (row_read vs)

-- the result of the C call: eight bytes in one number, the first lowest
unfoldable pub packed : List ℕ → ℕ
packed [] = 0
packed (n ∷ ns) = n + 256 * packed ns
