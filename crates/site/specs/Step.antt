-- What one site's step is made of: messages, inputs, effects and rows.
use Rattle.std.specs.Prelude.{ℕ, Bool, true, false, cond, List, [], ◌∷◌}
use Rattle.std.proofs.Math.Option.{Option, none, some}
use Rattle.site.specs.Presumption.{Outcome, commit, abort}

-- `vote_yes` is 01's Yes, `vote_no` its No, `tell` its Commit and Abort, `ack` its CommitAck and AbortAck; `read_only` is 02's read-only vote.
-- A message is of one participant, to which or from which it goes.
pub data Message : Type 0 where
  prepare vote_yes vote_no read_only : Message
  tell ack : Outcome → Message

-- by kind number
unfoldable pub messages : List Message
messages = prepare ∷ vote_yes ∷ vote_no ∷ tell commit ∷ tell abort ∷ ack commit ∷ ack abort ∷ read_only ∷ []

unfoldable pub message_kind : Message → ℕ
message_kind prepare = 0
message_kind vote_yes = 1
message_kind vote_no = 2
message_kind (tell commit) = 3
message_kind (tell abort) = 4
message_kind (ack commit) = 5
message_kind (ack abort) = 6
message_kind read_only = 7

-- the site that coordinates participant p
unfoldable pub coordinator_of : ℕ → ℕ
coordinator_of p = 0

-- the site that a message of participant p goes to: 0, 3 and 4 to the participant, the others to its coordinator
unfoldable pub receiver : Message → ℕ → ℕ
receiver prepare p = p
receiver vote_yes p = coordinator_of p
receiver vote_no p = coordinator_of p
receiver read_only p = coordinator_of p
receiver (tell o) p = p
receiver (ack o) p = coordinator_of p

-- what a site is given: begin, its timer, or a message of participant p
pub data Input : Type 0 where
  begin timer : Input
  received : Message → ℕ → Input

-- `append k fs` appends a record of kind k with the fields fs behind the transaction; `force` makes all records of the log stable;
-- `enter o` enters an outcome; `send m p` sends a message of participant p
pub data Effect : Type 0 where
  append : ℕ → List ℕ → Effect
  force : Effect
  enter : Outcome → Effect
  send : Message → ℕ → Effect

-- a row: its effects in order, and the phase after them
pub record Row (Phase : Type 0) : Type 0 where
  pub effects : List Effect
  pub phase : Phase

unfoldable pub given : Bool → List Effect → List Effect
given b es = cond b es []

-- what a step answers: refused by 1; no row; a row, which may be without effects
pub data Answer (Phase : Type 0) : Type 0 where
  refused no_row : Answer Phase
  row : Row Phase → Answer Phase

-- its number; begin and timer without a row answer 8 in the joint run
unfoldable pub answer_number : {Phase : Type 0} → Answer Phase → ℕ
answer_number refused = 1
answer_number no_row = 0
answer_number (row r) = 0

unfoldable pub answered : {Phase : Type 0} → Option (Row Phase) → Answer Phase
answered none = no_row
answered (some r) = row r

unfoldable pub answer_if : {Phase : Type 0} → Bool → Option (Row Phase) → Answer Phase
answer_if true r = answered r
answer_if false r = refused
