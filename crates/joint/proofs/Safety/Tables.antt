-- One participant and the coordinator as it stands to that participant: the tables of the invariant. All of it is finite.
use Prim.Native.Nat.{ℕ}
use mathlib.Core.Bool.{Bool, true, false, not, ◌&&◌, ◌||◌}
use mathlib.Core.List.{List, [], ◌∷◌}
use lib.Dec.{T, eqb}
use Rattle.codec.specs.Lists.{any}
use Rattle.site.specs.Presumption.{Outcome, commit, abort, same_outcome, Presumption, acks, silence}
use Rattle.site.specs.Step.{Message, prepare, vote_yes, vote_no, read_only, tell, ack}
use Rattle.site.specs.Participant.{ParticipantPhase, outcome_record}

-- ---- a participant: up or down, its phase, the kinds of its stable and of its unforced records, in the combinations that occur

pub data Status : Type 0 where
  -- up: no record; stable 5; Unknown and no record
  working prepared gone : Status
  -- up: stable 5, and 6 or 7 unforced
  half : Outcome → Status
  -- up: 7 unforced, alone
  lone : Status
  -- up: stable 6 or 7; whether 5 still stands before it
  shut : Outcome → Bool → Status
  -- down: no record; stable 5; stable 6 or 7
  off off_voted : Status
  off_shut : Outcome → Bool → Status

abbrev pub is_up : Status → Bool
is_up working = true
is_up prepared = true
is_up gone = true
is_up (half o) = true
is_up lone = true
is_up (shut o f) = true
is_up off = false
is_up off_voted = false
is_up (off_shut o f) = false

abbrev pub phase_of : Status → ParticipantPhase
phase_of working = ParticipantPhase.working
phase_of prepared = ParticipantPhase.prepared
phase_of gone = ParticipantPhase.unknown
phase_of (half o) = ParticipantPhase.decided o
phase_of lone = ParticipantPhase.decided abort
phase_of (shut o f) = ParticipantPhase.decided o
phase_of off = ParticipantPhase.unknown
phase_of off_voted = ParticipantPhase.unknown
phase_of (off_shut o f) = ParticipantPhase.unknown

-- the record of an outcome, behind 5 or alone
abbrev pub end_kinds : Outcome → Bool → List ℕ
end_kinds o true = 5 ∷ outcome_record o ∷ []
end_kinds o false = outcome_record o ∷ []

abbrev pub stable_kinds : Status → List ℕ
stable_kinds working = []
stable_kinds prepared = 5 ∷ []
stable_kinds gone = []
stable_kinds (half o) = 5 ∷ []
stable_kinds lone = []
stable_kinds (shut o f) = end_kinds o f
stable_kinds off = []
stable_kinds off_voted = 5 ∷ []
stable_kinds (off_shut o f) = end_kinds o f

abbrev pub unforced_kinds : Status → List ℕ
unforced_kinds working = []
unforced_kinds prepared = []
unforced_kinds gone = []
unforced_kinds (half o) = outcome_record o ∷ []
unforced_kinds lone = outcome_record abort ∷ []
unforced_kinds (shut o f) = []
unforced_kinds off = []
unforced_kinds off_voted = []
unforced_kinds (off_shut o f) = []

abbrev pub is_working : Status → Bool
is_working working = true
is_working prepared = false
is_working gone = false
is_working (half o) = false
is_working lone = false
is_working (shut o f) = false
is_working off = false
is_working off_voted = false
is_working (off_shut o f) = false

unfoldable pub has : ℕ → List ℕ → Bool
has k ks = any (λ j. eqb j k) ks

abbrev pub has_outcome : List ℕ → Bool
has_outcome ks = has 6 ks || has 7 ks

abbrev pub other : Outcome → Outcome
other commit = abort
other abort = commit

-- the stable log holds 5 and no outcome
abbrev pub doubtful : Status → Bool
doubtful s = has 5 (stable_kinds s) && not (has_outcome (stable_kinds s))

-- neither in doubt nor to be brought there by a Prepare; p: a Prepare was sent
abbrev pub quiet : Status → Bool → Bool
quiet s p = not (doubtful s) && not (is_working s && p)

-- no outcome is recorded
abbrev pub early : Status → Bool
early s = not (has_outcome (stable_kinds s)) && not (has_outcome (unforced_kinds s))

-- Unknown or down, with no record
abbrev pub blank : Status → Bool
blank s = early s && not (has 5 (stable_kinds s)) && not (is_working s)

-- the records are of outcome o; one in doubt has no unforced record of an outcome that it acknowledges; and where it still works, o is abort
abbrev pub conforms : Presumption → Outcome → Status → Bool
conforms c o s =
    not (has (outcome_record (other o)) (stable_kinds s))
    && not (has (outcome_record (other o)) (unforced_kinds s))
    && (not (doubtful s) || not (has_outcome (unforced_kinds s)) || not (acks c o))
    && (same_outcome o abort || not (is_working s))

-- ---- the coordinator, as it stands to the participant

pub data Stage : Type 0 where
  -- before begin
  fresh : Stage
  -- collecting; whether the participant's vote is missing
  asking : Bool → Stage
  -- decided; whether the coordinator is done with the participant: in Unknown, now or after the next restart, or its ack is here or not owed
  done : Outcome → Bool → Stage

-- ---- the invariant: what states, messages and entries there may be at each stage

-- p: a Prepare was sent; r: a read-only vote was. A vote that is counted is a Yes of one in doubt, or a read-only vote
abbrev pub fits : Presumption → Stage → Status → Bool → Bool → Bool
fits c fresh s p r = early s && not (has 5 (stable_kinds s)) && not p
fits c (asking w) s p r = early s && (w || doubtful s || r)
fits c (done o u) s p r = conforms c o s && (not u || same_outcome (silence c) o || quiet s p)

-- whether a message may have been sent
abbrev pub may : Stage → Status → Bool → Message → Bool
may fresh s p prepare = p
may fresh s p vote_yes = false
may fresh s p vote_no = false
may fresh s p read_only = false
may fresh s p (tell o) = false
may fresh s p (ack o) = false
may (asking w) s p prepare = p
may (asking w) s p vote_yes = doubtful s
may (asking w) s p vote_no = blank s
may (asking w) s p read_only = blank s
may (asking w) s p (tell o) = false
may (asking w) s p (ack o) = false
may (done d u) s p prepare = p
may (done d u) s p vote_yes = true
may (done d u) s p vote_no = true
may (done d u) s p read_only = blank s
may (done d u) s p (tell o) = same_outcome d o || quiet s p
may (done d u) s p (ack o) = quiet s p

-- whether the participant may have entered an outcome; r: it sent a read-only vote
abbrev pub may_enter : Stage → Status → Bool → Outcome → Bool
may_enter fresh s r o = same_outcome o abort && blank s
may_enter (asking w) s r o = same_outcome o abort && blank s && not r
may_enter (done d u) s r o = same_outcome d o

-- its vote was counted, or commit is decided
abbrev pub is_counted : Stage → Bool
is_counted fresh = false
is_counted (asking w) = not w
is_counted (done o u) = same_outcome o commit

-- what a participant has voted, k: it is marked as one that only looked, y: it sent a Yes, r: it sent a read-only vote.
-- One that is marked has no record 5 and sent no Yes; while it works it has voted nothing
abbrev pub trail : Status → Bool → Bool → Bool → Bool
trail s k y r =
    (not r || k) && (not y || not k) && (not k || not (has 5 (stable_kinds s))) && (not (is_working s) || (not y && not r))

-- k: it is marked; sent: its messages; entered: its entries; voted: it voted Yes from a stable record
pub record Fine (c : Presumption) (k : Bool) (m : Stage) (s : Status) (sent : Message → Bool) (entered : Outcome → Bool) (voted : Bool) : Type 0 where
  -- its state is one that the stage allows
  pub shape : T (fits c m s (sent prepare) (sent read_only))
  -- only such messages were sent, and entries made, as the stage and its state allow
  pub messages : (g : Message) → T (sent g) → T (may m s (sent prepare) g)
  pub entries : (o : Outcome) → T (entered o) → T (may_enter m s (sent read_only) o)
  -- if its vote was counted, or commit is decided, it has sent a Yes or a read-only vote
  pub counted : T (is_counted m) → T (sent vote_yes || sent read_only)
  -- if it has sent a Yes, it has sent one from a stable record
  pub honest : T (sent vote_yes) → T voted
  -- a read-only vote is of one that is marked, a Yes of one that is not
  pub looked : T (trail s k (sent vote_yes) (sent read_only))

-- ---- how the coordinator may pass from stage to stage; y, n, a, r: the participant sent a Yes, a No, an ack of the outcome that is decided,
-- a read-only vote

abbrev pub passes : Presumption → Bool → Bool → Bool → Bool → Stage → Stage → Bool
passes c y n a r fresh fresh = true
passes c y n a r fresh (asking w) = w
passes c y n a r fresh (done o u) = same_outcome o abort
passes c y n a r (asking w) fresh = false
passes c y n a r (asking w) (asking v) = v || not w || y || r
passes c y n a r (asking w) (done commit u) = not w && (not u || same_outcome (silence c) commit || r)
passes c y n a r (asking w) (done abort u) = not u || same_outcome (silence c) abort || n || r
passes c y n a r (done o u) fresh = false
passes c y n a r (done o u) (asking w) = false
passes c y n a r (done o u) (done d v) = same_outcome o d && (not v || u || same_outcome (silence c) o || a || r)

-- of these messages, an ack of what is decided
abbrev pub ack_sent : (Message → Bool) → Stage → Bool
ack_sent f fresh = false
ack_sent f (asking w) = false
ack_sent f (done o u) = f (ack o)

-- what it may send the participant
abbrev pub may_send : Presumption → Stage → Bool → Message → Bool
may_send c fresh y m = false
may_send c (asking w) y prepare = true
may_send c (asking w) y vote_yes = false
may_send c (asking w) y vote_no = false
may_send c (asking w) y read_only = false
may_send c (asking w) y (tell o) = false
may_send c (asking w) y (ack o) = false
may_send c (done d u) y prepare = false
may_send c (done d u) y vote_yes = false
may_send c (done d u) y vote_no = false
may_send c (done d u) y read_only = false
-- its outcome; or, to one with which it is done, what silence means, upon a Yes
may_send c (done d u) y (tell o) = same_outcome d o || (u && y && same_outcome (silence c) o)
may_send c (done d u) y (ack o) = false
