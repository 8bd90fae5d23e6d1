-- The invariant of one transaction, over its view.
use Prim.Native.Nat.{ℕ, suc, ◌<◌}
use mathlib.Core.Path.{◌≡◌}
use mathlib.Core.Logic.{◌⊎◌}
use mathlib.Core.Bool.{Bool, true, false, not, ◌&&◌, ◌||◌}
use mathlib.Core.List.{List, [], ◌∷◌, map}
use lib.ListN.{get_or}
use lib.Dec.{T}
use Rattle.codec.specs.Sets.{member, empty, part}
use Rattle.codec.specs.Records.{LogRecord}
use Rattle.site.specs.Presumption.{Outcome, commit, abort, same_outcome, presumption_number}
use Rattle.site.specs.Cohort.{Cohort, remaining, masks_of, presumption_of, owing, writes_init}
use Rattle.site.specs.Step.{Message, vote_yes, read_only, message_kind}
use Rattle.site.specs.Coordinator.{CoordinatorPhase, Coordinator, end_record}
use Rattle.joint.specs.State.{Site}
use Rattle.joint.proofs.View.View.{View}
use Rattle.joint.proofs.Safety.Tables.{Status, is_up, phase_of, stable_kinds, unforced_kinds, has, Stage, fresh, asking, done, is_counted, Fine}

-- ---- the coordinator

-- the kinds of its stable records, oldest first
pub data Log : Type 0 where
  l0 l1 l12 l2 l123 l23 l3 l14 l4 : Log

abbrev pub kinds_in : Log → List ℕ
kinds_in l0 = []
kinds_in l1 = 1 ∷ []
kinds_in l12 = 1 ∷ 2 ∷ []
kinds_in l2 = 2 ∷ []
kinds_in l123 = 1 ∷ 2 ∷ 3 ∷ []
kinds_in l23 = 2 ∷ 3 ∷ []
kinds_in l3 = 3 ∷ []
kinds_in l14 = 1 ∷ 4 ∷ []
kinds_in l4 = 4 ∷ []

-- what restart makes of the records: nothing, an outcome that is resumed, an outcome that has ended
pub data Class : Type 0 where
  nothing : Class
  live ended : Outcome → Class

abbrev pub class_of : Log → Class
class_of l0 = nothing
class_of l1 = live abort
class_of l12 = live commit
class_of l2 = live commit
class_of l123 = ended commit
class_of l23 = ended commit
class_of l3 = ended commit
class_of l14 = ended abort
class_of l4 = ended abort

abbrev pub resumed : Class → Bool
resumed nothing = false
resumed (live o) = true
resumed (ended o) = false

-- once it has decided: it waits for acks; it is in Unknown, with an unforced end record or without; it is down
pub data Pace : Type 0 where
  waiting : ℕ → Pace
  resting : Bool → Pace
  down : Pace

-- `never`: not opened; whether it is up. `initial`, `collecting`: whether a record 1, a record 2 stands unforced (in the middle of a row).
-- `collecting`: the votes that are missing, and the set taken out; `decided`: the set that was taken out then
pub data Standing : Type 0 where
  never : Bool → Standing
  initial : Bool → Standing
  collecting : (w out : ℕ) → Bool → Standing
  decided : Outcome → (out : ℕ) → Pace → Log → Standing

abbrev pub out_of : Standing → ℕ
out_of (never u) = 0
out_of (initial b) = 0
out_of (collecting w out b) = out
out_of (decided o out pace l) = out

-- the coordinator is done with a participant
abbrev pub is_done : Pace → Log → ℕ → Bool
is_done (waiting w) l p = not (member p w)
is_done (resting b) l p = true
is_done down l p = not (resumed (class_of l))

-- how it stands to participant p
abbrev pub stage_of : Standing → ℕ → Stage
stage_of (never u) p = fresh
stage_of (initial b) p = fresh
stage_of (collecting w out b) p = asking (member p w)
stage_of (decided o out pace l) p = done o (is_done pace l p)

-- outcome o is decided
abbrev pub has_decided : Standing → Outcome → Bool
has_decided (never u) o = false
has_decided (initial b) o = false
has_decided (collecting w out b) o = false
has_decided (decided d out pace l) o = same_outcome d o

-- the records with which a coordinator that has decided o may stand; i: record 1 is written at begin
abbrev pub log_fits : Bool → Outcome → Pace → Class → Bool
log_fits i o (waiting w) nothing = same_outcome o abort && not i
log_fits i o (waiting w) (live d) = same_outcome o d
log_fits i o (waiting w) (ended d) = false
log_fits i o (resting true) nothing = false
log_fits i o (resting true) (live d) = same_outcome o d
log_fits i o (resting true) (ended d) = false
log_fits i o (resting false) nothing = true
log_fits i o (resting false) (live d) = same_outcome o d
log_fits i o (resting false) (ended d) = same_outcome o d
log_fits i o down nothing = true
log_fits i o down (live d) = same_outcome o d
log_fits i o down (ended d) = same_outcome o d

abbrev pub standing_fits : Bool → Standing → Bool
standing_fits i (never u) = true
standing_fits i (initial b) = not b || i
standing_fits i (collecting w out b) = true
standing_fits i (decided o out pace l) = log_fits i o pace (class_of l)

-- a record 1 stands where a member presumes commit, a record 3 where someone owes an ack; i, a: whether it is so
abbrev pub proper_kinds : Bool → Bool → List ℕ → Bool
proper_kinds i a ks = (i || not (has 1 ks)) && (a || not (has 3 ks))

abbrev pub proper_log : Bool → Bool → Standing → Bool
proper_log i a (never u) = true
proper_log i a (initial b) = true
proper_log i a (collecting w out b) = true
proper_log i a (decided o out pace l) = proper_kinds i a (kinds_in l)

-- someone owes an ack for commit
abbrev pub awaits_commit : Cohort → Bool
awaits_commit g = not (empty (owing g commit))

-- those that are told the outcome once more at restart: commit those that remained, as record 2 has them, abort all, as record 1 has them
abbrev pub told_of : Cohort → ℕ → Outcome → Cohort
told_of g out commit = remaining g out
told_of g out abort = g

-- the sets waited for
abbrev pub SetsFit : Cohort → Standing → Type 0
SetsFit g (never u) = Unit {0}
SetsFit g (initial b) = Unit {0}
SetsFit g (collecting w out false) = (w < 256) × ((p : ℕ) → T (member p w) → T (member p g.members))
-- a record 2 stands where no vote is missing
SetsFit g (collecting w out true) = (p : ℕ) → T (member p w) → ⊥
SetsFit g (decided o out (waiting w) l) = (w < 256) × ((p : ℕ) → T (member p w) → T (member p (owing (told_of g out o) o)))
-- a record 3 stands unforced where acks were owed
SetsFit g (decided commit out (resting true) l) = T (awaits_commit (remaining g out))
SetsFit g (decided abort out (resting true) l) = Unit {0}
SetsFit g (decided o out (resting false) l) = Unit {0}
SetsFit g (decided o out down l) = Unit {0}

-- somebody remains where a record 2 is written
abbrev pub SomeLeft : Cohort → ℕ → Outcome → Type 0
SomeLeft g out commit = T (not (empty (remaining g out).members))
SomeLeft g out abort = Unit {0}

abbrev pub Remains : Cohort → Standing → Type 0
Remains g (never u) = Unit {0}
Remains g (initial b) = Unit {0}
Remains g (collecting w out false) = Unit {0}
Remains g (collecting w out true) = SomeLeft g out commit
Remains g (decided o out pace l) = SomeLeft g out o

-- with what it collects votes: record 1, where it is written
abbrev pub init_log : Bool → Log
init_log true = l1
init_log false = l0

abbrev pub standing_up : Standing → Bool
standing_up (never u) = u
standing_up (initial b) = true
standing_up (collecting w out b) = true
standing_up (decided o out (waiting w) l) = true
standing_up (decided o out (resting b) l) = true
standing_up (decided o out down l) = false

abbrev pub stable_at : Bool → Standing → List ℕ
stable_at i (never u) = []
stable_at i (initial b) = []
stable_at i (collecting w out b) = kinds_in (init_log i)
stable_at i (decided o out pace l) = kinds_in l

abbrev pub kind_if : Bool → ℕ → List ℕ
kind_if true k = k ∷ []
kind_if false k = []

abbrev pub unforced_at : Standing → List ℕ
unforced_at (never u) = []
unforced_at (initial b) = kind_if b 1
unforced_at (collecting w out b) = kind_if b 2
unforced_at (decided o out (waiting w) l) = []
unforced_at (decided o out (resting b) l) = kind_if b (end_record o)
unforced_at (decided o out down l) = []

-- the phase of the standing
abbrev pub phase_at : Standing → CoordinatorPhase
phase_at (never u) = CoordinatorPhase.unknown
phase_at (initial b) = CoordinatorPhase.initial
phase_at (collecting w out b) = CoordinatorPhase.collecting w
phase_at (decided o out (waiting w) l) = CoordinatorPhase.awaiting_acks o w
phase_at (decided o out (resting b) l) = CoordinatorPhase.unknown
phase_at (decided o out down l) = CoordinatorPhase.unknown

-- between events: no row is half done, and where something is awaited the set is not empty
abbrev pub between : Standing → Bool
between (never u) = true
between (initial b) = not b
between (collecting w out b) = not b && not (empty w)
between (decided o out (waiting w) l) = not (empty w)
between (decided o out (resting b) l) = true
between (decided o out down l) = true

abbrev pub is_never : Standing → Bool
is_never (never u) = true
is_never (initial b) = false
is_never (collecting w out b) = false
is_never (decided o out pace l) = false

-- ---- records

-- the fields of site s's record of kind k behind the transaction; record 2 has the masks without the set taken out
abbrev pub fields_at : Cohort → ℕ → ℕ → ℕ → List ℕ
fields_at g out s k = get_or ([] ∷ masks_of g ∷ masks_of (remaining g out) ∷ [] ∷ [] ∷ (presumption_number (presumption_of g s) ∷ []) ∷ []) k []

abbrev pub record_for : Cohort → ℕ → ℕ → ℕ → ℕ → LogRecord
record_for g out t s k = record { kind = k; transaction = t; fields = fields_at g out s k }

-- a site with records of these kinds
abbrev pub site_with : Cohort → ℕ → ℕ → ℕ → Bool → List ℕ → List ℕ → Site
site_with g out t s u ks js = record { up = u; stable = map (record_for g out t s) ks; unforced = map (record_for g out t s) js }

abbrev pub cohort_of : View → Cohort
cohort_of v = v.transaction.cohort

-- ---- the participants

abbrev pub sent_in : View → ℕ → Message → Bool
sent_in v p m = v.transaction.sent p (message_kind m)

-- the site of participant suc n is up or down, with records and phase, as its status says
pub record Stands (t n : ℕ) (s : Status) (v : View) : Type 0 where
  pub site : v.site (suc n) ≡ site_with (cohort_of v) 0 t (suc n) (is_up s) (stable_kinds s) (unforced_kinds s)
  pub phase : v.transaction.participant (suc n) ≡ phase_of s

-- it is no member: nothing is recorded, sent or entered
pub record Stranger (n : ℕ) (v : View) : Type 0 where
  pub stable : (v.site (suc n)).stable ≡ []
  pub unforced : (v.site (suc n)).unforced ≡ []
  pub sent : (m : Message) → sent_in v (suc n) m ≡ false
  pub entered : (o : Outcome) → v.entered (suc n) o ≡ false

-- a member's site stands; whether it is one
abbrev pub Place : Bool → ℕ → ℕ → Status → View → Type 0
Place true t n s v = Stands t n s v
Place false t n s v = Stranger n v

-- the edge from the coordinator, which is at stage m to it, to the participant
abbrev pub Edge : Stage → ℕ → Status → View → Type 0
Edge m n s v =
    Fine (presumption_of (cohort_of v) (suc n)) (v.transaction.marked (suc n)) m s (sent_in v (suc n)) (v.entered (suc n)) (v.voted (suc n))

-- a participant with its edge
pub record Here (b : Bool) (t : ℕ) (m : Stage) (n : ℕ) (v : View) : Type 0 where
  pub status : Status
  pub stands : Place b t n status v
  pub fine : T b → Edge m n status v

-- ---- the invariant, but for the coordinator's phase: it holds in the middle of a row too

-- of the cohort and the coordinator's standing
pub record Sound (t : ℕ) (g : Cohort) (h : Standing) : Type 0 where
  -- an opened transaction is one of 0 to 7, its members are a byte, and PC is a part of them
  pub number : empty g.members ≡ false → t < 8
  pub byte : g.members < 256
  pub part : part g.presume_commit g.members ≡ true
  -- it stands as `never` exactly if it is not opened
  pub opened : is_never h ≡ empty g.members
  -- the stable records let restart resume what is waited for, and tell no other outcome
  pub fit : T (standing_fits (writes_init g) h)
  -- records 1 and 3 stand only where they are called for
  pub proper : T (proper_log (writes_init g) (awaits_commit (remaining g (out_of h))) h)
  -- only members are waited for, and only those that owe an ack
  pub sets : SetsFit g h
  -- somebody remains where commit is decided
  pub remains : Remains g h

-- what the coordinator has heard
pub record Votes (v : View) (h : Standing) : Type 0 where
  pub looked : (n : ℕ) → T (member (suc n) (out_of h)) → T (sent_in v (suc n) read_only)
  pub said : (n : ℕ) → T (member (suc n) (cohort_of v).members) → T (is_counted (stage_of h (suc n)))
      → T (member (suc n) (out_of h)) ⊎ T (sent_in v (suc n) vote_yes)

pub record Mid (t : ℕ) (h : Standing) (v : View) : Type 0 where
  pub sound : Sound t (cohort_of v) h
  -- the coordinator is up or down, and has the records, as its standing says
  pub log : v.site 0 ≡ site_with (cohort_of v) (out_of h) t 0 (standing_up h) (stable_at (writes_init (cohort_of v)) h) (unforced_at h)
  -- it has entered nothing but what is decided
  pub entries : (o : Outcome) → T (v.entered 0 o) → T (has_decided h o)
  -- those taken out have sent a read-only vote; the others whose vote is counted a Yes
  pub votes : Votes v h
  -- the sites of the participants: each member stands as its status says, and nothing has happened at anyone else
  pub status : ℕ → Status
  pub stands : (n : ℕ) → Place (member (suc n) (cohort_of v).members) t n (status n) v
  -- the edges: each member is fine, at the stage of its coordinator to it
  pub fine : (n : ℕ) → T (member (suc n) (cohort_of v).members) → Edge (stage_of h (suc n)) n (status n) v

pub here : {t : ℕ} {h : Standing} {v : View} → Mid t h v → (n : ℕ) → Here (member (suc n) (cohort_of v).members) t (stage_of h (suc n)) n v
here mid n = record { status = mid.status n; stands = mid.stands n; fine = mid.fine n }

-- ---- the invariant between events

-- once it has decided, nothing reads the set taken out
abbrev pub PhaseAs : Standing → Coordinator → Type 0
PhaseAs (never u) c = c ≡ record { phase = CoordinatorPhase.unknown; taken_out = 0 }
PhaseAs (initial b) c = c ≡ record { phase = CoordinatorPhase.initial; taken_out = 0 }
PhaseAs (collecting w out b) c = c ≡ record { phase = CoordinatorPhase.collecting w; taken_out = out }
PhaseAs (decided o out pace l) c = c.phase ≡ phase_at (decided o out pace l)

pub record Inv (t : ℕ) (h : Standing) (v : View) : Type 0 where
  pub mid : Mid t h v
  -- the phase is that of the standing, and so is the set taken out while votes are collected
  pub phase : PhaseAs h v.transaction.coordinator
  -- no row is half done, and a set that is waited for is not empty
  pub whole : T (between h)
