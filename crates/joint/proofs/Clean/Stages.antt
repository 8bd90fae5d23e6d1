-- How far a clean run has come: each member's stage, and what coordinator and members still owe of the bill.
use Prim.Native.Nat.{ℕ, suc, ◌+◌, ◌<◌}
use mathlib.Core.Path.{◌≡◌}
use mathlib.Core.Bool.{Bool, true, false, cond, not, ◌&&◌}
use mathlib.Core.List.{List, [], ◌∷◌, map}
use lib.Dec.{T, eqb}
use Rattle.codec.specs.Lists.{any}
use Rattle.codec.specs.Sets.{member, empty, listed}
use Rattle.codec.specs.Laws.Tests.{alike}
use Rattle.site.specs.Presumption.{commit, acks}
use Rattle.site.specs.Cohort.{Cohort, writes_init, presumption_of, owing}
use Rattle.site.specs.Coordinator.{CoordinatorPhase, until_acked}
use Rattle.site.specs.Participant.{ParticipantPhase}
use Rattle.joint.specs.State.{Transaction}
use Rattle.joint.specs.Run.{Answer}
use Rattle.joint.specs.Totals.{sum}
use Rattle.joint.specs.Bill.{Bill, size}

-- ---- a member

-- it is not asked yet; Prepare is on its way; its Yes is; its Yes was counted; Commit is on its way; its ack is; nothing more
pub data Stage : Type 0 where
  idle asked voted counted told acking finished : Stage

abbrev pub phase_of : Stage → ParticipantPhase
phase_of idle = ParticipantPhase.working
phase_of asked = ParticipantPhase.working
phase_of voted = ParticipantPhase.prepared
phase_of counted = ParticipantPhase.prepared
phase_of told = ParticipantPhase.prepared
phase_of acking = ParticipantPhase.decided commit
phase_of finished = ParticipantPhase.decided commit

-- the kinds of its messages, all and but for an ack; whether it acknowledges commit
abbrev pub its_kinds : Bool → List ℕ
its_kinds true = 0 ∷ 1 ∷ 3 ∷ 5 ∷ []
its_kinds false = 0 ∷ 1 ∷ 3 ∷ []

-- of these: sent, and delivered
abbrev pub sent_at : Bool → Stage → List ℕ
sent_at a idle = []
sent_at a asked = 0 ∷ []
sent_at a voted = 0 ∷ 1 ∷ []
sent_at a counted = 0 ∷ 1 ∷ []
sent_at a told = 0 ∷ 1 ∷ 3 ∷ []
sent_at a acking = 0 ∷ 1 ∷ 3 ∷ 5 ∷ []
sent_at a finished = its_kinds a

abbrev pub done_at : Bool → Stage → List ℕ
done_at a idle = []
done_at a asked = []
done_at a voted = 0 ∷ []
done_at a counted = 0 ∷ 1 ∷ []
done_at a told = 0 ∷ 1 ∷ []
done_at a acking = 0 ∷ 1 ∷ 3 ∷ []
done_at a finished = its_kinds a

abbrev pub has_entered : Stage → Bool
has_entered idle = false
has_entered asked = false
has_entered voted = false
has_entered counted = false
has_entered told = false
has_entered acking = true
has_entered finished = true

abbrev pub is_idle : Stage → Bool
is_idle idle = true
is_idle asked = false
is_idle voted = false
is_idle counted = false
is_idle told = false
is_idle acking = false
is_idle finished = false

-- ---- how the coordinator stands to it

-- while votes are collected; whether its vote is missing
abbrev pub asks : Bool → Stage → Bool
asks w idle = false
asks w asked = w
asks w voted = w
asks w counted = not w
asks w told = false
asks w acking = false
asks w finished = false

-- once commit is decided; whether it acknowledges, and whether its ack is missing
abbrev pub follows : Bool → Bool → Stage → Bool
follows a w idle = false
follows a w asked = false
follows a w voted = false
follows a w counted = false
follows a w told = alike a w
follows a w acking = a && w
follows a w finished = not w

-- ---- the transaction, of the cohort g

abbrev pub acks_in : Cohort → ℕ → Bool
acks_in g p = acks (presumption_of g p) commit

abbrev pub IsMember : Cohort → ℕ → Type 0
IsMember g n = T (member (suc n) g.members)

-- whom the coordinator waits for are members
abbrev pub Within : Cohort → ℕ → Type 0
Within g w = (w < 256) × ((n : ℕ) → T (member (suc n) w) → IsMember g n)

pub data Leads (g : Cohort) (stage : ℕ → Stage) (entered : Bool) : CoordinatorPhase → Type 0 where
  initial : ((n : ℕ) → IsMember g n → stage (suc n) ≡ idle) → Leads g stage entered CoordinatorPhase.initial
  collecting : (w : ℕ) → Within g w → empty w ≡ false → ((n : ℕ) → IsMember g n → T (asks (member (suc n) w) (stage (suc n))))
      → Leads g stage entered (CoordinatorPhase.collecting w)
  decided : (w : ℕ) → Within g w → T entered → ((n : ℕ) → IsMember g n → T (follows (acks_in g (suc n)) (member (suc n) w) (stage (suc n))))
      → Leads g stage entered (until_acked commit w)

-- it is not begun
abbrev pub is_open : CoordinatorPhase → Bool
is_open CoordinatorPhase.initial = true
is_open (CoordinatorPhase.collecting w) = false
is_open (CoordinatorPhase.awaiting_acks o w) = false
is_open CoordinatorPhase.unknown = false

-- a member; `done` are the kinds of its messages that were delivered
pub record Edge (a : Bool) (s : Stage) (x : Transaction) (done : ℕ → Bool) (p : ℕ) : Type 0 where
  pub phase : x.participant p ≡ phase_of s
  pub unmarked : x.marked p ≡ false
  pub sent : (k : ℕ) → x.sent p k ≡ any (eqb k) (sent_at a s)
  pub delivered : (k : ℕ) → done k ≡ any (eqb k) (done_at a s)
  pub entered : T (has_entered s) → T (x.entered p commit)

pub record Stands (g : Cohort) (stage : ℕ → Stage) (done : ℕ → ℕ → Bool) (x : Transaction) : Type 0 where
  pub cohort : x.cohort ≡ g
  pub leads : Leads g stage (x.entered 0 commit) x.coordinator.phase
  pub out : x.coordinator.taken_out ≡ 0
  pub edge : (n : ℕ) → IsMember g n → Edge (acks_in g (suc n)) (stage (suc n)) x (done (suc n)) (suc n)

-- ---- what is still owed

-- the three numbers of a bill
pub data Item : Type 0 where
  records forces sends : Item

abbrev pub pick {ℓ} : {A : Type ℓ} → Item → A → A → A → A
pick records x y z = x
pick forces x y z = y
pick sends x y z = z

abbrev pub of_bill : Item → Bill → ℕ
of_bill i b = pick i b.records b.forces b.sends

abbrev pub of_answer : Item → Answer → ℕ
of_answer i a = pick i a.records a.forces a.sends

-- by a member: whether it acknowledges commit
abbrev pub member_owes : Item → Bool → ParticipantPhase → ℕ
member_owes i a ParticipantPhase.working = pick i 2 (1 + cond a 1 0) (1 + cond a 1 0)
member_owes i a ParticipantPhase.prepared = pick i 1 (cond a 1 0) (cond a 1 0)
member_owes i a (ParticipantPhase.decided o) = 0
member_owes i a ParticipantPhase.unknown = 0

-- by the coordinator: whether Init is written, whether acks are owed, and how many members there are
abbrev pub leader_owes : Item → Bool → Bool → ℕ → CoordinatorPhase → ℕ
leader_owes i c a n CoordinatorPhase.initial = pick i (cond c 1 0 + (1 + cond a 1 0)) (cond c 1 0 + 1) (n + n)
leader_owes i c a n (CoordinatorPhase.collecting w) = pick i (1 + cond a 1 0) 1 n
leader_owes i c a n (CoordinatorPhase.awaiting_acks o w) = pick i 1 0 0
leader_owes i c a n CoordinatorPhase.unknown = 0

abbrev pub members_owe : Item → Cohort → (ℕ → ParticipantPhase) → ℕ
members_owe i g f = sum (map (λ p. member_owes i (acks_in g p) (f p)) (listed g.members))

abbrev pub coordinator_owes : Item → Cohort → CoordinatorPhase → ℕ
coordinator_owes i g c = leader_owes i (writes_init g) (not (empty (owing g commit))) (size g.members) c

abbrev pub owes : Item → Cohort → Transaction → ℕ
owes i g x = coordinator_owes i g x.coordinator.phase + members_owe i g x.participant
