-- What one event may do to the view of one transaction: nothing, or a turn (a crash, the start of a site, or one of the transaction's own rows), behind forces.
use Prim.Native.Nat.{ℕ, suc, ◌<◌}
use mathlib.Core.Path.{◌≡◌}
use mathlib.Core.Bool.{Bool, true, false, not, ◌||◌}
use mathlib.Core.List.{List, [], ◌∷◌, ◌++◌}
use mathlib.Core.Option.{some}
use lib.ListN.{take, drop}
use lib.Dec.{T, eqb}
use Rattle.codec.specs.Sets.{member, empty, part}
use Rattle.codec.specs.Records.{LogRecord}
use Rattle.site.specs.Step.{prepare, vote_yes, vote_no, read_only, tell, ack, message_kind, Input, begin, timer, received, Effect, Row}
use Rattle.site.specs.Cohort.{Cohort, presumption_of}
use Rattle.site.specs.Coordinator.{Coordinator, coordinator_step, coordinator_restart}
use Rattle.site.specs.Participant.{ParticipantPhase, participant_step, participant_restart}
use Rattle.joint.specs.State.{Site, Transaction, holds, recorded_cohort, forced, started, with_coordinator, with_participant, with_marked}
use Rattle.joint.specs.Plan.{opened_as, closed}
use Rattle.joint.specs.Run.{is_force}
use Rattle.joint.specs.Safety.{collects}
use Rattle.joint.proofs.Base.Lists.{Each}
use Rattle.joint.proofs.View.View.{View, view_at, view_settle, view_effects, view_down}

-- effects of t at site s, all of them and then f, or the first m of them and then a power cut
pub data Carried (t s : ℕ) (es : List Effect) (f : View → View) (v : View) : View → Type 0 where
  whole : Carried t s es f v (f (view_effects s t es v))
  cut_after : (m n : ℕ) → Carried t s es f v (view_down s n (view_effects s t (take m es) v))

-- a message that is delivered is of a member and was sent
abbrev pub Given : View → Input → Type 0
Given v begin = Unit {0}
Given v timer = Unit {0}
Given v (received m p) = T (member p v.transaction.cohort.members) × T (v.transaction.sent p (message_kind m))

-- a read-only vote that comes while votes are collected takes its sender out; `Out p`: the event takes p out
abbrev pub Takes : (ℕ → Type 0) → View → Input → Type 0
Takes Out v begin = Unit {0}
Takes Out v timer = Unit {0}
Takes Out v (received prepare p) = Unit {0}
Takes Out v (received vote_yes p) = Unit {0}
Takes Out v (received vote_no p) = Unit {0}
Takes Out v (received read_only p) = T (collects v.transaction.coordinator.phase) → Out p
Takes Out v (received (tell o) p) = Unit {0}
Takes Out v (received (ack o) p) = Unit {0}

-- it is of participant q itself
abbrev pub Own : ℕ → Input → Type 0
Own q begin = Unit {0}
Own q timer = Unit {0}
Own q (received m p) = p ≡ q

abbrev pub Up : View → ℕ → Type 0
Up v s = (v.site s).up ≡ true

abbrev pub Opened : View → Type 0
Opened v = empty v.transaction.cohort.members ≡ false

-- ---- discard

-- the oldest stable record is dropped
unfoldable pub trimmed_view : Site → Site
trimmed_view x = record { up = x.up; stable = drop 1 x.stable; unforced = x.unforced }

unfoldable pub is_nil : List LogRecord → Bool
is_nil [] = true
is_nil (x ∷ xs) = false

unfoldable pub no_record : Site → Bool
no_record x = is_nil (x.stable ++ x.unforced)

-- whether the phase stays
unfoldable pub view_forget : Bool → ℕ → View → View
view_forget true s v = v
view_forget false s v = view_settle (with_participant s ParticipantPhase.unknown) v

unfoldable pub view_discard : ℕ → View → View
view_discard s v =
    let w = view_at s trimmed_view v in
    view_forget (eqb s 0 || not (no_record (w.site s))) s w

-- ---- restart

-- g sets the phase, and the site is up
unfoldable pub view_start : ℕ → (Transaction → Transaction) → View → View
view_start s g v = view_at s started (view_settle g v)

-- ---- rows; `Out p`: the event takes p out

-- t's own row at site s: its effects, and what settles behind them
pub data OwnRow (t : ℕ) (Out : ℕ → Type 0) (v : View) : ℕ → List Effect → (View → View) → Type 0 where
  coordinates : {row : Row Coordinator} (i : Input) → Opened v → Up v 0 → Given v i → Takes Out v i
      → coordinator_step t v.transaction.cohort i v.transaction.coordinator ≡ some row
      → OwnRow t Out v 0 row.effects (view_settle (with_coordinator 0 row.phase))
  participates : {row : Row ParticipantPhase} (n : ℕ) (i : Input) → T (member (suc n) v.transaction.cohort.members) → Up v (suc n)
      → Given v i → Own (suc n) i
      → participant_step (presumption_of v.transaction.cohort (suc n)) (suc n) (v.transaction.marked (suc n)) i (v.transaction.participant (suc n)) ≡ some row
      → OwnRow t Out v (suc n) row.effects (view_settle (with_participant (suc n) row.phase))
  -- the coordinator's row of a restart, and a participant's
  resumes : {row : Row Coordinator} → Opened v → (v.site 0).up ≡ false
      → coordinator_restart t (λ k. holds t k (v.site 0).stable) (λ k. recorded_cohort t k (v.site 0).stable) ≡ row
      → OwnRow t Out v 0 row.effects (view_start 0 (with_coordinator 0 row.phase))
  returns : {row : Row ParticipantPhase} (n : ℕ) → (v.site (suc n)).up ≡ false
      → participant_restart (presumption_of v.transaction.cohort (suc n)) (suc n) (λ k. holds t k (v.site (suc n)).stable) ≡ row
      → OwnRow t Out v (suc n) row.effects (view_start (suc n) (with_participant (suc n) row.phase))

-- ---- the turns

pub data Turn (t : ℕ) (Out : ℕ → Type 0) (v : View) : View → Type 0 where
  crashes : (s n : ℕ) → Turn t Out v (view_down s n v)
  -- members is a byte, PC a part of it, there is a member, and the coordinator and all members are up
  opens : (g : Cohort) → t < 8 → g.members < 256 → part g.presume_commit g.members ≡ true → empty g.members ≡ false
      → empty v.transaction.cohort.members ≡ true
      → Up v 0 → ((n : ℕ) → member (suc n) g.members ≡ true → Up v (suc n)) → Turn t Out v (view_settle (opened_as g) v)
  carries : {s : ℕ} {es : List Effect} {f : View → View} {w : View} → OwnRow t Out v s es f → Carried t s es f v w → Turn t Out v w
  -- a member that works is marked as one that only looked
  marks : (n : ℕ) → T (member (suc n) v.transaction.cohort.members) → v.transaction.participant (suc n) ≡ ParticipantPhase.working
      → Turn t Out v (view_settle (with_marked (suc n)) v)
  -- of a transaction that is opened, whose stable records there close it
  discards : (s : ℕ) → Up v s → Opened v → closed (v.site s).stable ≡ true → Turn t Out v (view_discard s v)
  -- a site starts, where the transaction is not opened
  starts : (s : ℕ) → empty v.transaction.cohort.members ≡ true → Turn t Out v (view_at s started v)

-- what one event does: nothing, or one of them; first the forces of its row, where that is another transaction's, or of a forcing
pub data Turns (t : ℕ) (Out : ℕ → Type 0) : View → View → Type 0 where
  still : {v : View} → Turns t Out v v
  turn : {v w : View} → Turn t Out v w → Turns t Out v w
  forces : {v w : View} (s : ℕ) → Turns t Out (view_at s forced v) w → Turns t Out v w

-- what t sees of an event's row at site s: its own row; the forces of another transaction's, or of a forcing; or no effect, and then a turn
pub data SeenRow (t : ℕ) (Out : ℕ → Type 0) (v : View) : ℕ → List Effect → (View → View) → Type 0 where
  own : {s : ℕ} {es : List Effect} {f : View → View} → OwnRow t Out v s es f → SeenRow t Out v s es f
  others : {s : ℕ} {es : List Effect} → Each (λ e. T (is_force e)) es → SeenRow t Out v s es (λ x. x)
  bare : {s : ℕ} {f : View → View} → Turns t Out v (f v) → SeenRow t Out v s [] f
