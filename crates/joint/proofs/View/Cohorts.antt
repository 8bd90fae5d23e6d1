-- The cohort of an opened transaction, and what of it effects leave: no event changes it.
use Prim.Native.Nat.{ℕ, zero, suc, ◌<◌}
use mathlib.Core.Path.{◌≡◌, refl, sym, ap, ◌∙◌}
use mathlib.Core.Bool.{Bool, true, false, true≢false}
use mathlib.Core.List.{List, [], ◌∷◌}
use lib.ListN.{take}
use Rattle.codec.specs.Sets.{empty}
use Rattle.site.specs.Cohort.{Cohort}
use Rattle.site.specs.Coordinator.{Coordinator}
use Rattle.site.specs.Participant.{ParticipantPhase}
use Rattle.site.specs.Step.{Effect, append, force, enter, send}
use Rattle.joint.specs.State.{Run, Site, Transaction, opened, forced, started, with_coordinator, with_participant, with_marked, with_sent, forgotten}
use Rattle.joint.specs.Run.{event}
use Rattle.joint.proofs.View.View.{View, view, is_opened, view_at, view_settle, view_perform, view_effects, view_down}
use Rattle.joint.proofs.View.Turn.{Carried, whole, cut_after, view_start, trimmed_view, view_discard, view_forget, Turn, crashes, opens, coordinates, participates, marks, discards, starts, carries, resumes, returns, Turns, still, turn, forces}
use Rattle.joint.proofs.View.Events.{event_turns}

abbrev pub cohort_in : View → Cohort
cohort_in v = v.transaction.cohort

-- ---- effects

perform-same : (s t : ℕ) (e : Effect) (v : View) → (cohort_in (view_perform s t e v) ≡ cohort_in v) × ((view_perform s t e v).transaction.coordinator ≡ v.transaction.coordinator)
unfolding view_perform view_at with_sent
perform-same s t (append k fs) v = (refl, refl)
perform-same s t force v = (refl, refl)
perform-same s t (enter o) v = (refl, refl)
perform-same s t (send m p) v = (refl, refl)

-- they change neither the cohort nor the coordinator's part
pub effects-same : (s t : ℕ) (es : List Effect) (v : View)
    → (cohort_in (view_effects s t es v) ≡ cohort_in v) × ((view_effects s t es v).transaction.coordinator ≡ v.transaction.coordinator)
unfolding view_effects
effects-same s t [] v = (refl, refl)
effects-same s t (e ∷ es) v =
    let x = effects-same s t es (view_perform s t e v) in
    let y = perform-same s t e v in
    (x.0 ∙ y.0, x.1 ∙ y.1)

-- ---- a turn

-- a change that leaves the cohort
abbrev Leaves : (View → View) → Type 0
Leaves f = (u : View) → cohort_in (f u) ≡ cohort_in u

at_leaves : (s : ℕ) (k : Site → Site) → Leaves (view_at s k)
unfolding view_at
at_leaves s k u = refl

coordinator-leaves : (c : Coordinator) → Leaves (view_settle (with_coordinator 0 c))
unfolding view_settle with_coordinator
coordinator-leaves c u = refl

participant-leaves : (p : ℕ) (c : ParticipantPhase) → Leaves (view_settle (with_participant p c))
unfolding view_settle with_participant
participant-leaves p c u = refl

down-leaves : (s n : ℕ) → Leaves (view_down s n)
unfolding view_down forgotten with_coordinator with_participant
down-leaves zero n u = refl
down-leaves (suc m) n u = refl

forget_leaves : (b : Bool) (s : ℕ) → Leaves (view_forget b s)
unfolding view_forget
forget_leaves true s u = refl
forget_leaves false s u = participant-leaves s ParticipantPhase.unknown u

discard-leaves : (s : ℕ) → Leaves (view_discard s)
unfolding view_discard
discard-leaves s u = forget_leaves _ s (view_at s trimmed_view u) ∙ at_leaves s trimmed_view u

started-leaves : (s : ℕ) (g : Transaction → Transaction) → Leaves (view_settle g) → Leaves (view_start s g)
unfolding view_start
started-leaves s g k u = at_leaves s started (view_settle g u) ∙ k u

carried_leaves : {t s : ℕ} {es : List Effect} {f : View → View} {v w : View} → Leaves f → Carried t s es f v w → cohort_in w ≡ cohort_in v
carried_leaves {t} {s} {es} {f} {v} k whole = k (view_effects s t es v) ∙ (effects-same s t es v).0
carried_leaves {t} {s} {es} {f} {v} k (cut_after m n) = down-leaves s n (view_effects s t (take m es) v) ∙ (effects-same s t (take m es) v).0

turn_leaves : {t : ℕ} {Out : ℕ → Type 0} {v w : View} → empty (cohort_in v).members ≡ false → Turn t Out v w → cohort_in w ≡ cohort_in v
turn_leaves {v} o (crashes s n) = down-leaves s n v
turn_leaves {v} o (opens g a b c d e up ups) = absurd (true≢false (sym e ∙ o))
turn_leaves {v} o (carries (coordinates {row} i p up k takes e) d) = carried_leaves (coordinator-leaves row.phase) d
turn_leaves {v} o (carries (participates {row} n i m up k own e) d) = carried_leaves (participant-leaves (suc n) row.phase) d
turn_leaves {v} o (marks n m e) = unfold view_settle with_marked in refl
turn_leaves {v} o (discards s up p e) = discard-leaves s v
turn_leaves {v} o (starts s e) = at_leaves s started v
turn_leaves {v} o (carries (resumes {row} p d e) c) = carried_leaves (started-leaves 0 (with_coordinator 0 row.phase) (coordinator-leaves row.phase)) c
turn_leaves {v} o (carries (returns {row} n d e) c) = carried_leaves (started-leaves (suc n) (with_participant (suc n) row.phase) (participant-leaves (suc n) row.phase)) c

turns_leave : {t : ℕ} {Out : ℕ → Type 0} {v w : View} → empty (cohort_in v).members ≡ false → Turns t Out v w → cohort_in w ≡ cohort_in v
turns_leave o still = refl
turns_leave o (turn x) = turn_leaves o x
turns_leave {v} o (forces s x) = turns_leave (ap (λ (g : Cohort). empty g.members) (at_leaves s forced v) ∙ o) x ∙ at_leaves s forced v

-- ---- events

pub event-leaves : (t : ℕ) (r : Run) (e : List ℕ) → (opened r t ≡ true → t < 8) → opened r t ≡ true → ((event r e).run.transaction t).cohort ≡ (r.transaction t).cohort
unfolding view
event-leaves t r e small o = turns_leave (is_opened t [] r o) (event_turns t [] r e small)
