-- Each call that is accepted and finds a row: what firmware does with its numbers is that row. Assumes nothing.
use mathlib.Core.Path.{◌≡◌, refl, ap, sym, ◌∙◌, subst}
use mathlib.Core.Bool.{Bool, true, false, cond, not, ◌&&◌, and-eq-true_iff, false≢true}
use mathlib.Core.List.{◌∷◌}
use mathlib.Core.Option.{some}
use Prim.Native.Nat.{ℕ, zero, suc, ◌<◌}
use native.Mathlib.Omega.{arith}
use lib.ListN.{get_or}
use lib.Dec.{eqb, leb}
use borrow.Author.Tests.{eqb-true, eqb-false, leb-true}
use Rattle.codec.specs.Sets.{member, empty, both, part}
use Rattle.codec.specs.Laws.Tests.{every_at}
use Rattle.codec.specs.Laws.Masks.{those-below}
use Rattle.site.specs.Presumption.{commit, abort, presumption_number}
use Rattle.site.specs.Cohort.{Cohort, presumption_of, owing}
use Rattle.site.specs.Step.{prepare, messages, begin, timer, received, Row, answer_number, answered}
use Rattle.site.specs.Coordinator.{Coordinator, coordinator_step}
use Rattle.site.specs.Participant.{ParticipantPhase, participant_step}
use Rattle.site.specs.Numbers.{Arguments, coordinator_from, coordinator_phase, waiting_set, participant_from, participant_phase, input_of, receives, waiting_in_range, is_member, names_none, in_range_at, arguments_in_range, row_values, coordinator_values, participant_values, coordinator_result, participant_result, step_at, site_step, done}
use Rattle.site.proofs.Sent.{member_numbered}
use Rattle.site.proofs.ByKind.{not-received}
use Rattle.site.proofs.Done.{Sender, coordinator-done, participant-done, values-done}

-- a part of a set is a byte
part-below : (w m : ℕ) → (not (empty w) && part w m) ≡ true → w < 256
unfolding part both
part-below w m e =
    let s = eqb-true (both w m) w ((and-eq-true_iff (not (empty w)) (part w m)).0 e).1 in
    rw s at (those-below (λ p. member p w && member p m))

empty-below : (w : ℕ) → empty w ≡ true → w < 256
unfolding empty
empty-below w e = omega (arith, eqb-true w 0 e)

waiting-below : (g : Cohort) (phase w : ℕ) → waiting_in_range g phase w ≡ true → w < 256
unfolding waiting_in_range
waiting-below g zero w e = empty-below w e
waiting-below g (suc zero) w e = part-below w g.members e
waiting-below g (suc (suc zero)) w e = part-below w (owing g commit) e
waiting-below g (suc (suc (suc zero))) w e = part-below w (owing g abort) e
waiting-below g (suc (suc (suc (suc zero)))) w e = empty-below w e
waiting-below g (suc (suc (suc (suc (suc n))))) w e = absurd (false≢true e)

set_below : (phase w : ℕ) → w < 256 → waiting_set (coordinator_from phase w) < 256
unfolding coordinator_from waiting_set
set_below zero w h = omega arith
set_below (suc zero) w h = h
set_below (suc (suc zero)) w h = h
set_below (suc (suc (suc zero))) w h = h
set_below (suc (suc (suc (suc n)))) w h = omega arith

-- what a call in range says of its arguments
record InRange (a : Arguments) : Type 0 where
  pub known : receives a.site a.kind ≡ true
  pub byte : a.cohort.members < 256
  pub rest : in_range_at a.site a ≡ true

in_range_lem : (a : Arguments) → arguments_in_range a ≡ true → InRange a
unfolding arguments_in_range
in_range_lem a e =
    record {
      known = every_at _ e 1;
      byte = omega (arith, leb-true a.cohort.members 255 (every_at _ e 5));
      rest = every_at _ e 7;
    }

-- a message is of a member, and so of a participant
sender : (a : Arguments) → a.cohort.members < 256 → receives 0 a.kind ≡ true → cond (leb 16 a.kind) (names_none a) (is_member a) ≡ true
    → Sender (input_of a.kind a.participant)
unfolding input_of is_member
sender a h r e = by (eqb a.kind 16) (eqb a.kind 17) (leb 16 a.kind) refl refl refl e
  where
    by : (b c l : Bool) → eqb a.kind 16 ≡ b → eqb a.kind 17 ≡ c → leb 16 a.kind ≡ l → cond l (names_none a) (is_member a) ≡ true
        → Sender (cond b begin (cond c timer (received (get_or messages a.kind prepare) a.participant)))
    by true c l d f g q = tt
    by false true l d f g q = tt
    by false false true d f g q =
        let k = leb-true 16 a.kind g in
        absurd (false≢true (sym (not-received a.kind (λ z. absurd (omega (arith, k, z))) (λ z. absurd (omega (arith, k, z))) (λ z. absurd (omega (arith, k, z))) (λ z. absurd (omega (arith, k, z))) (λ z. absurd (omega (arith, k, z))) (eqb-false a.kind 16 d) (eqb-false a.kind 17 f)) ∙ r))
    by false false false d f g q = member_numbered a.participant a.cohort.members h ((and-eq-true_iff (member a.participant a.cohort.members) _).0 q).0

pub coordinator_call : (a : Arguments) → arguments_in_range a ≡ true → a.site ≡ 0 → (r : Row Coordinator)
    → coordinator_step a.transaction a.cohort (input_of a.kind a.participant) (record { phase = coordinator_from a.phase a.waiting; taken_out = a.taken_out }) ≡ some r
    → done a (site_step a) ≡ r.effects
unfolding in_range_at site_step step_at coordinator_result coordinator_values answered answer_number
coordinator_call a ok z r e =
    let x = in_range_lem a ok in
    let k = subst (λ (s : ℕ). receives s a.kind ≡ true) z x.known in
    let q = subst (λ (s : ℕ). in_range_at s a ≡ true) z x.rest in
    let w = set_below a.phase a.waiting (waiting-below a.cohort a.phase a.waiting (every_at _ q 0)) in
    let d = coordinator-done a x.byte (input_of a.kind a.participant) (record { phase = coordinator_from a.phase a.waiting; taken_out = a.taken_out })
    (sender a x.byte k (every_at _ q 3)) w r e in
    let values : site_step a ≡ 0 ∷ row_values (coordinator_phase r.phase.phase) (waiting_set r.phase.phase) r.phase.taken_out r.effects =
    rw (ok, subst (λ (s : ℕ). step_at s a ≡ step_at 0 a) (sym z) refl, e) refl in
    ap (done a) values ∙ values-done a _ _ r.phase.taken_out r.effects d

pub participant_call : (a : Arguments) → arguments_in_range a ≡ true → (n : ℕ) → a.site ≡ suc n → (r : Row ParticipantPhase)
    → participant_step (presumption_of a.cohort (suc n)) (suc n) (eqb a.mark 1) (input_of a.kind (suc n)) (participant_from a.phase) ≡ some r
    → done a (site_step a) ≡ r.effects
unfolding in_range_at is_member site_step step_at participant_result participant_values answered answer_number
participant_call a ok n z r e =
    let x = in_range_lem a ok in
    let q = subst (λ (s : ℕ). in_range_at s a ≡ true) z x.rest in
    let own-member : is_member a ≡ true = every_at _ q 4 in
    let m = (and-eq-true_iff (member a.participant a.cohort.members) (eqb a.presumption (presumption_number (presumption_of a.cohort a.participant)))).0 own-member in
    let own : a.participant ≡ suc n = eqb-true a.participant (suc n) (every_at _ q 3) in
    let p = rw own at (member_numbered a.participant a.cohort.members x.byte m.0) in
    let s = rw own at (eqb-true a.presumption (presumption_number (presumption_of a.cohort a.participant)) m.1) in
    let d = participant-done a (presumption_of a.cohort (suc n)) s (suc n) p (eqb a.mark 1) (input_of a.kind (suc n)) (participant_from a.phase) r e in
    let values : site_step a ≡ 0 ∷ row_values (participant_phase r.phase) 0 0 r.effects =
    rw (ok, subst (λ (s : ℕ). step_at s a ≡ step_at (suc n) a) (sym z) refl, e) refl in
    ap (done a) values ∙ values-done a _ _ 0 r.effects d
