use Prim.Native.Nat.{ℕ}
use mathlib.Core.Path.{◌≡◌, refl, sym, ◌∙◌}
use mathlib.Core.Bool.{true, or-true}
use lib.Dec.{leb}
use native.Mathlib.Omega.{arith}
use borrow.Author.Tests.{lt-leb}
use Rattle.std.specs.Prelude.{Option, Ok}
use Rattle.codec.specs.Lists.{any}
use Rattle.codec.specs.Sets.{member}
use Rattle.site.specs.Step.{messages}
use Rattle.site.specs.Coordinator.{taking_out, coordinator_step}
use Rattle.site.specs.Numbers.{kinds_received, receives, input_of, coordinator_answer}
use Rattle.site.specs.Answers.{cohort_in, coordinator_state_in, found_in, coordinator_answer_in}
use Rattle.site.proofs.ByKind.{coordinator-stranger, coordinator_takes, coordinator_never, not-received}
use Rattle.site.specs.declared.coordinator.Coordinator.{Coordinator}
use Rattle.site.specs.declared.coordinator.CoordinatorState.{CoordinatorState}
use Rattle.site.specs.declared.row.Row.{Row}
use Rattle.site.proofs.coordinator.Coordinator.on_message.Goals as goal

pub returns-then-not-member : goal.returns-then-not-member
returns-then-not-member c t =
    let s = c.args in
    coordinator-stranger t (cohort_in s.self.cohort) (coordinator_state_in s.self.state) s.kind s.participant (lt-leb 16 s.kind (omega (arith, c.requires))) (sym c.member.ensures ∙ c.if-not-member.true)

-- a message of a member, of a kind k that is received
takes : (t : ℕ) (x : Coordinator) (kind p k : ℕ) (o : Option (Row CoordinatorState)) → kind ≡ k → member p x.cohort.members ≡ true → receives 0 k ≡ true
    → found_in coordinator_state_in t o ≡ coordinator_step t (cohort_in x.cohort) (input_of k p) (coordinator_state_in x.state)
    → coordinator_answer_in t (Ok o) ≡ coordinator_answer t (cohort_in x.cohort) kind p (coordinator_state_in x.state)
takes t x kind p k o e m r f =
    coordinator_takes t (cohort_in x.cohort) (coordinator_state_in x.state) kind p k o e (rw (r, m) (or-true (leb 16 k))) f

pub returns-in-1 : goal.returns-in-1
unfolding receives kinds_received any input_of messages coordinator_step
returns-in-1 c t =
    takes t c.args.self c.args.kind c.args.participant 1 _ (omega arith) (sym c.member.ensures ∙ c.if-not-member.false) refl
    (rw (c.leaving_if.ensures t, c.on_yes.ensures t))

pub returns-in-2 : goal.returns-in-2
unfolding receives kinds_received any input_of messages coordinator_step
returns-in-2 c t =
    takes t c.args.self c.args.kind c.args.participant 2 _ (omega arith) (sym c.member.ensures ∙ c.if-not-member.false) refl
    (rw (c.leaving_if-in-2.ensures t, c.on_no.ensures t))

pub returns-in-5 : goal.returns-in-5
unfolding receives kinds_received any input_of messages coordinator_step
returns-in-5 c t =
    takes t c.args.self c.args.kind c.args.participant 5 _ (omega arith) (sym c.member.ensures ∙ c.if-not-member.false) refl
    (rw (c.leaving_if-in-5.ensures t, c.on_ack.ensures t))

pub returns-in-6 : goal.returns-in-6
unfolding receives kinds_received any input_of messages coordinator_step
returns-in-6 c t =
    takes t c.args.self c.args.kind c.args.participant 6 _ (omega arith) (sym c.member.ensures ∙ c.if-not-member.false) refl
    (rw (c.leaving_if-in-6.ensures t, c.on_ack-in-6.ensures t))

pub returns-in-7 : goal.returns-in-7
unfolding receives kinds_received any input_of messages coordinator_step taking_out
returns-in-7 c t =
    takes t c.args.self c.args.kind c.args.participant 7 _ (omega arith) (sym c.member.ensures ∙ c.if-not-member.false) refl
    (rw (c.leaving_if-in-7.ensures t, c.on_read_only.ensures t, c.either-out.ensures, c.only.ensures))

pub returns-in-0 : goal.returns-in-0
returns-in-0 c t =
    coordinator_never t (cohort_in c.args.self.cohort) (coordinator_state_in c.args.self.state) c.args.kind c.args.participant
    (not-received c.args.kind (λ e. omega arith) (λ e. omega arith) (λ e. omega arith) (λ e. omega arith) (λ e. omega arith) (λ e. omega arith) (λ e. omega arith))

pub returns-in-0-2 : goal.returns-in-0-2
returns-in-0-2 c t =
    coordinator_never t (cohort_in c.args.self.cohort) (coordinator_state_in c.args.self.state) c.args.kind c.args.participant
    (not-received c.args.kind (λ e. omega arith) (λ e. omega arith) (λ e. omega arith) (λ e. omega arith) (λ e. omega arith) (λ e. omega arith) (λ e. omega arith))
