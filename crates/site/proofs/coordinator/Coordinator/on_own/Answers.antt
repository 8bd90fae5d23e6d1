use mathlib.Core.Path.{refl}
use native.Mathlib.Omega.{arith}
use Rattle.codec.specs.Lists.{any}
use Rattle.site.specs.Step.{messages}
use Rattle.site.specs.Coordinator.{coordinator_step}
use Rattle.site.specs.Numbers.{kinds_received, receives, input_of}
use Rattle.site.specs.Answers.{cohort_in, coordinator_state_in}
use Rattle.site.proofs.ByKind.{coordinator_takes, coordinator_never, not-received}
use Rattle.site.proofs.coordinator.Coordinator.on_own.Goals as goal

pub returns-in-16 : goal.returns-in-16
unfolding receives kinds_received any input_of messages coordinator_step
returns-in-16 c t p =
    let s = c.args in
    coordinator_takes t (cohort_in s.self.cohort) (coordinator_state_in s.self.state) s.kind p 16 _ c.in-16.is refl (rw (c.leaving_if.ensures t, c.on_begin.ensures t))

pub returns-in-17 : goal.returns-in-17
unfolding receives kinds_received any input_of messages coordinator_step
returns-in-17 c t p =
    let s = c.args in
    coordinator_takes t (cohort_in s.self.cohort) (coordinator_state_in s.self.state) s.kind p 17 _ c.in-17.is refl (rw (c.leaving_if-in-17.ensures t, c.on_timer.ensures t))

pub returns-in-0-to-15 : goal.returns-in-0-to-15
returns-in-0-to-15 c t p =
    let r = c.in-0-to-15.in-0-to-15-own.rest in
    coordinator_never t (cohort_in c.args.self.cohort) (coordinator_state_in c.args.self.state) c.args.kind p
    (not-received c.args.kind (λ e. omega (arith, e, c.requires)) (λ e. omega (arith, e, c.requires)) (λ e. omega (arith, e, c.requires)) (λ e. omega (arith, e, c.requires)) (λ e. omega (arith, e, c.requires)) r.0.1 r.1)
