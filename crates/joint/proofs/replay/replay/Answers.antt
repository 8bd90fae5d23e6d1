use Prim.Native.Nat.{◌+◌, ◌*◌, ◌≤◌, min}
use mathlib.Core.Path.{◌≡◌, refl}
use mathlib.Core.List.{[]}
use lib.ListN.{length}
use native.Mathlib.Omega.{arith}
use Rattle.codec.specs.Lists.{select}
use Rattle.joint.specs.Run.{after}
use Rattle.joint.specs.Drill.{events_of}
use Rattle.joint.specs.Totals.{forces_at}
use Rattle.joint.specs.Answers.{run_in, forces_in, next_in}
use Rattle.joint.specs.Laws.Events.{events_for}
use Rattle.joint.proofs.Engine.Replays.{adds_none, ahead_start, ahead_next, event_at_lem, replay_none, replay_all}
use Rattle.joint.proofs.Engine.Rooms.{rooms}
use Rattle.joint.proofs.replay.replay.Goals as goal

pub returns-then-answers-count : goal.returns-then-answers-count
returns-then-answers-count c = replay_none _ _ _ (omega arith) refl c.new-run.ensures

pub loop-i-init : goal.loop-i-init
loop-i-init c =
    let r = c.new-run.result in
    ahead_start (run_in r) (forces_in r) _ _ _ c.if-answers-count.false (adds_none r [] (λ s. unfold forces_at select in refl))

pub loop-i-preserved : goal.loop-i-preserved
unfolding next_in
loop-i-preserved c =
    let l = c.loop-i in
    let bytes = c.args.bytes.now in
    let within : 6 * l.i ≤ length bytes = omega (arith, c.loop-i-test.true) in
    let end : 6 * l.i + c.min-length.result ≡ min (6 * l.i + 6) (length bytes) = omega arith in
    ahead_next l.invariant c.take-answer.result (run_in c.take-answer.new.self) (forces_in c.take-answer.new.self) _ _ c.loop-i-test.true (event_at_lem l.i bytes _ within end) c.take-answer.ensures c.store.ensures

pub returns : goal.returns
unfolding after
returns c =
    let l = c.loop-i in
    let a = c.args in
    let count : c.div_ceil-count.result ≡ events_for a.bytes.now = omega arith in
    let all : l.i ≡ c.div_ceil-count.result = omega arith in
    replay_all a.bytes.now a.answers.now l.answers c.new-run.result _ (omega (arith, count)) (rooms [] (events_of a.bytes.now)) c.new-run.ensures count (rw (all, count) at l.invariant)
