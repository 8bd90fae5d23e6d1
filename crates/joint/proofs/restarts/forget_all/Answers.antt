use Prim.Native.Nat.{ℕ, zero, suc}
use mathlib.Core.Path.{◌≡◌, sym, ap, ◌∙◌}
use lib.ListN.{length}
use native.Mathlib.Omega.{arith}
use Rattle.site.specs.Answers.{participant_in}
use Rattle.site.specs.Participant.{ParticipantPhase}
use Rattle.joint.specs.State as plain
use Rattle.joint.specs.State.{update, forgotten, with_coordinator, with_participant}
use Rattle.joint.specs.Answers.{transaction_in, no_transaction}
use Rattle.site.specs.declared.phases.ParticipantPhase.TheVariants as held
use Rattle.joint.proofs.Engine.Arrays.{length-shown, all-default, pass_ends}
use Rattle.joint.proofs.Base.Placed.{update-own}
use Rattle.joint.proofs.restarts.forget_all.Goals as goal

-- a transaction that was never opened has no phase to forget
none_forgotten : (s : ℕ) → transaction_in no_transaction ≡ forgotten s (transaction_in no_transaction)
unfolding transaction_in forgotten with_coordinator with_participant
none_forgotten s = go s
  where
    x : plain.Transaction
    x = transaction_in no_transaction

    unknown : (s : ℕ) → x.participant s ≡ ParticipantPhase.unknown
    unknown s = unfold transaction_in in ap participant_in (all-default 9 s held.Unknown)

    same : (s : ℕ) → x.participant ≡ update s (λ _. ParticipantPhase.unknown) x.participant
    same s = sym (update-own s x.participant) ∙ ap (λ (c : ParticipantPhase). update s (λ _. c) x.participant) (unknown s)

    go : (s : ℕ) → x ≡ forgotten s x
    go zero = λ i. record { cohort = x.cohort; coordinator = x.coordinator; participant = same 0 i; marked = x.marked; sent = x.sent; entered = x.entered }
    go (suc n) = λ i. record { cohort = x.cohort; coordinator = x.coordinator; participant = same (suc n) i; marked = x.marked; sent = x.sent; entered = x.entered }

pub returns : goal.returns
returns c =
    let l = c.loop-transaction in
    let n : length c.args.transactions.now ≡ 8 = search length-shown in
    pass_ends transaction_in (forgotten c.args.site.number) no_transaction _ l.transactions l.transaction-index l.invariant (omega (arith, n, c.loop-transaction-test.false)) (none_forgotten _)
