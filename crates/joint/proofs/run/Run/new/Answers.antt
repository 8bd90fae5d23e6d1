use Prim.Native.Nat.{ℕ}
use mathlib.Core.Path.{◌≡◌, refl, ap, ap₂, ◌∙◌, fun_ext}
use mathlib.Core.Bool.{false}
use lib.ListN.{replicate}
use native.Mathlib.Omega.{arith}
use Rattle.codec.specs.Sets.{member}
use Rattle.codec.specs.Laws.Members.{high_bits, none_in}
use Rattle.site.specs.Presumption.{Outcome, commit, abort}
use Rattle.site.specs.Answers.{participant_in, has_kind}
use Rattle.site.specs.declared.phases.ParticipantPhase.TheVariants as held
use Rattle.joint.specs.State.{unknown_part, fresh}
use Rattle.joint.specs.Totals.{highest, held}
use Rattle.joint.specs.Answers.{site_from, no_site, no_records, entered_in, transaction_in, no_transaction, run_in, forces_in}
use Rattle.joint.specs.declared.sites.Site.{Site}
use Rattle.joint.specs.declared.records.Records.{Records}
use Rattle.joint.proofs.Engine.Arrays.{all-default}
use Rattle.joint.proofs.Base.Placed.{run_path}
use Rattle.joint.proofs.run.Run.new.Goals as goal

no_site_lem : (s : ℕ) → site_from no_site no_records.of ≡ fresh.site s
unfolding site_from fresh
no_site_lem s = refl

no_kind : (k : ℕ) → has_kind 0 k ≡ false
unfolding has_kind
no_kind k = rw (high_bits 0 0 k (omega arith) (omega arith)) refl

nothing_entered : (s : ℕ) (o : Outcome) → entered_in 0 0 s o ≡ false
unfolding entered_in
nothing_entered s commit = no_kind s
nothing_entered s abort = no_kind s

no_transaction_lem : (t : ℕ) → transaction_in no_transaction ≡ fresh.transaction t
unfolding transaction_in fresh
no_transaction_lem t =
    λ i. record {
      cohort = (fresh.transaction t).cohort;
      coordinator = unknown_part;
      participant = λ p. participant_in (all-default 9 p held.Unknown i);
      marked = λ p. no_kind p i;
      sent = λ p k. (ap (member p) (all-default 8 k 0) ∙ none_in p) i;
      entered = λ s o. nothing_entered s o i;
    }

run_fresh : run_in (record { sites = replicate 9 no_site; records = replicate 9 no_records; transactions = replicate 8 no_transaction; forces = replicate 9 0 }) ≡ fresh
unfolding run_in
run_fresh =
    run_path (fun_ext (λ s. ap₂ (λ (x : Site) (y : Records). site_from x y.of) (all-default 9 s no_site) (all-default 9 s no_records) ∙ no_site_lem s)) (fun_ext (λ t. ap transaction_in (all-default 8 t no_transaction) ∙ no_transaction_lem t))

pub returns : goal.returns
unfolding forces_in
returns c = (rw (c.new.ensures, c.new-2.ensures) run_fresh, λ s. ap held (all-default 9 s 0) ∙ unfold held highest in refl)
