use mathlib.Core.Path.{refl, sym, ◌∙◌}
use mathlib.Core.List.{List}
use mir.Val.{Val}
use denote.Shadow.{shadow}
use denote.Array.{each}
use Rattle.joint.specs.Answers.{no_records, run_in, site_from}
use Rattle.joint.specs.Inside.{step_in}
use Rattle.joint.proofs.Engine.Arrays.{length-shown}
use Rattle.joint.proofs.Engine.Whole.{logs-whole}
use Rattle.joint.proofs.Engine.Steps.{StepRead, site_low, own, own_site, here, decides}
use Rattle.joint.specs.contracts.records.Records as records
use Rattle.joint.proofs.changes.decide.Goals as goal
use Rattle.joint.proofs.changes.decide.Goals.{After-index-t}

read : (c : After-index-t) (us : List Val) → shadow (each records.the_row.Denot records.the_row.own_val c.args.run.now.records us)
    → StepRead c.args.run.now c.args.step c.index-s.result c.index-t.result
read c us s =
    record {
      full = record {
        nine = search length-shown;
        logs = search length-shown;
        whole = logs-whole c.args.run.now.records us s (search length-shown) c.index-s.result no_records (site_low c.args.step (c.index-s.ensures ∙ c.site.ensures));
        eight = search length-shown;
        counters = search length-shown;
      };
      site = c.index-s.ensures ∙ c.site.ensures;
      transaction = c.index-t.ensures ∙ c.transaction.ensures;
    }

pub returns-in-Open : goal.returns-in-Open
unfolding run_in site_from step_in
returns-in-Open c =
    let w = c.type_inv.run in
    let a = read (goal.at.returns-in-Open c).After-index-t w.1.0.0 w.1.0.1.1 in
    record {
      decided = λ room. decides a c.open.result c.in-Open.is (c.open.ensures (run_in c.args.run.now) (λ i. refl) (own a _ c.in-Open.is));
      whole = rw (sym a.site) a.full.whole;
    }

pub returns-in-Input : goal.returns-in-Input
unfolding run_in site_from step_in
returns-in-Input c =
    let w = c.type_inv.run in
    let a = read (goal.at.returns-in-Input c).After-index-t w.1.0.0 w.1.0.1.1 in
    record {
      decided = λ room. decides a c.input.result c.in-Input.is (c.input.ensures (run_in c.args.run.now) (here a _ c.in-Input.is) (own a _ c.in-Input.is) (rw c.in-Input.is at room));
      whole = rw (sym a.site) a.full.whole;
    }

pub returns-in-Force : goal.returns-in-Force
unfolding run_in site_from step_in
returns-in-Force c =
    let w = c.type_inv.run in
    let a = read (goal.at.returns-in-Force c).After-index-t w.1.0.0 w.1.0.1.1 in
    record {
      decided = λ room. decides a c.force.result c.in-Force.is (c.force.ensures (run_in c.args.run.now) _ _ (here a _ c.in-Force.is));
      whole = rw (sym a.site) a.full.whole;
    }

pub returns-in-Discard : goal.returns-in-Discard
unfolding run_in site_from step_in
returns-in-Discard c =
    let w = c.type_inv.run in
    let a = read (goal.at.returns-in-Discard c).After-index-t w.1.0.0 w.1.0.1.1 in
    record {
      decided = λ room. decides a c.discard.result c.in-Discard.is (c.discard.ensures (run_in c.args.run.now) (own_site a _ _ c.in-Discard.is) (own a _ c.in-Discard.is));
      whole = rw (sym a.site) a.full.whole;
    }

pub returns-in-Crash : goal.returns-in-Crash
unfolding run_in site_from step_in
returns-in-Crash c =
    let w = c.type_inv.run in
    let a = read (goal.at.returns-in-Crash c).After-index-t w.1.0.0 w.1.0.1.1 in
    record {
      decided = λ room. decides a c.crash.result c.in-Crash.is (c.crash.ensures (run_in c.args.run.now) _ _ (here a _ c.in-Crash.is));
      whole = rw (sym a.site) a.full.whole;
    }

pub returns-in-Mark : goal.returns-in-Mark
unfolding run_in site_from step_in
returns-in-Mark c =
    let w = c.type_inv.run in
    let a = read (goal.at.returns-in-Mark c).After-index-t w.1.0.0 w.1.0.1.1 in
    record {
      decided = λ room. decides a c.mark.result c.in-Mark.is (c.mark.ensures (run_in c.args.run.now) (here a _ c.in-Mark.is) (own a _ c.in-Mark.is));
      whole = rw (sym a.site) a.full.whole;
    }
