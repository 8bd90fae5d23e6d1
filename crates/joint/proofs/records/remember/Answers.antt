use mathlib.Core.Path.{◌∙◌}
use lib.Dec.{eqb}
use Rattle.std.proofs.Common.{rules, tests}
use Rattle.std.proofs.lemmas.Iterator.{YieldsList-from_slice}
use Rattle.std.proofs.lemmas.Iterator.Search.{any_from_yields_List}
use Rattle.codec.specs.Records.{of_transaction}
use Rattle.codec.specs.Answers.{record_in}
use Rattle.codec.specs.declared.record.Record.{Record}
use Rattle.joint.proofs.Engine.Walks.{any_passes}
use Rattle.joint.proofs.records.remember.Goals as goal

pub returns : goal.returns
unfolding of_transaction record_in
returns c =
    let t = c.args.transaction in
    let rs = c.args.records.now in
    any_from_yields_List (λ (x : Record). eqb x.transaction t) _ _ _ c.any.ensures.ran (YieldsList-from_slice rs cc) (λ x b q k. search (rules, tests))
    ∙ any_passes (of_transaction t) rs
