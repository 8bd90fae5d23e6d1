use mathlib.Core.Path.{◌≡◌, ap, ◌∙◌}
use mathlib.Core.Bool.{cond, ◌&&◌}
use lib.Dec.{eqb}
use Rattle.std.proofs.Common.{rules, tests}
use Rattle.std.proofs.lemmas.Iterator.{YieldsList-from_slice}
use Rattle.std.proofs.lemmas.Iterator.Search.{find_from_yields_List}
use Rattle.std.specs.Prelude.{Option}
use Rattle.std.specs.Option.{option_map, unwrap_or}
use Rattle.std.specs.List.{find}
use Rattle.codec.specs.Answers.{no_record}
use Rattle.codec.specs.declared.record.Record.{Record}
use Rattle.joint.proofs.Engine.Walks.{recorded, masks_recorded}
use Rattle.joint.proofs.records.cohort.Goals as goal
use Rattle.joint.proofs.records.cohort.Goals.{then-commit, else-commit}

pub returns : goal.returns
returns c =
    let t = c.args.transaction in
    let rs = c.args.records.now in
    let e : option_map (λ y. y.now) c.find-found.result ≡ find (λ (x : Record). eqb x.transaction t && eqb x.kind c.if-commit.kind) rs =
    find_from_yields_List (λ (x : Record). eqb x.transaction t && eqb x.kind c.if-commit.kind) _ _ c.find-found.result c.find-found.ensures.ran (YieldsList-from_slice rs cc) (λ x b q k. search (rules, tests)) in
    let k : c.if-commit.kind ≡ cond c.args.commit 2 1 =
    elim c.if-commit.branch [
      | then-commit w ↦ rw w.if-commit.true w.kind-is
      | else-commit w ↦ rw w.if-commit.false w.kind-is
    ] in
    let x : c.unwrap_or-x.result ≡ unwrap_or (find (recorded t c.args.commit) rs) no_record =
    c.unwrap_or-x.ensures ∙ ap (λ (o : Option Record). unwrap_or o no_record) (c.copied.ensures ∙ rw k at e) in
    rw x (masks_recorded t c.args.commit rs)
