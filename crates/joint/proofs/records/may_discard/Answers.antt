use mathlib.Core.Path.{◌≡◌, ap, ◌∙◌}
use mathlib.Core.List.{reverse}
use Rattle.std.specs.Prelude.{Option, None, Some}
use lib.Dec.{eqb}
use Rattle.std.proofs.Common.{rules, tests, Bool, false, Bor, MatchOption}
use Rattle.std.proofs.lemmas.Iterator.Adapters.{YieldsList-from_rev_slice}
use Rattle.std.proofs.lemmas.Iterator.Search.{find_from_yields_List}
use Rattle.std.specs.Option.{option_map}
use Rattle.std.specs.List.{find}
use Rattle.codec.specs.Records.{LogRecord, of_transaction}
use Rattle.codec.specs.Answers.{record_in}
use Rattle.codec.specs.declared.record.Record.{Record}
use Rattle.joint.specs.Plan.{closes}
use Rattle.joint.proofs.Engine.Walks.{passes, newest_passes}
use Rattle.joint.proofs.records.may_discard.Goals as goal

told : (g : LogRecord → Bool) (r : Option (Bor Record)) (b : Bool) → MatchOption r (b ≡ false) (λ x. b ≡ closes (record_in x.now)) → b ≡ passes closes g (option_map (λ y. y.now) r)
told g None b h = h
told g (Some x) b h = h

pub returns : goal.returns
unfolding of_transaction record_in
returns c =
    let t = c.args.transaction in
    let rs = c.args.records.now in
    let e : option_map (λ y. y.now) c.find.result ≡ find (λ (x : Record). eqb x.transaction t) (reverse rs) =
    find_from_yields_List (λ (x : Record). eqb x.transaction t) _ _ c.find.result c.find.ensures.ran (YieldsList-from_rev_slice rs cc) (λ x b q k. search (rules, tests)) in
    told (of_transaction t) c.find.result c.is_some_and.result (search (rules, tests)) ∙ ap (passes closes (of_transaction t)) e ∙ newest_passes closes (of_transaction t) rs
