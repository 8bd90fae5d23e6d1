use mathlib.Core.Path.{◌≡◌}
use lib.ListN.{length}
use Rattle.std.proofs.lemmas.List.{take-map}
use Rattle.codec.specs.Answers.{record_in}
use Rattle.joint.proofs.Engine.Arrays.{length-shown}
use Rattle.joint.proofs.Engine.Sites.{log-taken}
use Rattle.joint.proofs.records.Records.all.Goals as goal

pub returns : goal.returns
returns c =
    let rs = c.args.self.now.of in
    let size : length rs ≡ 24 = search length-shown in
    rw (← take-map record_in c.count.result rs, c.count.ensures) (log-taken c.args.site rs size)
