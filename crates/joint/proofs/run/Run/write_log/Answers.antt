use Prim.Native.Nat.{ℕ, ◌<◌}
use mathlib.Core.Path.{◌≡◌, refl, ap, ◌∙◌}
use mathlib.Core.List.{List}
use lib.ListN.{length}
use borrow.Author.Tests.{lt-ltb}
use Rattle.codec.specs.Lists.{first}
use Rattle.codec.specs.Records.{LogRecord}
use Rattle.codec.specs.Image.{over_limit, log_refusals, write_refusals, write_unless, write_image}
use Rattle.codec.specs.Answers.{written}
use Rattle.joint.specs.State as plain
use Rattle.joint.proofs.Engine.Arrays.{length-shown}
use Rattle.joint.proofs.Engine.Reads.{site_read}
use borrow.Author.Rules.{rules}
use Rattle.joint.proofs.run.Run.write_log.Goals as goal

no_site : (s : ℕ) (log : List LogRecord) (at : ℕ) (buffer : List ℕ) → 8 < s → written 21 buffer ≡ write_image s log at buffer
unfolding write_image write_refusals log_refusals first over_limit write_unless
no_site s log at buffer h = rw (lt-ltb 8 s h) refl

pub returns-then-site-gt-LAST_SITE : goal.returns-then-site-gt-LAST_SITE
returns-then-site-gt-LAST_SITE c =
    let a = c.args in
    no_site a.site _ a.at a.buffer.now (search rules)

pub returns : goal.returns
returns c =
    let a = c.args in
    let r = a.self.now in
    let sites : length r.sites ≡ 9 = search length-shown in
    let logs : length r.records ≡ 9 = search length-shown in
    c.write_log.ensures ∙ ap (λ (x : plain.Site). write_image a.site x.stable a.at a.buffer.now) (site_read r a.site _ _ sites logs (search rules))
