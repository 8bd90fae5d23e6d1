use Rattle.std.proofs.Common.{◌≡◌, [], ◌∷◌, ap, ◌∙◌, rules}
use Rattle.codec.specs.Image.{Written, write_image}
use Rattle.codec.specs.declared.log.Log.{Log}
use Rattle.codec.specs.Answers.{result_number, log_in, no_log, written}
use Rattle.codec.specs.Open.{codec_opens}
use Rattle.codec_cases.proofs.buffers.Goals as goal

-- a log without records, in five bytes
five-bytes : (l : Log) → l ≡ no_log 1 → write_image l.site (log_in l) 0 (238 ∷ 238 ∷ 238 ∷ 238 ∷ 238 ∷ []) ≡ written 25 (238 ∷ 238 ∷ 238 ∷ 238 ∷ 238 ∷ [])
unfolding codec_opens log_in
five-bytes l e = ap (λ (l : Log). write_image l.site (log_in l) 0 (238 ∷ 238 ∷ 238 ∷ 238 ∷ 238 ∷ [])) e

pub expect-requires : goal.expect-requires
expect-requires c =
    let number : result_number c.write_image.result ≡ 25 = ap (λ (w : Written). w.answer) (c.write_image.ensures ∙ five-bytes c.new.result c.new.ensures) in
    search rules
