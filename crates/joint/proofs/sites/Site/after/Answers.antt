use Prim.Native.Nat.{ℕ, ◌+◌}
use mathlib.Core.Path.{◌≡◌, refl, ap, sym, ◌∙◌}
use mathlib.Core.Bool.{cond}
use mathlib.Core.List.{[], ◌∷◌}
use lib.ListN.{length}
use lib.Dec.{eqb}
use Rattle.codec.specs.Answers.{record_in}
use Rattle.codec.specs.declared.record.Record.{Record}
use Rattle.site.specs.Step.{force, given}
use Rattle.site.specs.Numbers.{appending}
use Rattle.site.specs.Answers.{fields_by}
use Rattle.joint.specs.Answers.{site_from}
use Rattle.joint.specs.Inside.{size, count_of, put_at, put_row, site_after}
use Rattle.joint.proofs.Engine.Effects.{room, site-row, size-first}
use Rattle.joint.proofs.Engine.Sites.{put_length, log-counted}
use Rattle.joint.proofs.sites.Site.after.Goals as goal

pub returns : goal.returns
unfolding record_in put_row
returns c = λ rs t all fits.
    let s = c.args in
    let e = s.effects in
    let x : Record = record { kind = e.appended; transaction = t; first = e.first; second = e.second } in
    let y : Record = record { kind = e.last; transaction = t; first = 0; second = 0 } in
    let r = room t (site_from s.self rs) e fits in
    let ps = put_at (count_of s.self) x rs in
    let all' : length ps ≡ 24 = put_length (count_of s.self) x rs ∙ all in
    let forced = c.force_if in
    let two = forced.ensures ps t all' ∙ ap (site_after t (given e.forced (force ∷ []))) (c.append.ensures rs x refl all r.0) in
    let at : count_of forced.result ≡ count_of s.self + cond (eqb e.appended 0) 0 1 =
    sym (log-counted forced.result ps all') ∙ ap size two ∙ size-first t e.appended _ e.forced (site_from s.self rs)
    ∙ ap (λ (n : ℕ). n + cond (eqb e.appended 0) 0 1) (log-counted s.self rs all) in
    rw (← at)
    (c.append-2.ensures ps y refl all' (rw two r.1)
    ∙ ap (site_after t (appending e.last (fields_by e.last 0 0))) two
    ∙ sym (site-row t (site_from s.self rs) e))
