use Rattle.std.specs.Prelude.{Ok}
use mathlib.Core.Path.{◌≡◌, refl, ap, ◌∙◌}
use lib.ListN.{length, set}
use native.Mathlib.Omega.{arith}
use Rattle.std.proofs.lemmas.Result.{err_from_is_err_and}
use Rattle.joint.specs.Answers.{run_in, next_in, answer_in}
use Rattle.joint.proofs.Engine.Arrays.{length-shown}
use Rattle.joint.proofs.Engine.Turns.{turned_at, turned_refused, parsed_seen, restart-stored, restart-refused}
use Rattle.joint.proofs.run.Run.restart.Goals as goal

pub returns-in_err-next : goal.returns-in_err-next
unfolding next_in answer_in
returns-in_err-next c bytes parse_is room =
    let r = c.args.self.now in
    let p = err_from_is_err_and c.from_residual.result c.from_residual.ensures.1 in
    rw (p.1, p.2) (turned_refused r bytes c.in_err-next.field-0.0
    (restart-refused r (search length-shown) (search length-shown) c.args.e.site.number c.args.e.site.in_range _ _ c.restart.result _ _ (rw c.index-s.ensures at c.restart.ensures) c.in_err-next.field-0.0 c.in_err-next.was
    ∙ parsed_seen (run_in r) bytes _ parse_is))

pub returns : goal.returns
unfolding next_in answer_in
returns c bytes parse_is room =
    let r = c.args.self.now in
    let s = c.in_ok-next.next in
    let site = c.args.e.site in
    let nine : length r.forces ≡ 9 = search length-shown in
    rw c.index-s.ensures (turned_at r _ bytes (Ok (record { records = 0; forces = 0; sends = s.sends })) _ parse_is site.number (omega (arith, nine, site.in_range)) refl
    _ _ (ap (set r.forces site.number) (rw c.index-s.ensures at c.add_held.ensures)) refl
    (restart-stored r (search length-shown) (search length-shown) site.number site.in_range _ _ c.restart.result _ _ (rw c.index-s.ensures at c.restart.ensures) _ s c.in_ok-next.was ∙ parsed_seen (run_in r) bytes _ parse_is))
