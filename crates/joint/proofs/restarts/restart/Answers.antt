use mathlib.Core.Path.{◌≡◌, ap, ◌∙◌}
use lib.ListN.{length}
use Rattle.joint.specs.State as plain
use Rattle.joint.specs.State.{holds}
use Rattle.joint.specs.Answers.{site_from, transactions_in, number_of}
use Rattle.joint.specs.Inside.{resumed_in, resumed, restarted_in, cut_in}
use Rattle.joint.proofs.Engine.Arrays.{length-shown}
use Rattle.joint.proofs.Engine.Restarted.{restart-up, restart-whole, restart_too_far, restart-cut}
use Rattle.joint.proofs.restarts.restart.Goals as goal
use Rattle.joint.proofs.restarts.restart.Goals.{After-resume_all-resumed, in-Some, in-None}

pub returns-then-site : goal.returns-then-site
unfolding restarted_in number_of site_from
returns-then-site c x e f = let a = c.args in restart-up x a.e.site.number 0 _ e c.if-site.true (cut_in a.e.cut)

-- the resumption, up to the cut
resumption : (c : After-resume_all-resumed) (x : plain.Run) → site_from c.args.site c.args.records.of ≡ x.site c.args.e.site.number → transactions_in c.args.transactions ≡ x.transaction
    → resumed_in c.resume_all-resumed.result ≡ resumed x c.args.e.site.number c.match-e.most
resumption c x e f =
    let a = c.args in
    let records = a.records.of in
    let size : length records ≡ 24 = search length-shown in
    let stable = c.stable-stable.ensures ∙ ap (λ (a : plain.Site). a.stable) e in
    c.resume_all-resumed.ensures x f (λ t k ht hk. c.kinds.ensures t k ht hk ∙ ap (holds t k) stable) stable

pub returns-in_default : goal.returns-in_default
unfolding restarted_in resumed_in site_from
returns-in_default c x e f =
    let a = c.args in
    let uncut : c.match-e.most ≡ 255 = elim c.match-e.branch [ in-Some w ↦ cc | in-None w ↦ w.most-is ] in
    rw c.in_default.is (restart-whole x a.e.site.number c.match-e.most _ e c.if-site.false _ (resumption (goal.at.returns-in_default c).After-resume_all-resumed x e f) uncut _ (c.start.ensures a.records.of))

pub returns-then-resumed-may_keep : goal.returns-then-resumed-may_keep
unfolding restarted_in number_of resumed_in site_from
returns-then-resumed-may_keep c x e f =
    let a = c.args in
    let cut = c.in-Some-cut.cut in
    let most : c.match-e.most ≡ cut.after = elim c.match-e.branch [ in-Some w ↦ cc | in-None w ↦ cc ] in
    let size : length a.records.of ≡ 24 = search length-shown in
    rw (c.in-Some-cut.is, ← most)
    (restart_too_far x a.e.site.number c.match-e.most _ e c.if-site.false _ (resumption (goal.at.returns-then-resumed-may_keep c).After-resume_all-resumed x e f) cut.keep
    c.may_keep.result (c.may_keep.ensures a.records.of size) c.if-resumed-may_keep.true)

pub returns : goal.returns
unfolding restarted_in resumed_in site_from
returns c x e f =
    let a = c.args in
    let cut = c.in-Some-cut.cut in
    let most : c.match-e.most ≡ cut.after = elim c.match-e.branch [ in-Some w ↦ cc | in-None w ↦ cc ] in
    let size : length a.records.of ≡ 24 = search length-shown in
    rw (c.in-Some-cut.is, ← most)
    (restart-cut x a.e.site.number c.match-e.most _ e c.if-site.false _ (resumption (goal.at.returns c).After-resume_all-resumed x e f) cut.keep
    c.may_keep.result (c.may_keep.ensures a.records.of size) c.if-resumed-may_keep.false _ c.stop.ensures _ c.forget_all.ensures)
