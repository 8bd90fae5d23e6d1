use mathlib.Core.Path.{◌≡◌, refl, sym}
use borrow.Author.Tests.{eq-eqb, ne_eqb, le-leb}
use lib.ListN.{length}
use Rattle.joint.proofs.Engine.Arrays.{length-shown}
use Rattle.joint.proofs.Engine.Sites.{put_kept, put_some}
use Rattle.joint.proofs.records.Records.put.Goals as goal
use Rattle.joint.proofs.records.Records.put.Goals.{else-x-ne0-via-then-x-ne0+else-at-lt-COORDINATOR_MOST, else-x-ne0-via-else-x-ne0}

pub returns-then-at-lt-COORDINATOR_MOST : goal.returns-then-at-lt-COORDINATOR_MOST
returns-then-at-lt-COORDINATOR_MOST c = let s = c.args in sym (put_some s.at s.x s.self.of c.if-x-ne0.true)

-- none, or no place for it
pub returns-else-x-ne0 : goal.returns-else-x-ne0
returns-else-x-ne0 c =
    let s = c.args in
    let all : length s.self.of ≡ 24 = search length-shown in
    elim c.else-x-ne0.branch [
      | else-x-ne0-via-then-x-ne0+else-at-lt-COORDINATOR_MOST w ↦ put_kept s.at s.x s.self.of all (rw (ne_eqb s.x.kind 0 w.if-x-ne0.true, le-leb 24 s.at w.if-at-lt-COORDINATOR_MOST.false) refl)
      | else-x-ne0-via-else-x-ne0 w ↦ put_kept s.at s.x s.self.of all (rw (eq-eqb s.x.kind 0 w.if-x-ne0.false) refl)
    ]
