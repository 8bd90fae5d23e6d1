use Prim.Native.Nat.{ℕ, ◌≤◌, ◌-◌}
use mathlib.Core.Path.{◌≡◌, ap, ◌∙◌}
use mathlib.Core.List.{List, map, append-nil}
use native.Mathlib.Omega.{arith}
use lib.ListN.{length, take}
use Rattle.codec.specs.Records.{LogRecord}
use Rattle.codec.specs.Image.{write_image}
use Rattle.codec.specs.Answers.{record_in, log_in}
use Rattle.codec.specs.declared.record.Record.{Record}
use Rattle.joint.proofs.Engine.Arrays.{length-shown}
use Rattle.joint.proofs.Engine.Sites.{stable-taken}
use Rattle.joint.proofs.records.Records.write_log.Goals as goal

held : (rs : List Record) (s n : ℕ) → n ≤ 24 → log_in (record { site = s; count = n; records = rs }) ≡ take n (map record_in rs)
unfolding log_in
held rs s n h =
    let none : n - 24 ≡ 0 = omega arith in
    rw none (append-nil _)

pub returns : goal.returns
returns c =
    let s = c.args in
    let n = c.stable_count in
    let all : length s.self.now.of ≡ 24 = search length-shown in
    c.write_image.ensures
    ∙ ap (λ (l : List LogRecord). write_image s.number l s.at s.buffer.now)
    (held s.self.now.of s.number n.result (omega (arith, n.ensures)) ∙ rw n.ensures (stable-taken s.site s.self.now.of all))
