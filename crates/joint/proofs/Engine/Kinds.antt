-- Sets of kinds, bit k for kind k: what the machine's `|` computes.
use Prim.Native.Nat.{ℕ, ◌*◌, ◌/◌, ◌%◌, ◌^◌, max, ◌<◌, ◌≤◌}
use mathlib.Core.Path.{◌≡◌, sym, ap, ◌∙◌}
use mathlib.Core.Bool.{Bool, ◌||◌}
use mathlib.Core.Logic.{⊎_elim}
use lib.Dec.{eqb}
use lib.Bits.{bit_or, or_step, or_shr}
use native.Mathlib.Nat.{max-le}
use native.Mathlib.Omega.{arith}
use borrow.Author.Tests.{ne_eqb}
use Rattle.codec.specs.Laws.Tests.{alike, alike_eq, below_at_2, lt_or_le}
use Rattle.codec.specs.Laws.Members.{high_bits}
use Rattle.site.specs.Answers.{has_kind}

last-either : (x y : ℕ) → x < 2 → y < 2 → eqb (max x y) 1 ≡ (eqb y 1 || eqb x 1)
last-either x y hx hy = alike_eq _ _ (below_at_2 2 2 (λ x y. alike (eqb (max x y) 1) (eqb y 1 || eqb x 1)) tt x y hx hy)

last_bit : (x y : ℕ) → bit_or x y % 2 ≡ max (x % 2) (y % 2)
last_bit x y =
    let small : max (x % 2) (y % 2) ≤ 1 = max-le (omega arith) (omega arith) in
    omega (arith, or_step x y, small)

either-kind : (a b k : ℕ) → has_kind (bit_or a b) k ≡ (has_kind b k || has_kind a k)
unfolding has_kind
either-kind a b k =
    ap (λ (n : ℕ). eqb (n % 2) 1) (or_shr a b k)
    ∙ ap (λ (n : ℕ). eqb n 1) (last_bit (a / 2 ^ k) (b / 2 ^ k))
    ∙ last-either (a / 2 ^ k % 2) (b / 2 ^ k % 2) (omega arith) (omega arith)

-- the set of one
one_bit : (at k : ℕ) → at ≤ 15 → has_kind (1 * 2 ^ at % 65536) k ≡ eqb k at
unfolding has_kind
one_bit at k h =
    ⊎_elim
    (λ l. alike_eq _ _ (below_at_2 16 16 (λ n k. alike (eqb (1 * 2 ^ n % 65536 / 2 ^ k % 2) 1) (eqb k n)) tt at k (omega arith) l))
    (λ l. rw (high_bits (1 * 2 ^ at % 65536) 16 k (omega arith) l) (sym (ne_eqb k at (omega arith))))
    (lt_or_le k 16)

pub one_more_bit : (set at k : ℕ) → at ≤ 15 → has_kind (bit_or set (1 * 2 ^ at % 65536)) k ≡ (eqb k at || has_kind set k)
one_more_bit set at k h =
    either-kind set (1 * 2 ^ at % 65536) k ∙ ap (λ (b : Bool). b || has_kind set k) (one_bit at k h)
