-- The tests on an image before its records, in their order. Assumes nothing.
use mathlib.Core.Path.{◌≡◌, refl}
use mathlib.Core.Bool.{true, false, not, ◌||◌, not-not}
use mathlib.Core.List.{List, [], ◌∷◌}
use Rattle.std.proofs.lemmas.Bool.Decides.{nat_tests}
use Rattle.std.specs.Cmp.Lexicographic.{pointwise}
use Prim.Native.Nat.{ℕ, zero, suc, ◌<◌, ◌≤◌}
use native.Mathlib.Omega.{arith}
use borrow.Author.Tests.{lt-ltb, le-ltb, ltb-false, not-true, not-false}
use lib.Dec.{eqb, ltb}
use lib.ListN.{length, take}
use Rattle.codec.specs.Laws.Tests.{or_none}
use Rattle.codec.specs.Lists.{first, same}
use Rattle.codec.specs.Image.{magic, site_in, count_in, most, over_limit, table_exact, head_refusals, refused, read_records, read_unless, read_image}

-- ---- the opening, as the library compares it

compared : (m n : ℕ) → eqb n m ≡ eqb m n
compared m n = grind (arith, nat_tests)

pub opening_same : (l m : List ℕ) → pointwise eqb m l ≡ same l m
unfolding same
opening_same [] [] = refl
opening_same [] (n ∷ ns) = refl
opening_same (m ∷ ms) [] = refl
opening_same (m ∷ ms) (n ∷ ns) = rw (compared m n, opening_same ms ns)

-- ---- before the records

-- no image holds more than 24 records
pub few-records : (s n : ℕ) → over_limit s n ≡ false → n ≤ 24
unfolding over_limit most
few-records s n e = by s (ltb-false (most s) n (or_none (ltb 8 s) (ltb (most s) n) e).1)
  where
    by : (s : ℕ) → n ≤ most s → n ≤ 24
    by zero h = h
    by (suc s) h = omega arith

module _ (bytes : List ℕ) where
  pub too_short : length bytes < 6 → not (ltb (length bytes) 6 || not (same (take 4 bytes) magic)) ≡ false
  too_short h = rw (lt-ltb (length bytes) 6 h)

  pub opens_by : 6 ≤ length bytes → not (ltb (length bytes) 6 || not (same (take 4 bytes) magic)) ≡ same (take 4 bytes) magic
  opens_by h = rw (le-ltb (length bytes) 6 h) (not-not (same (take 4 bytes) magic))

  -- an image that opens has its six bytes
  pub opens_long : not (ltb (length bytes) 6 || not (same (take 4 bytes) magic)) ≡ true → 6 ≤ length bytes
  opens_long e = ltb-false (length bytes) 6 (or_none (ltb (length bytes) 6) (not (same (take 4 bytes) magic)) (not-true _ e)).0

  pub not_opened : not (ltb (length bytes) 6 || not (same (take 4 bytes) magic)) ≡ false → read_image bytes ≡ refused 20 0
  unfolding read_image head_refusals first read_unless
  not_opened e = rw (not-false (ltb (length bytes) 6 || not (same (take 4 bytes) magic)) e)

  module _ (opened : not (ltb (length bytes) 6 || not (same (take 4 bytes) magic)) ≡ true) where
    opening : (ltb (length bytes) 6 || not (same (take 4 bytes) magic)) ≡ false
    opening = not-true (ltb (length bytes) 6 || not (same (take 4 bytes) magic)) opened

    pub over : over_limit (site_in bytes) (count_in bytes) ≡ true → read_image bytes ≡ refused 21 0
    unfolding read_image head_refusals first read_unless
    over e = rw (opening, e)

    module _ (within : over_limit (site_in bytes) (count_in bytes) ≡ false) where
      pub not-exact : table_exact bytes ≡ false → read_image bytes ≡ refused 22 0
      unfolding read_image head_refusals first read_unless
      not-exact e = rw (opening, within, e)

      pub by_records : table_exact bytes ≡ true → read_image bytes ≡ read_records bytes
      unfolding read_image head_refusals first read_unless
      by_records e = rw (opening, within, e)
