-- The ranges of an event's bytes: at a code that is known, they come to a few tests.
use Prim.Native.Nat.{ℕ, zero, suc, ◌≤◌}
use mathlib.Core.Path.{◌≡◌, refl, sym, ap, ◌∙◌}
use mathlib.Core.Logic.{◌≢◌}
use mathlib.Core.Bool.{Bool, true, false, not, ◌&&◌, ◌||◌, and_assoc, and-true, or-false, or-true, and-eq-true_iff}
use mathlib.Core.List.{List, [], ◌∷◌}
use mathlib.Core.Option.{none, some}
use native.Mathlib.Omega.{arith}
use lib.ListN.{length, get_or}
use lib.Dec
use lib.Dec.{eqb, leb, leb-suc-zero, eqb-suc-zero}
use mir.Syntax.{w8}
use mir.Val.{Fits}
use borrow.Author.Tests.{leb-true, le-leb, eq-eqb, not-false}
use Rattle.codec.specs.Lists.{any, every, only_if}
use Rattle.codec.specs.Laws.Tests.{true_of, every_at, below_at}
use Rattle.joint.specs.Event.{Parsed, event_length, event_of, ranges, bytes_in_range, cut_in_range, cut_at, cut_of, parse}

pub byte : {n : ℕ} → Fits w8 n → leb n 255 ≡ true
byte {n} h = le-leb n 255 (omega (arith, h.fits))

pub leb-zero : (n : ℕ) → leb n 0 ≡ eqb n 0
leb-zero zero = refl
leb-zero (suc n) = leb-suc-zero n ∙ sym (eqb-suc-zero n)

pub and_or_not : (a b : Bool) → (a && (b || not a)) ≡ (a && b)
and_or_not true b = or-false b
and_or_not false b = refl

-- they make of `bytes_in_range` and `cut_in_range`, at one code, the program's tests
pub ruleset tests = (and_assoc, and-true, or-false, or-true, Dec.leb-zero, leb-zero, and_or_not)

module _ (bytes : List ℕ) where
  abbrev at : ℕ → ℕ
  at i = get_or bytes i 0

  abbrev pub in_range : Bool
  in_range = bytes_in_range (at 0) (at 1) (at 2) (at 3) && cut_in_range (at 0) (at 4) (at 5)

  abbrev pub parsed : ℕ → Parsed
  parsed code = record { event = event_of code (at 1) (at 2) (at 3); cut = cut_of code (at 4) (at 5) }

  pub parse_by : parse bytes ≡ only_if (eqb (length bytes) 6 && in_range) (parsed (at 0))
  unfolding parse every event_length
  parse_by = rw (and-true (cut_in_range (at 0) (at 4) (at 5))) refl

  -- an event that is not refused by 1, with its code. Where power cannot cut an event it is whole
  pub record Accepted (code : ℕ) : Type 0 where
    pub is : parse bytes ≡ some (parsed code)
    pub known : code ≤ 8
    pub last_x : at 1 ≤ get_or (get_or ranges code []) 0 0
    pub first_y : get_or (get_or ranges code []) 1 0 ≤ at 2
    pub last_y : at 2 ≤ get_or (get_or ranges code []) 2 0
    pub last_z : at 3 ≤ get_or (get_or ranges code []) 3 0
    pub uncut : any (eqb code) (1 ∷ 2 ∷ 3 ∷ 7 ∷ []) ≡ false → eqb code 6 ≡ false → cut_of code (at 4) (at 5) ≡ none

  pub accepted : {code : ℕ} {r : Bool} → length bytes ≡ 6 → r ≡ in_range → not r ≡ false → at 0 ≡ code → Accepted code
  unfolding bytes_in_range cut_in_range cut_of cut_at only_if
  accepted {code} {r} six held left e =
      let h = sym held ∙ not-false r left in
      let both = (and-eq-true_iff (bytes_in_range code (at 1) (at 2) (at 3)) (cut_in_range code (at 4) (at 5))).0 (rw e at h) in
      record {
        is = parse_by ∙ rw (eq-eqb (length bytes) 6 six, h, e) refl;
        known = leb-true _ _ (every_at _ both.0 0);
        last_x = leb-true _ _ (every_at _ both.0 1);
        first_y = leb-true _ _ (every_at _ both.0 2);
        last_y = leb-true _ _ (every_at _ both.0 3);
        last_z = leb-true _ _ (every_at _ both.0 4);
        uncut = λ a n. rw (n, whole (eqb (at 4) 255) _ (every_at _ both.1 2) a) refl;
      }
    where
      whole : (a b : Bool) → (a || b) ≡ true → b ≡ false → a ≡ true
      whole true b p q = refl
      whole false b p q = sym q ∙ p

  -- x is a transaction's number
  pub transaction_number : {r : Bool} → length bytes ≡ 6 → r ≡ in_range → r ≡ true → at 1 ≤ 7
  unfolding ranges
  transaction_number {r} six held is =
      let a = accepted {code = at 0} {r = r} six held (ap not is) refl in
      let last = true_of _ (below_at 9 (λ k. leb (get_or (get_or ranges k []) 0 0) 7) tt (at 0) (omega (arith, a.known))) in
      omega (arith, a.last_x, leb-true _ 7 last)

  -- y is a site's number, but at an open
  pub site_number : {r : Bool} → length bytes ≡ 6 → r ≡ in_range → r ≡ true → at 0 ≢ 0 → at 2 ≤ 8
  unfolding ranges
  site_number {r} six held is other = by (at 0) refl
    where
      by : (n : ℕ) → at 0 ≡ n → at 2 ≤ 8
      by zero e = absurd (other e)
      by (suc n) e =
          let a = accepted {code = suc n} {r = r} six held (ap not is) e in
          let last = true_of _ (below_at 8 (λ k. leb (get_or (get_or ranges (suc k) []) 2 0) 8) tt n (omega (arith, a.known))) in
          omega (arith, a.last_y, leb-true _ 8 last)
