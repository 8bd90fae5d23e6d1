-- A list without the element at k; and the move of those behind it in an array, by one place.
use Prim.Native.Nat.{ℕ, suc, ◌+◌, ◌-◌, ◌≤◌, ◌<◌}
use mathlib.Core.Path.{◌≡◌, refl, sym, ap, ◌∙◌}
use mathlib.Core.Bool.{Bool, true, false, cond, not}
use mathlib.Core.List.{List, [], ◌∷◌, ◌++◌, map, map-append, append_assoc, append-nil}
use native.Mathlib.Numerals.{add-one, one-add}
use native.Mathlib.Omega.{arith}
use lib.ListN.{length, take, drop, length-append, length-take, length-drop, length-map, drop_of_length-le}
use lib.Seq.{take-take, take_all, take-add, take_at, drop_at, take-append-le, drop-append-le, length-take-le}
use Rattle.std.specs.List.{copy_within, position_or_len}
use Rattle.std.proofs.lemmas.List.{take-map, drop-map, drop-take}
use Rattle.std.proofs.lemmas.List.Edits.{take-paste}
use Rattle.codec.specs.Records.{LogRecord, of_transaction}
use Rattle.codec.specs.Answers.{record_in}
use Rattle.codec.specs.declared.record.Record.{Record}
use Rattle.joint.specs.Plan.{drop_oldest, trimmed}
use Rattle.joint.specs.Answers.{site_from}
use Rattle.joint.specs.Inside.{stable_of, count_of}
use Rattle.joint.specs.declared.sites.Site.{Site}
use Rattle.joint.proofs.Engine.Sites.{site_path, stable-counted, log-taken}

-- a list without its element k
abbrev pub without {ℓ} : {A : Type ℓ} → ℕ → List A → List A
without k xs = take k xs ++ drop (suc k) xs

dropped : (f : LogRecord → Bool) (xs : List LogRecord) → drop_oldest f xs ≡ without (position_or_len f xs) xs
unfolding drop_oldest
dropped f [] = refl
dropped f (x ∷ xs) = go (f x) (dropped f xs)
  where
    go : (b : Bool) → drop_oldest f xs ≡ without (position_or_len f xs) xs
        → cond b xs (x ∷ drop_oldest f xs) ≡ without (cond (not b) (1 + position_or_len f xs) 0) (x ∷ xs)
    go true e = refl
    go false e = rw one-add (ap (λ (r : List LogRecord). x ∷ r) e)

module _ {ℓ} {A : Type ℓ} where
  without-none : (k : ℕ) (xs : List A) → length xs ≤ k → without k xs ≡ xs
  without-none k xs h = rw (take_all k xs h, drop_of_length-le xs {i = suc k} (omega arith)) (append-nil xs)

  without-append : (k : ℕ) (xs ys : List A) → k < length xs → without k (xs ++ ys) ≡ without k xs ++ ys
  without-append k xs ys h = rw (take-append-le k xs ys (omega arith), drop-append-le (suc k) xs ys h, append_assoc)

  without-length : (k : ℕ) (xs : List A) → k < length xs → length (without k xs) ≡ length xs - 1
  without-length k xs h = simp (length-append, length-take, length-drop) (omega arith)

  -- two lists are split at m
  pub split_same : {a b c d : List A} (m : ℕ) → a ++ b ≡ c ++ d → length a ≡ m → length c ≡ m → (a ≡ c) × (b ≡ d)
  split_same {a} {b} {c} {d} m e p q =
      (sym (take_at a b m p) ∙ ap (take m) e ∙ take_at c d m q, sym (drop_at a b m p) ∙ ap (drop m) e ∙ drop_at c d m q)

-- the elements behind k are moved down by one place, up to the first n: those are n - 1 then
shifted : {A : Type 0} (k n m : ℕ) (xs : List A) → n ≡ suc k + m → take k xs ++ take m (drop (k + 1) xs) ≡ without k (take n xs)
shifted k n m xs e = rw (add-one, e, take-take k (suc k + m) xs (omega arith), drop-take (suc k) m xs) refl

pub moved : (k n : ℕ) (rs : List Record) → k < n → n ≤ length rs
    → take (n - 1) (map record_in (copy_within rs (k + 1) n k)) ≡ without k (take n (map record_in rs))
moved k n rs lt few =
    let m = n - (k + 1) in
    let e : n - 1 ≡ k + m = omega arith in
    let split : n ≡ suc k + m = omega arith in
    let whole : take (k + m) (copy_within rs (k + 1) n k) ≡ take k rs ++ take m (drop (k + 1) rs) =
    take-paste rs k (drop (k + 1) rs) m (omega arith) (simp length-drop (omega arith)) in
    rw (e, take-map record_in (k + m) (copy_within rs (k + 1) n k)) (ap (map record_in) whole ∙ map-append record_in (take k rs) (take m (drop (k + 1) rs))
    ∙ rw (← take-map record_in k rs, ← take-map record_in m (drop (k + 1) rs), ← drop-map record_in (k + 1) rs) (shifted k n m (map record_in rs) split))

-- ---- the site

-- where the first of t stands among records
pub place_in : (f : LogRecord → Bool) (rs : List Record) → position_or_len (λ x. f (record_in x)) rs ≡ position_or_len f (map record_in rs)
place_in f [] = refl
place_in f (x ∷ rs) = ap (λ (n : ℕ). cond (not (f (record_in x))) (1 + n) 0) (place_in f rs)

module _ (x : Site) (rs : List Record) (t : ℕ) where
  -- there is none to drop
  pub trim_nothing : length (site_from x rs).stable ≤ position_or_len (of_transaction t) (site_from x rs).stable → site_from x rs ≡ trimmed t (site_from x rs)
  unfolding trimmed
  trim_nothing h =
      site_path
      (sym (dropped (of_transaction t) (site_from x rs).stable ∙ without-none (position_or_len (of_transaction t) (site_from x rs).stable) (site_from x rs).stable h))
      refl

  -- the oldest of t is k, and the shift from k has come to the last
  module _ (k : ℕ) (now : List Record) (ek : k ≡ position_or_len (of_transaction t) (site_from x rs).stable) (lt : k < stable_of x) (all : length rs ≡ 24)
      (w : take (count_of x - 1) (map record_in now) ≡ without k (take (count_of x) (map record_in rs))) (kept : length now ≡ 24) where
    whole : take (stable_of x - 1) (map record_in now) ++ take (count_of x - stable_of x) (drop (stable_of x - 1) (map record_in now))
        ≡ without k (site_from x rs).stable ++ (site_from x rs).unforced
    whole =
        let e : stable_of x - 1 + (count_of x - stable_of x) ≡ count_of x - 1 = omega arith in
        rw (← take-add (stable_of x - 1) (count_of x - stable_of x) (map record_in now), e)
        (w ∙ ap (without k) (log-taken x rs all)
        ∙ without-append k (site_from x rs).stable (site_from x rs).unforced (omega (arith, stable-counted x rs all)))

    pub trim_stands : site_from (record { up = x.up; stable = stable_of x - 1; unforced = count_of x - stable_of x }) now ≡ trimmed t (site_from x rs)
    unfolding site_from trimmed
    trim_stands =
        let p : length (take (stable_of x - 1) (map record_in now)) ≡ stable_of x - 1 =
        length-take-le (stable_of x - 1) (map record_in now) (omega (arith, kept, length-map now record_in)) in
        let q : length (without k (site_from x rs).stable) ≡ stable_of x - 1 =
        rw (← stable-counted x rs all) (without-length k (site_from x rs).stable (omega (arith, stable-counted x rs all))) in
        let d : drop_oldest (of_transaction t) (site_from x rs).stable ≡ without k (site_from x rs).stable = rw ek (dropped (of_transaction t) (site_from x rs).stable) in
        let parts = split_same (stable_of x - 1) whole p q in
        site_path (parts.0 ∙ sym d) parts.1
