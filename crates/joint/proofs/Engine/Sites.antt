-- What a site's two counts and the records beside them stand for. No count is asked to be small: beyond the records there is nothing to take.
use Prim.Native.Nat.{ℕ, zero, suc, ◌+◌, ◌-◌, ◌/◌, ◌^◌, ◌<◌}
use mathlib.Core.Path.{◌≡◌, refl, sym, ap, ◌∙◌}
use mathlib.Core.Bool.{Bool, true, false, cond, ◌||◌}
use mathlib.Core.List.{List, [], ◌∷◌, ◌++◌, map, append-nil}
use native.Mathlib.Numerals.{add-one}
use native.Mathlib.Omega.{arith}
use borrow.Author.Tests.{ne_eqb, eqb-true, eqb-false, leb-true}
use lib.ListN.{length, take, drop, set, length-take, length-drop, length-map, length-set}
use lib.Dec.{eqb, leb}
use lib.Seq.{take-add, take-set-le, take-suc-set, drop-set-add, set_out}
use Rattle.codec.specs.Records.{LogRecord}
use Rattle.codec.specs.Answers.{record_in}
use Rattle.codec.specs.declared.record.Record.{Record}
use Rattle.site.specs.Step.{Effect}
use Rattle.site.specs.Numbers.{appending}
use Rattle.site.specs.declared.effects.Effects.{Effects}
use Rattle.joint.specs.State as plain
use Rattle.joint.specs.Answers.{site_from}
use Rattle.joint.specs.Inside.{size, stable_of, count_of, put_at, put_row, site_after, Fits}
use Rattle.joint.specs.declared.sites.Site.{Site}
use Rattle.joint.proofs.Base.Survivors.{survivors_lost}
use Rattle.joint.proofs.Engine.Effects.{kind-none, kind-some}

-- ---- lists

take_own : {A : Type 0} (n : ℕ) (l : List A) → take (length (take n l)) l ≡ take n l
take_own zero l = refl
take_own (suc n) [] = refl
take_own {A} (suc n) (x ∷ l) = ap (λ (r : List A). x ∷ r) (take_own n l)

pub map-set : {A B : Type 0} (f : A → B) (l : List A) (i : ℕ) (y : A) → map f (set l i y) ≡ set (map f l) i (f y)
map-set f [] i y = refl
map-set f (x ∷ l) zero y = refl
map-set {B} f (x ∷ l) (suc i) y = ap (λ (r : List B). f x ∷ r) (map-set f l i y)

-- ---- a record put among them

module _ (n : ℕ) (k : Record) (rs : List Record) where
  pub put_some : (k.kind ≡ 0 → ⊥) → put_at n k rs ≡ set rs n k
  unfolding put_at
  put_some e = rw (ne_eqb k.kind 0 e)

  -- none, or no place for it
  pub put_kept : length rs ≡ 24 → (eqb k.kind 0 || leb 24 n) ≡ true → rs ≡ put_at n k rs
  unfolding put_at
  put_kept all h = go (eqb k.kind 0) h
    where
      go : (b : Bool) → (b || leb 24 n) ≡ true → rs ≡ cond b rs (set rs n k)
      go true h = refl
      go false h = sym (set_out rs n k (omega (arith, leb-true 24 n h)))

  pub put_length : length (put_at n k rs) ≡ length rs
  unfolding put_at
  put_length = go (eqb k.kind 0)
    where
      go : (b : Bool) → length (cond b rs (set rs n k)) ≡ length rs
      go true = refl
      go false = length-set rs n k

pub row-length : (n t : ℕ) (e : Effects) (rs : List Record) → length (put_row n t e rs) ≡ length rs
unfolding put_row
row-length n t e rs = put_length _ _ _ ∙ put_length _ _ rs

pub site_path : {u : Bool} {a b c d : List LogRecord} → a ≡ b → c ≡ d
    → ◌≡◌ {A = plain.Site} (record { up = u; stable = a; unforced = c }) (record { up = u; stable = b; unforced = d })
site_path {u} p q = λ i. record { up = u; stable = p i; unforced = q i }

-- what appends a record
abbrev pub effect_of : Record → List Effect
effect_of k = appending k.kind (record_in k).fields

-- ---- the counts

module _ (x : Site) (rs : List Record) where
  joined : (site_from x rs).stable ++ (site_from x rs).unforced ≡ take (x.stable + x.unforced) (map record_in rs)
  unfolding site_from
  joined = sym (take-add x.stable x.unforced (map record_in rs))

  module _ (all : length rs ≡ 24) where
    pub stable-counted : length (site_from x rs).stable ≡ stable_of x
    unfolding site_from
    stable-counted = simp (length-take, length-map, all)

    pub log-counted : size (site_from x rs) ≡ count_of x
    unfolding size
    log-counted = ap length joined ∙ simp (length-take, length-map, all)

    pub unforced-counted : length (site_from x rs).unforced ≡ count_of x - stable_of x
    unfolding site_from
    unforced-counted = simp (length-take, length-drop, length-map) (omega (arith, all))

    -- whether each set bit stands for an unforced record
    pub may_keep_lem : (keep : ℕ) → eqb (keep / 2 ^ (count_of x - stable_of x)) 0 ≡ plain.may_keep keep (site_from x rs).unforced
    unfolding plain.may_keep
    may_keep_lem keep = rw unforced-counted refl

    pub stable-taken : take (stable_of x) (map record_in rs) ≡ (site_from x rs).stable
    unfolding site_from
    stable-taken = rw (← stable-counted) (take_own x.stable (map record_in rs))

    pub log-taken : take (count_of x) (map record_in rs) ≡ (site_from x rs).stable ++ (site_from x rs).unforced
    unfolding size
    log-taken = rw (← log-counted, joined) (take_own (x.stable + x.unforced) (map record_in rs))

  -- ---- the changes

  append_stands : (k : Record) → x.stable + x.unforced < length rs
      → site_from (record { up = x.up; stable = x.stable; unforced = x.unforced + 1 }) (set rs (x.stable + x.unforced) k)
      ≡ plain.appended (record_in k) (site_from x rs)
  unfolding site_from plain.appended
  append_stands k lt =
      rw (map-set, add-one)
      (site_path (take-set-le x.stable (map record_in rs) (x.stable + x.unforced) (record_in k) (omega arith))
      (rw drop-set-add (take-suc-set (drop x.stable (map record_in rs)) x.unforced (record_in k) (simp (length-drop, length-map) (omega arith)))))

  pub force_stands : length rs ≡ 24 → site_from (record { up = x.up; stable = count_of x; unforced = 0 }) rs ≡ plain.forced (site_from x rs)
  unfolding site_from plain.forced
  force_stands all = site_path (log-taken all) refl

  -- no unforced record survives
  pub stop_stands : site_from (record { up = false; stable = x.stable; unforced = 0 }) rs ≡ plain.stopped 0 (site_from x rs)
  unfolding site_from plain.stopped
  stop_stands = site_path (sym (rw survivors_lost (append-nil (take x.stable (map record_in rs))))) refl

  -- a record of kind 0 is none; any other is the last of the log, and there was room
  module _ (k : Record) (all : length rs ≡ 24) (fits : Fits (effect_of k) (site_from x rs)) where
    pub kept_stands : (eqb k.kind 0 || leb 24 (count_of x)) ≡ true
        → site_from x (put_at (count_of x) k rs) ≡ site_after k.transaction (effect_of k) (site_from x rs)
    kept_stands h = ap (site_from x) (sym (put_kept (count_of x) k rs all h)) ∙ go (eqb k.kind 0) refl h
      where
        go : (b : Bool) → eqb k.kind 0 ≡ b → (b || leb 24 (count_of x)) ≡ true → site_from x rs ≡ site_after k.transaction (effect_of k) (site_from x rs)
        go true q h = kind-none k.transaction k.kind (record_in k).fields (site_from x rs) (eqb-true k.kind 0 q)
        go false q h =
            absurd
            (omega (arith, leb-true 24 (count_of x) h, log-counted all, (kind-some k.transaction k.kind (record_in k).fields (site_from x rs) (eqb-false k.kind 0 q) fits).0))

    pub put_stands : (k.kind ≡ 0 → ⊥) → count_of x < 24
        → site_from (record { up = x.up; stable = x.stable; unforced = x.unforced + 1 }) (put_at (count_of x) k rs)
        ≡ site_after k.transaction (effect_of k) (site_from x rs)
    unfolding record_in
    put_stands some lt =
        let at : count_of x ≡ x.stable + x.unforced = omega arith in
        rw (put_some (count_of x) k rs some, at)
        (append_stands k (omega arith) ∙ (kind-some k.transaction k.kind (record_in k).fields (site_from x rs) some fits).1)
