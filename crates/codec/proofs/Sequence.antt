-- The sequence of a transaction's records is kept by looking at its newest record alone. Assumes nothing.
use mathlib.Core.Path.{◌≡◌, refl, sym, subst}
use mathlib.Core.Bool.{Bool, true, false, not, ◌&&◌, ◌||◌, and-true}
use mathlib.Core.List.{List, [], ◌∷◌, ◌++◌, map}
use Prim.Native.Nat.{ℕ, zero, suc, ◌/◌, ◌%◌, ◌^◌, ◌≤◌}
use native.Mathlib.Omega.{arith}
use borrow.Author.Tests.{le-leb}
use lib.Dec.{T, eqb, leb, leb→le}
use lib.ListN.{get_or}
use Rattle.codec.specs.Lists.{any, all, every, same}
use Rattle.codec.specs.Records.{LogRecord, record_kind_at, sequences, agrees}
use Rattle.codec.specs.Answers.{record_in, no_record}
use Rattle.codec.specs.Inside.{next_kinds, may_follow}
use Rattle.codec.specs.Laws.Fields.{kind_low}
use Rattle.codec.specs.Laws.Tests.{alike, alike_eq, below, below_at, and_left, and_right, of_true, same_list}

-- ---- kinds

abbrev pub kinds : List LogRecord → List ℕ
kinds = map (λ x. x.kind)

abbrev pub legal : ℕ → List ℕ → Bool
legal s ks = any (same ks) ([] ∷ sequences s)

-- what holds of each of some lists holds of one that is among them
among : (f : List ℕ → Bool) (qs : List (List ℕ)) (ks : List ℕ) → T (all f qs) → any (same ks) qs ≡ true → T (f ks)
unfolding any all
among f [] ks t e = absurd (of_true e)
among f (q ∷ qs) ks t e = by (same ks q) refl (λ h. among f qs ks (and_right (f q) (all f qs) t) (rw h at e))
  where
    by : (b : Bool) → same ks q ≡ b → (same ks q ≡ false → T (f ks)) → T (f ks)
    by true h rest = subst (λ (l : List ℕ). T (f l)) (sym (same_list ks q h)) (and_left (f q) (all f qs) t)
    by false h rest = rest h

-- the last of some elements, or z
abbrev pub last_or {ℓ} : {A : Type ℓ} → A → List A → A
last_or z [] = z
last_or z (x ∷ xs) = last_or x xs

-- all but the last
abbrev front : List ℕ → List ℕ
front [] = []
front (x ∷ []) = []
front (x ∷ y ∷ xs) = x ∷ front (y ∷ xs)

-- the program's table
abbrev next : ℕ → ℕ → Bool
next j k = eqb (get_or next_kinds j 0 / 2 ^ k % 2) 1

-- a record of kind j asks nothing of one of kind k behind it
abbrev unbound : ℕ → ℕ → Bool
unbound j k = not (eqb j 1 && eqb k 2) && not (eqb j 2 && eqb k 3)

-- a site's kind k behind some kinds: it makes a sequence just if the table has it behind the last of them, and then only that one asks
abbrev by_last : ℕ → List ℕ → ℕ → Bool
by_last s ks k =
    alike (any (same (ks ++ (k ∷ []))) (sequences s)) (next (last_or 0 ks) k)
    && (not (next (last_or 0 ks) k) || all (λ j. unbound j k) (front (0 ∷ ks)))

abbrev known : ℕ → List ℕ → Bool
known s ks = leb (last_or 0 ks) 7 && below 8 (λ k. not (record_kind_at s k) || by_last s ks k)

sequences_known : (s : ℕ) (ks : List ℕ) → legal s ks ≡ true → T (known s ks)
unfolding any all same record_kind_at sequences next_kinds
sequences_known zero ks e = among (known 0) ([] ∷ sequences 0) ks tt e
sequences_known (suc n) ks e = among (known (suc n)) ([] ∷ sequences (suc n)) ks tt e

-- ---- records

abbrev pub none : LogRecord
none = record_in no_record

agrees_unbound : (y x : LogRecord) → T (unbound y.kind x.kind) → agrees y x ≡ true
unfolding agrees
agrees_unbound y x t = by (eqb y.kind 1 && eqb x.kind 2) (eqb y.kind 2 && eqb x.kind 3) _ _ t
  where
    by : (a b c d : Bool) → T (not a && not b) → ((not a || c) && (not b || d)) ≡ true
    by true b c d t = absurd t
    by false true c d t = absurd t
    by false false c d t = refl

-- of z and the records behind it only the last asks
only-last : (x z : LogRecord) (own : List LogRecord) → T (all (λ j. unbound j x.kind) (front (z.kind ∷ kinds own)))
    → (agrees z x && all (λ y. agrees y x) own) ≡ agrees (last_or z own) x
unfolding all
only-last x z [] t = and-true (agrees z x)
only-last x z (y ∷ own) t =
    rw (agrees_unbound z x (and_left (unbound z.kind x.kind) _ t))
    (only-last x y own (and_right (unbound z.kind x.kind) _ t))

last-kind : (z : LogRecord) (own : List LogRecord) → (last_or z own).kind ≡ last_or z.kind (kinds own)
last-kind z [] = refl
last-kind z (y ∷ own) = last-kind y own

pub may_next : (y x : LogRecord) → y.kind ≤ 7 → x.kind ≤ 7 → may_follow y x ≡ (next y.kind x.kind && agrees y x)
unfolding may_follow every
may_next y x h g = rw (le-leb y.kind 7 h, le-leb x.kind 7 g, and-true (agrees y x))

module _ (s : ℕ) (x : LogRecord) (kind : record_kind_at s x.kind ≡ true) (own : List LogRecord) (ok : legal s (kinds own) ≡ true) where
  abbrev made : Bool
  made = any (same (kinds own ++ (x.kind ∷ []))) (sequences s)

  abbrev tabled : Bool
  tabled = next (last_or 0 (kinds own)) x.kind

  last_low : (last_or none own).kind ≤ 7
  unfolding record_in
  last_low = rw last-kind (leb→le _ _ (and_left (leb (last_or 0 (kinds own)) 7) _ (sequences_known s (kinds own) ok)))

  low : x.kind ≤ 7
  low = kind_low s x.kind kind

  by_last_lem : T (by_last s (kinds own) x.kind)
  by_last_lem =
      rw kind
      at (below_at 8 (λ k. not (record_kind_at s k) || by_last s (kinds own) k) (and_right (leb (last_or 0 (kinds own)) 7) _ (sequences_known s (kinds own) ok)) x.kind (omega (arith, low)))

  table : made ≡ tabled
  table = alike_eq made tabled (and_left (alike made tabled) _ by_last_lem)

  agreed : tabled ≡ true → all (λ y. agrees y x) own ≡ agrees (last_or none own) x
  unfolding record_in agrees
  agreed e = only-last x none own (rw e at (and_right (alike made tabled) (not tabled || all (λ j. unbound j x.kind) (front (0 ∷ kinds own))) by_last_lem))

  -- the sequence rule asks the newest record alone
  pub by_newest : (made && all (λ y. agrees y x) own) ≡ may_follow (last_or none own) x
  unfolding record_in
  by_newest = rw (may_next (last_or none own) x last_low low, last-kind, table) (by tabled refl)
    where
      by : (b : Bool) → tabled ≡ b → (b && all (λ y. agrees y x) own) ≡ (b && agrees (last_or none own) x)
      by false e = refl
      by true e = agreed e
