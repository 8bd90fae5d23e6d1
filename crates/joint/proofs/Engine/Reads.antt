-- A run's arrays read and stored, in what the run stands for.
use Prim.Native.Nat.{ℕ, zero, suc, ◌≤◌, ◌<◌}
use mathlib.Core.Path.{◌≡◌, refl, ap, ap₂, fun_ext}
use mathlib.Core.Bool.{Bool, true, false, cond}
use mathlib.Core.List.{List, [], ◌∷◌}
use lib.ListN.{length, get_or, set}
use lib.Seq.{get_or-set_same, get_or-set_other}
use lib.Dec.{eqb}
use borrow.Author.Tests.{eqb-true, eqb-false}
use native.Mathlib.Omega.{arith}
use Rattle.joint.specs.State as plain
use Rattle.joint.specs.State.{update}
use Rattle.joint.specs.Answers.{site_from, no_site, no_records, transaction_in, transactions_in, no_transaction, run_in}
use Rattle.joint.specs.declared.sites.Site.{Site}
use Rattle.joint.specs.declared.records.Records.{Records}
use Rattle.joint.specs.declared.transactions.Transaction.{Transaction}
use Rattle.joint.specs.declared.run.Run.{Run}
use Rattle.joint.proofs.Engine.Arrays.{stored}

-- within an array the default does not matter
pub get_or-within {ℓ} : {A : Type ℓ} (l : List A) (i : ℕ) (d e : A) → i < length l → get_or l i d ≡ get_or l i e
get_or-within [] i d e h = absurd (omega (arith, h))
get_or-within (x ∷ l) zero d e h = refl
get_or-within (x ∷ l) (suc i) d e h = get_or-within l i d e (omega (arith, h))

-- a site's counts and its records, from the two arrays
abbrev pub site_at : List Site → List Records → ℕ → plain.Site
site_at l k s = site_from (get_or l s no_site) (get_or k s no_records).of

module _ (r : Run) where
  -- ---- reads

  pub site_read : (i : ℕ) (d : Site) (e : Records) → length r.sites ≡ 9 → length r.records ≡ 9 → i ≤ 8
      → site_from (get_or r.sites i d) (get_or r.records i e).of ≡ (run_in r).site i
  unfolding run_in
  site_read i d e n m h =
      ap₂ (λ (x : Site) (y : Records). site_from x y.of) (get_or-within r.sites i d no_site (omega (arith, n, h))) (get_or-within r.records i e no_records (omega (arith, m, h)))

  pub transaction_read : (i : ℕ) (d : Transaction) → length r.transactions ≡ 8 → i ≤ 7 → transaction_in (get_or r.transactions i d) ≡ (run_in r).transaction i
  unfolding run_in
  transaction_read i d e h = ap transaction_in (get_or-within r.transactions i d no_transaction (omega (arith, e, h)))

-- ---- stores

pub transactions-stored : (l : List Transaction) (t : ℕ) (x : Transaction) → length l ≡ 8 → t ≤ 7 → transactions_in (set l t x) ≡ update t (λ _. transaction_in x) (transactions_in l)
transactions-stored l t x e h = stored transaction_in (λ _. transaction_in x) l t x no_transaction (omega (arith, e, h)) refl

module _ (l : List Site) (k : List Records) (s : ℕ) (x : Site) (nine : length l ≡ 9) (h : s ≤ 8) where
  -- the counts of one site
  pub counts_stored : site_at (set l s x) k ≡ update s (λ _. site_from x (get_or k s no_records).of) (site_at l k)
  unfolding update
  counts_stored = fun_ext (λ j. go j (eqb j s) refl)
    where
      go : (j : ℕ) (b : Bool) → eqb j s ≡ b → site_at (set l s x) k j ≡ cond b (site_from x (get_or k s no_records).of) (site_at l k j)
      go j true q = rw (eqb-true j s q, get_or-set_same l s x no_site (omega (arith, nine, h))) refl
      go j false q = ap (λ (y : Site). site_from y (get_or k j no_records).of) (get_or-set_other l s j x no_site (eqb-false j s q))

  -- its records too
  pub site-stored : (y : Records) → length k ≡ 9 → site_at (set l s x) (set k s y) ≡ update s (λ _. site_from x y.of) (site_at l k)
  unfolding update
  site-stored y m = fun_ext (λ j. go j (eqb j s) refl)
    where
      go : (j : ℕ) (b : Bool) → eqb j s ≡ b → site_at (set l s x) (set k s y) j ≡ cond b (site_from x y.of) (site_at l k j)
      go j true q = rw (eqb-true j s q, get_or-set_same l s x no_site (omega (arith, nine, h)), get_or-set_same k s y no_records (omega (arith, m, h))) refl
      go j false q =
          ap₂ (λ (a : Site) (b : Records). site_from a b.of) (get_or-set_other l s j x no_site (eqb-false j s q)) (get_or-set_other k s j y no_records (eqb-false j s q))
