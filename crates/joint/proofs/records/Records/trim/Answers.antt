use Prim.Native.Nat.{ℕ, ◌≤◌, ◌<◌}
use mathlib.Core.Path.{◌≡◌, refl, sym, ap, ◌∙◌}
use mathlib.Core.Bool.{Bool, true, false, cond}
use mathlib.Core.List.{List, map}
use native.Mathlib.Omega.{arith}
use borrow.Author.Tests.{ltb-true, ltb-false}
use lib.ListN.{length, length-map}
use lib.Dec.{eqb, ltb}
use Rattle.std.proofs.Common.{rules, tests}
use Rattle.std.specs.Prelude.{Option, None, Some}
use Rattle.std.specs.List.{position_or_len}
use Rattle.std.proofs.lemmas.Iterator.{YieldsList-from_slice}
use Rattle.std.proofs.lemmas.Iterator.Search.{position_from_yields_List}
use Rattle.codec.specs.Records.{of_transaction}
use Rattle.codec.specs.Answers.{record_in}
use Rattle.joint.specs.Plan.{trimmed}
use Rattle.joint.specs.Answers.{site_from}
use Rattle.codec.specs.declared.record.Record.{Record}
use Rattle.joint.specs.declared.sites.Site.{Site}
use Rattle.joint.specs.Inside.{count_of, stable_of}
use Rattle.joint.proofs.Engine.Arrays.{length-shown}
use Rattle.joint.proofs.Engine.Sites.{stable-counted}
use Rattle.joint.proofs.Engine.Trims.{place_in, moved, trim_nothing, trim_stands}
use Rattle.joint.proofs.records.Records.trim.Goals as goal
use Rattle.joint.proofs.records.Records.trim.Goals.{In-Some}

-- what a search gives, by the first place, n of m
found_at : (r : Option ℕ) (n m i : ℕ) → r ≡ cond (ltb n m) (Some n) None → r ≡ Some i → (i ≡ n) × (n < m)
found_at r n m i e s = go (ltb n m) refl (sym s ∙ e)
  where
    go : (b : Bool) → ltb n m ≡ b → Some i ≡ cond b (Some n) None → (i ≡ n) × (n < m)
    go true q h = (cc, ltb-true n m q)
    go false q h = absurd (cc)

none_found : (r : Option ℕ) (n m : ℕ) → r ≡ cond (ltb n m) (Some n) None → ((i : ℕ) → r ≡ Some i → ⊥) → m ≤ n
none_found r n m e s = go (ltb n m) refl e
  where
    go : (b : Bool) → ltb n m ≡ b → r ≡ cond b (Some n) None → m ≤ n
    go true q h = absurd (s n h)
    go false q h = ltb-false n m q

module _ (s : Site) (rs of : List Record) (t : ℕ) (r : Option ℕ) (all : length of ≡ 24) (e : map record_in rs ≡ (site_from s of).stable)
    (h : r ≡ cond (ltb (position_or_len (λ x. eqb x.transaction t) rs) (length rs)) (Some (position_or_len (λ x. eqb x.transaction t) rs)) None) where
  place : position_or_len (λ x. eqb x.transaction t) rs ≡ position_or_len (of_transaction t) (site_from s of).stable
  unfolding of_transaction record_in
  place = place_in (of_transaction t) rs ∙ ap (position_or_len (of_transaction t)) e

  counted : length rs ≡ stable_of s
  counted = sym (length-map rs record_in) ∙ ap length e ∙ stable-counted s of all

  trimmed_none : ((i : ℕ) → r ≡ Some i → ⊥) → site_from s of ≡ trimmed t (site_from s of)
  trimmed_none none = trim_nothing s of t (omega (arith, place, counted, stable-counted s of all, none_found r _ _ h none))

  found : (i : ℕ) → r ≡ Some i → (i ≡ position_or_len (of_transaction t) (site_from s of).stable) × (i < stable_of s)
  found i q = let f = found_at r _ _ i h q in (f.0 ∙ place, omega (arith, f.1, counted))

pub returns-in_default : goal.returns-in_default
returns-in_default c =
    let s = c.args in
    let all : length s.self.of ≡ 24 = search length-shown in
    let rs = c.stable-stable.result.now in
    trimmed_none s.site rs s.self.of s.transaction c.position.result all c.stable-stable.ensures
    (position_from_yields_List (λ (x : Record). eqb x.transaction s.transaction) _ _ c.position.result c.position.ensures.ran (YieldsList-from_slice rs cc) (λ x b q k. search (rules, tests)))
    c.in_default.not-Some

-- where the oldest stands
low : (c : In-Some) → let s = c.args in
    (c.in-Some.oldest ≡ position_or_len (of_transaction s.transaction) (site_from s.site s.self.of).stable) × (c.in-Some.oldest < stable_of s.site)
low c =
    let s = c.args in
    let all : length s.self.of ≡ 24 = search length-shown in
    let rs = c.stable-stable.result.now in
    found s.site rs s.self.of s.transaction c.position.result all c.stable-stable.ensures
    (position_from_yields_List (λ (x : Record). eqb x.transaction s.transaction) _ _ c.position.result c.position.ensures.ran (YieldsList-from_slice rs cc) (λ x b q k. search (rules, tests)))
    c.in-Some.oldest c.in-Some.is

pub copy_within-requires-clause-start_le_end : goal.copy_within-requires-clause-start_le_end
copy_within-requires-clause-start_le_end c =
    let f = low (goal.at.copy_within-requires-clause-start_le_end c).In-Some in
    omega (arith, f.1, c.count.ensures)

pub copy_within-requires-clause-dest_in_bounds : goal.copy_within-requires-clause-dest_in_bounds
copy_within-requires-clause-dest_in_bounds c =
    let f = low (goal.at.copy_within-requires-clause-dest_in_bounds c).In-Some in
    let all : length c.args.self.of ≡ 24 = search length-shown in
    omega (arith, f.1, c.count.ensures, all)

pub overflow_sub-result : goal.overflow_sub-result
overflow_sub-result c =
    let f = low (goal.at.overflow_sub-result c).In-Some in
    omega (arith, f.1, c.stable_count.ensures)

pub returns : goal.returns
returns c =
    let s = c.args in
    let f = low (goal.at.returns c).In-Some in
    let all : length s.self.of ≡ 24 = search length-shown in
    rw (c.stable_count.ensures, c.unforced_count.ensures)
    (trim_stands s.site s.self.of s.transaction c.in-Some.oldest c.copy_within.new.self f.0 f.1 all
    (rw (c.copy_within.ensures.after, c.count.ensures) (moved c.in-Some.oldest (count_of s.site) s.self.of (omega (arith, f.1)) (omega (arith, all))))
    (omega (arith, c.copy_within.ensures.len, all)))
