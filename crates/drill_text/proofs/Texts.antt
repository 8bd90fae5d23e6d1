-- The lines of a drill: what they are as bytes. Assumes nothing.
use Rattle.std.proofs.Common.{ℕ, ◌+◌, ◌*◌, ◌≤◌, ◌<◌, ◌≡◌, refl, sym, ap, ◌∙◌, List, [], ◌∷◌, ◌++◌, length, get_or, drop, arith, drop-cons, eqb, eqb-true, length-append, drop_of_length-le}
use native.Mathlib.Nat.{mod-eq_of_lt}
use native.Mathlib.Numerals.{add-one}
use mathlib.Core.List.{map, flatten, append-nil}
use lib.ListN.{get_or-map}
use lib.Seq.{append_snoc}
use borrow.Author.Tests.{eq-eqb, ne_eqb}
use Rattle.std.specs.Int.Bits.{bit_or}
use Rattle.std.proofs.lemmas.Slice.Eq.{text_from_reads}
use Rattle.codec.specs.Lists.{select}
use Rattle.codec.specs.Sets.{participants, empty}
use Rattle.codec.specs.Laws.Stored.{Next}
use Rattle.codec.specs.Laws.Tests.{true_of, below_at}
use Rattle.joint.specs.Laws.Numbered.{numbered_at, numbered_from}
use Rattle.joint.specs.State.{Run, opened}
use Rattle.joint.specs.Plan.{transactions}
use Rattle.joint.specs.Totals.{Totals}
use Rattle.joint.specs.Drill.{decimal, line, space, newline, ascii, entry_letter, transaction_line, totals_line}
use Rattle.drill_text.specs.Inside.{lines_from, letters, sites, site_lines}
use Rattle.drill_text.proofs.Decimal.{decimal_one, decimal_wider}

-- ---- the fields of a line

pub field_next : (k n m : ℕ) (ns : List ℕ) → Next (line k (n ∷ m ∷ ns)) (decimal k n ++ (32 ∷ [])) (line k (m ∷ ns))
unfolding line space
field_next k n m ns = record { split = sym (append_snoc (decimal k n) 32 (line k (m ∷ ns))) }

pub field_last : (k n : ℕ) → Next (line k (n ∷ [])) (decimal k n ++ (10 ∷ [])) []
unfolding line newline
field_last k n = record { split = sym (append-nil (decimal k n ++ (10 ∷ []))) }

-- a number of one digit, whose bits do not meet those of the character 0: tested by computation
one_digit : (k n : ℕ) → n < 10 → decimal k n ≡ bit_or 48 n ∷ []
one_digit k n h =
    let joined = eqb-true _ _ (true_of _ (below_at 10 (λ i. eqb (bit_or 48 i) (48 + i)) tt n h)) in
    decimal_one k n h ∙ ap (◌∷ []) (sym joined)

-- the four numbers of an answer
module _ (a : List ℕ) (four : length a ≡ 4) where
  abbrev at : ℕ → ℕ
  at k = get_or a k 0

  pub spelled : a ≡ at 0 ∷ at 1 ∷ at 2 ∷ at 3 ∷ []
  spelled = text_from_reads a (at 0 ∷ at 1 ∷ at 2 ∷ at 3 ∷ []) four (refl, (refl, (refl, (refl, tt))))

  -- of one digit each
  pub line_short : at 0 + at 1 + at 2 + at 3 < 10
      → line 5 a ≡ bit_or 48 (at 0) ∷ 32 ∷ bit_or 48 (at 1) ∷ 32 ∷ bit_or 48 (at 2) ∷ 32 ∷ bit_or 48 (at 3) ∷ 10 ∷ []
  unfolding line space newline
  line_short h =
      ap (line 5) spelled
      ∙ rw (one_digit 5 (at 0) (omega arith), one_digit 5 (at 1) (omega arith), one_digit 5 (at 2) (omega arith), one_digit 5 (at 3) (omega arith))

  -- of six digits at most, each written as one of any size
  wide : (k : ℕ) → at k < 1000000 → decimal 19 (at k) ≡ decimal 5 (at k)
  wide k h = decimal_wider 5 19 (at k) (omega arith) (omega (arith, h))

  pub line_wide : at 0 < 1000000 → at 1 < 1000000 → at 2 < 1000000 → at 3 < 1000000 → line 5 a ≡ line 19 (at 0 ∷ at 1 ∷ at 2 ∷ at 3 ∷ [])
  unfolding line
  line_wide h i j k = ap (line 5) spelled ∙ rw (wide 0 h, wide 1 i, wide 2 j, wide 3 k) refl

  -- of any size
  pub fields_next : Next (line 19 a) (decimal 19 (at 0) ++ (32 ∷ [])) (line 19 (at 1 ∷ at 2 ∷ at 3 ∷ []))
  fields_next = record { split = ap (line 19) spelled ∙ (field_next 19 (at 0) (at 1) (at 2 ∷ at 3 ∷ [])).split }

  -- a line's number, and what is behind it
  pub counted_next : (n : ℕ) → Next (line 5 (n ∷ a)) (decimal 5 n ++ (32 ∷ [])) (line 5 a)
  counted_next n = rw spelled (field_next 5 n (at 0) (at 1 ∷ at 2 ∷ at 3 ∷ []))

  pub line-length : (n : ℕ)
      → length (decimal 5 n) + length (decimal 5 (at 0)) + length (decimal 5 (at 1)) + length (decimal 5 (at 2)) + length (decimal 5 (at 3)) + 5
      ≡ length (line 5 (n ∷ a))
  unfolding line
  line-length n = rw spelled (simp length-append (omega arith))

-- ---- the lines of answers in turn

module _ (all : List (List ℕ)) (i : ℕ) where
  pub lines_next : (n : ℕ) → i < length all → n ≡ i + 1
      → Next (lines_from (i + 1) (drop i all)) (line 5 (n ∷ get_or all i [])) (lines_from (i + 1 + 1) (drop (i + 1) all))
  unfolding lines_from
  lines_next n h m = record { split = rw (drop-cons all i [] h, m, add-one i) refl }

  pub lines_end : length all ≤ i → lines_from (i + 1) (drop i all) ≡ []
  unfolding lines_from
  lines_end h = ap (lines_from (i + 1)) (drop_of_length-le all {i = i} h)

-- ---- the line of a transaction

-- what stands before its letters
abbrev pub head : ℕ → List ℕ
head t = 72 ∷ 65 ∷ 78 ∷ 68 ∷ 79 ∷ 86 ∷ 69 ∷ 82 ∷ 32 ∷ (48 + t) ∷ 32 ∷ []

module _ (r : Run) (t : ℕ) where
  pub letter_next : (s b : ℕ) → s < 9 → b ≡ entry_letter (r.transaction t) s → Next (drop s (letters r t)) (b ∷ []) (drop (s + 1) (letters r t))
  unfolding letters participants
  letter_next s b h e =
      let f = entry_letter (r.transaction t) in
      let here : get_or (map f sites) s (f 0) ≡ f s = get_or-map f sites s 0 ∙ ap f (numbered_at sites tt s h) in
      record { split = drop-cons (map f sites) s (f 0) h ∙ rw (here, add-one s, e) refl }

  pub letters_end : (s : ℕ) → 9 ≤ s → drop s (letters r t) ≡ []
  unfolding letters participants
  letters_end s h = drop_of_length-le (map (entry_letter (r.transaction t)) sites) {i = s} h

  pub head_next : t < 8 → Next (transaction_line r t) (head t) (letters r t ++ (10 ∷ []))
  unfolding transaction_line ascii decimal space newline letters
  head_next h = record { split = rw (mod-eq_of_lt {n = t} {m = 10} (omega (arith, h))) }

  pub transaction-length : length (transaction_line r t) ≡ 21
  unfolding transaction_line ascii decimal participants
  transaction-length = refl

-- ---- the opened transactions in turn

-- those from i on
abbrev pub opened_from : Run → ℕ → List ℕ
opened_from r i = select (opened r) (drop i transactions)

-- their lines
abbrev lines_of_each : Run → List ℕ → List ℕ
lines_of_each r ts = flatten (map (transaction_line r) ts)

abbrev pub text_from : Run → ℕ → List ℕ
text_from r i = lines_of_each r (opened_from r i)

pub text_length : (r : Run) (ts : List ℕ) → length (lines_of_each r ts) ≡ 21 * length ts
unfolding flatten
text_length r [] = refl
text_length r (t ∷ ts) = simp (length-append, transaction-length r t, text_length r ts) (omega arith)

module _ (r : Run) (i : ℕ) where
  pub opened_end : 8 ≤ i → opened_from r i ≡ []
  unfolding transactions select
  opened_end h = ap (select (opened r)) (drop_of_length-le transactions {i = i} h)

  pub text_end : 8 ≤ i → text_from r i ≡ []
  unfolding flatten
  text_end h = ap (lines_of_each r) (opened_end h)

  module _ (h : i < 8) where
    here : drop i transactions ≡ i ∷ drop (i + 1) transactions
    unfolding transactions
    here = numbered_from transactions tt i h

    pub opened_next : ((r.transaction i).cohort.members ≡ 0 → ⊥) → opened_from r i ≡ i ∷ opened_from r (i + 1)
    unfolding select opened empty
    opened_next n = ap (select (opened r)) here ∙ rw (ne_eqb (r.transaction i).cohort.members 0 n)

    pub opened_skip : (r.transaction i).cohort.members ≡ 0 → opened_from r i ≡ opened_from r (i + 1)
    unfolding select opened empty
    opened_skip e = ap (select (opened r)) here ∙ rw (eq-eqb (r.transaction i).cohort.members 0 e)

    pub text_next : ((r.transaction i).cohort.members ≡ 0 → ⊥) → Next (text_from r i) (transaction_line r i) (text_from r (i + 1))
    unfolding flatten
    text_next n = record { split = ap (lines_of_each r) (opened_next n) }

    pub text_skip : (r.transaction i).cohort.members ≡ 0 → text_from r i ≡ text_from r (i + 1)
    text_skip e = ap (lines_of_each r) (opened_skip e)

-- ---- the sites in turn

module _ (f : ℕ → Totals) (i : ℕ) where
  pub site_next : (x : Totals) → i < 9 → x ≡ f i → Next (site_lines f (drop i sites)) (totals_line x) (site_lines f (drop (i + 1) sites))
  unfolding participants flatten
  site_next x h e = record { split = ap (site_lines f) (numbered_from sites tt i h) ∙ rw e refl }

  pub sites_end : 9 ≤ i → site_lines f (drop i sites) ≡ []
  unfolding participants flatten
  sites_end h = ap (site_lines f) (drop_of_length-le sites {i = i} h)
