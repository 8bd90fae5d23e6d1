-- What a planner sees: the letters of the drill's lines HANDOVER are what happened, and demand 3 keeps X, and C beside A, away.
use Prim.Native.Nat.{ℕ, zero, suc, ◌+◌, ◌%◌, ◌/◌, ◌<◌}
use mathlib.Core.Path.{◌≡◌, refl, sym, ap, ◌∙◌, subst, fun_ext}
use mathlib.Core.Bool.{Bool, true, false, cond, ◌&&◌, and-false}
use mathlib.Core.List.{List, [], ◌∷◌, ◌++◌, map, flatten, append_assoc}
use lib.Dec.{T, eqb, ltb}
use native.Mathlib.Omega.{arith}
use borrow.Author.Tests.{ne_eqb, ltb-true}
use Rattle.codec.specs.Lists.{select, any, all, every, same}
use Rattle.codec.specs.Sets.{participants}
use Rattle.codec.specs.Laws.Tests.{and_right}
use Rattle.site.specs.Presumption.{Outcome, commit, abort}
use Rattle.joint.specs.State.{Run, fresh, opened}
use Rattle.joint.specs.Plan.{transactions}
use Rattle.joint.specs.Run.{Answer, after, answers}
use Rattle.joint.specs.Safety.{Moment, history, is_entry, is_entry_at}
use Rattle.joint.specs.Totals.{Totals, totals}
use Rattle.joint.specs.Drill.{events_in, space, newline, decimal, line, event_lines, ascii, letter, entry_letter, transaction_line, totals_line, drill}
use Rattle.joint.specs.Screen.{in_front, lines, is_handover, letters, one_outcome, letter_of, EveryScreen}
use Rattle.joint.proofs.Base.Booleans.{and_both, or_both, is_false}
use Rattle.joint.proofs.Base.Lists.{Each, each_append, each_map}
use Rattle.joint.proofs.Base.Recorded.{entries-happened}
use Rattle.joint.proofs.Demand3.{demand3}

-- ---- lines

-- a byte that ends no line
abbrev Inner : ℕ → Type 0
Inner b = eqb b 10 ≡ false

lines_next : (l rest : List ℕ) → Each Inner l → lines (l ++ newline ∷ rest) ≡ l ∷ lines rest
unfolding lines newline in_front
lines_next [] rest h = refl
lines_next (b ∷ l) rest h = rw (h.0, lines_next l rest h.1)

abbrev handovers : List ℕ → List (List ℕ)
handovers text = select is_handover (lines text)

chosen_next : (l rest : List ℕ) → Each Inner l → handovers (l ++ newline ∷ rest) ≡ cond (is_handover l) (l ∷ handovers rest) (handovers rest)
unfolding select
chosen_next l rest h = rw (lines_next l rest h)

-- ---- lines of events: digits and spaces

-- neither a newline nor the H of HANDOVER
abbrev Plain : ℕ → Type 0
Plain b = Inner b × (eqb b 72 ≡ false)

digit_plain : (n : ℕ) → n < 10 → Plain (48 + n)
digit_plain n h = (ne_eqb (48 + n) 10 (λ e. omega arith), ne_eqb (48 + n) 72 (λ e. omega arith))

decimal_plain : (k n : ℕ) → Each Plain (decimal k n)
unfolding decimal
decimal_plain zero n = (digit_plain (n % 10) (omega arith), tt)
decimal_plain (suc k) n = go (decimal_plain k (n / 10)) (ltb n 10) refl
  where
    go : Each Plain (decimal k (n / 10)) → (b : Bool) → ltb n 10 ≡ b → Each Plain (elim b [ true ↦ (48 + n) ∷ [] | false ↦ decimal k (n / 10) ++ ((48 + n % 10) ∷ []) ])
    go h true e = (digit_plain n (ltb-true n 10 e), tt)
    go h false e = each_append Plain (decimal k (n / 10)) _ h (digit_plain (n % 10) (omega arith), tt)

-- a line's bytes in front of its newline
abbrev PlainLine : List ℕ → Type 0
PlainLine l = (front : List ℕ) × (l ≡ front ++ newline ∷ []) × Each Plain front

line_plain : (k : ℕ) (ns : List ℕ) → PlainLine (line k ns)
unfolding line space
line_plain k [] = ([], refl, tt)
line_plain k (n ∷ []) = (decimal k n, refl, decimal_plain k n)
line_plain k (n ∷ m ∷ ns) =
    let x = line_plain k (m ∷ ns) in (
      decimal k n ++ 32 ∷ x.0,
      ap (λ (l : List ℕ). decimal k n ++ 32 ∷ l) x.1 ∙ sym (append_assoc (decimal k n) (32 ∷ x.0) (newline ∷ [])),
      each_append Plain (decimal k n) (32 ∷ x.0) (decimal_plain k n) ((refl, refl), x.2),
    )

each_inner : (l : List ℕ) → Each Plain l → Each Inner l
each_inner = each_map Plain Inner (λ b h. h.0)

no_handover : (l : List ℕ) → Each Plain l → is_handover l ≡ false
unfolding is_handover ascii same
no_handover [] h = refl
no_handover (b ∷ l) h = rw h.0.1 refl

plain_passed : (l rest : List ℕ) → PlainLine l → handovers (l ++ rest) ≡ handovers rest
plain_passed l rest (front, e, h) =
    ap (λ (m : List ℕ). handovers (m ++ rest)) e
    ∙ ap handovers (append_assoc front (newline ∷ []) rest)
    ∙ chosen_next front rest (each_inner front h)
    ∙ ap (λ (b : Bool). cond b (front ∷ handovers rest) (handovers rest)) (no_handover front h)

events_passed : (n : ℕ) (given : List Answer) (rest : List ℕ) → handovers (event_lines n given ++ rest) ≡ handovers rest
unfolding event_lines
events_passed n [] rest = refl
events_passed n (a ∷ given) rest =
    let l = n ∷ a.number ∷ a.records ∷ a.forces ∷ a.sends ∷ [] in
    ap handovers (append_assoc (line 5 l) (event_lines (n + 1) given) rest)
    ∙ plain_passed (line 5 l) (event_lines (n + 1) given ++ rest) (line_plain 5 l)
    ∙ events_passed (n + 1) given rest

-- and lines of sites
totals_passed : (f : ℕ → Totals) (sites : List ℕ) → handovers (flatten (map (λ s. totals_line (f s)) sites)) ≡ []
unfolding flatten totals_line
totals_passed f [] = unfold lines select in refl
totals_passed f (s ∷ sites) = plain_passed (totals_line (f s)) (flatten (map (λ s. totals_line (f s)) sites)) (line_plain 19 _) ∙ totals_passed f sites

-- ---- lines of transactions

letter_inner : (c a : Bool) → Inner (letter c a)
unfolding letter
letter_inner true true = refl
letter_inner true false = refl
letter_inner false true = refl
letter_inner false false = refl

-- without its newline
abbrev shown_line : Run → ℕ → List ℕ
shown_line r t = ascii "HANDOVER" ++ space ∷ decimal 0 t ++ space ∷ map (entry_letter (r.transaction t)) (0 ∷ participants)

letters_inner : (f : ℕ → ℕ) → ((s : ℕ) → Inner (f s)) → (l : List ℕ) → Each Inner (map f l)
letters_inner f h [] = tt
letters_inner f h (s ∷ l) = (h s, letters_inner f h l)

shown_inner : (r : Run) (t : ℕ) → Each Inner (shown_line r t)
unfolding ascii space entry_letter
shown_inner r t =
    let x = r.transaction t in
    let shown = map (entry_letter x) (0 ∷ participants) in
    let word : Each Inner (ascii "HANDOVER") = (refl, (refl, (refl, (refl, (refl, (refl, (refl, (refl, tt)))))))) in
    let ends : Each Inner (space ∷ shown) = (refl, letters_inner (entry_letter x) (λ s. letter_inner (x.entered s commit) (x.entered s abort)) (0 ∷ participants)) in
    each_append Inner (ascii "HANDOVER") (space ∷ decimal 0 t ++ space ∷ shown) word
    (refl, each_append Inner (decimal 0 t) (space ∷ shown) (each_inner (decimal 0 t) (decimal_plain 0 t)) ends)

line_ends : (r : Run) (t : ℕ) (rest : List ℕ) → transaction_line r t ++ rest ≡ shown_line r t ++ newline ∷ rest
unfolding transaction_line ascii space decimal participants
line_ends r t rest = refl

is_handover_lem : (r : Run) (t : ℕ) → is_handover (shown_line r t) ≡ true
unfolding is_handover ascii same
is_handover_lem r t = refl

its_letters : (r : Run) (t : ℕ) → letters (shown_line r t) ≡ map (entry_letter (r.transaction t)) (0 ∷ participants)
unfolding letters ascii decimal
its_letters r t = refl

transactions-shown : (r : Run) (ts behind : List ℕ) → handovers behind ≡ []
    → map letters (handovers (flatten (map (transaction_line r) ts) ++ behind)) ≡ map (λ t. map (entry_letter (r.transaction t)) (0 ∷ participants)) ts
unfolding flatten
transactions-shown r [] behind h = ap (map letters) h
transactions-shown r (t ∷ ts) behind h =
    let rest = flatten (map (transaction_line r) ts) ++ behind in
    ap (λ (l : List ℕ). map letters (handovers l)) (append_assoc (transaction_line r t) (flatten (map (transaction_line r) ts)) behind ∙ line_ends r t rest)
    ∙ ap (map letters) (chosen_next (shown_line r t) rest (shown_inner r t))
    ∙ ap (λ (b : Bool). map letters (cond b (shown_line r t ∷ handovers rest) (handovers rest))) (is_handover_lem r t)
    ∙ ap (λ (l : List ℕ). l ∷ map letters (handovers rest)) (its_letters r t)
    ∙ ap (λ (ls : List (List ℕ)). map (entry_letter (r.transaction t)) (0 ∷ participants) ∷ ls) (transactions-shown r ts behind h)

-- ---- what they show is what happened

letter-happened : (es : List (List ℕ)) (t s : ℕ) → entry_letter ((after fresh es).transaction t) s ≡ letter_of (history fresh es) t s
unfolding entry_letter letter_of
letter-happened es t s = rw (entries-happened es t s commit, entries-happened es t s abort)

module _ (input : List ℕ) where
  abbrev happened : List Moment
  happened = history fresh (events_in input)

  abbrev opened_ones : List ℕ
  opened_ones = select (opened (after fresh (events_in input))) transactions

  letters-happened : map letters (handovers (drill input)) ≡ map (λ t. map (letter_of happened t) (0 ∷ participants)) opened_ones
  unfolding drill
  letters-happened =
      ap (map letters) (events_passed 1 (answers fresh (events_in input)) _)
      ∙ transactions-shown (after fresh (events_in input)) opened_ones _ (totals_passed (totals (events_in input)) (0 ∷ participants))
      ∙ ap (λ (f : ℕ → List ℕ). map f opened_ones) (fun_ext (λ t. ap (λ (f : ℕ → ℕ). map f (0 ∷ participants)) (fun_ext (letter-happened (events_in input) t))))

-- ---- one outcome

none-holds : (x : ℕ) (f : ℕ → ℕ) → ((s : ℕ) → eqb x (f s) ≡ false) → (l : List ℕ) → any (eqb x) (map f l) ≡ false
unfolding any
none-holds x f h [] = refl
none-holds x f h (s ∷ l) = rw (h s, none-holds x f h l)

-- neither X nor A where nothing was aborted, neither X nor C where nothing was committed
no_abort : (c : Bool) → (eqb 88 (letter c false) ≡ false) × (eqb 65 (letter c false) ≡ false)
unfolding letter
no_abort true = (refl, refl)
no_abort false = (refl, refl)

no_commit : (a : Bool) → (eqb 88 (letter false a) ≡ false) × (eqb 67 (letter false a) ≡ false)
unfolding letter
no_commit true = (refl, refl)
no_commit false = (refl, refl)

-- of letters by c and a, where those imply two tests that exclude each other
module _ (c a : ℕ → Bool) (l : List ℕ) where
  abbrev shown_by : List ℕ
  shown_by = map (λ s. letter (c s) (a s)) l

  one_committed : ((s : ℕ) → a s ≡ false) → T (one_outcome shown_by)
  unfolding one_outcome every
  one_committed h =
      let n : (s : ℕ) → (eqb 88 (letter (c s) (a s)) ≡ false) × (eqb 65 (letter (c s) (a s)) ≡ false) = λ s. rw (h s) (no_abort (c s)) in
      rw (none-holds 88 (λ s. letter (c s) (a s)) (λ s. (n s).0) l, none-holds 65 (λ s. letter (c s) (a s)) (λ s. (n s).1) l, and-false) tt

  one_aborted : ((s : ℕ) → c s ≡ false) → T (one_outcome shown_by)
  unfolding one_outcome every
  one_aborted h =
      let n : (s : ℕ) → (eqb 88 (letter (c s) (a s)) ≡ false) × (eqb 67 (letter (c s) (a s)) ≡ false) = λ s. rw (h s) (no_commit (a s)) in
      rw (none-holds 88 (λ s. letter (c s) (a s)) (λ s. (n s).0) l, none-holds 67 (λ s. letter (c s) (a s)) (λ s. (n s).1) l) tt

  one_of_two : (C A : Bool) → ((s : ℕ) → T (c s) → T C) → ((s : ℕ) → T (a s) → T A) → (T C → T A → ⊥) → T (one_outcome shown_by)
  one_of_two true A f g apart = one_committed (λ s. is_false (a s) (λ k. apart tt (g s k)))
  one_of_two false A f g apart = one_aborted (λ s. is_false (c s) (f s))

entered_anywhere : (t s : ℕ) (o : Outcome) (h : List Moment) → T (any (is_entry_at t s o) h) → T (any (is_entry t o) h)
unfolding any is_entry_at
entered_anywhere t s o [] k = k
entered_anywhere t s o (m ∷ h) k =
    or_both (eqb m.site s && is_entry t o m) (any (is_entry_at t s o) h) (is_entry t o m) (any (is_entry t o) h) (and_right (eqb m.site s) (is_entry t o m)) (entered_anywhere t s o h) k

line-agrees : (es : List (List ℕ)) (t : ℕ) → T (one_outcome (map (letter_of (history fresh es) t) (0 ∷ participants)))
unfolding letter_of
line-agrees es t =
    let h = history fresh es in
    one_of_two (λ s. any (is_entry_at t s commit) h) (λ s. any (is_entry_at t s abort) h) (0 ∷ participants) (any (is_entry t commit) h) (any (is_entry t abort) h)
    (λ s. entered_anywhere t s commit h) (λ s. entered_anywhere t s abort h) ((demand3 es).agreement t)

-- ---- all lines

all_of_map : {A B : Type 0} (f : B → Bool) (g : A → B) (l : List A) → all (λ x. f (g x)) l ≡ all f (map g l)
unfolding all
all_of_map f g [] = refl
all_of_map f g (x ∷ l) = rw (all_of_map f g l)

all_map : {A B : Type 0} (f : B → Bool) (g : A → B) → ((x : A) → T (f (g x))) → (l : List A) → T (all f (map g l))
unfolding all
all_map f g h [] = tt
all_map f g h (x ∷ l) = and_both (f (g x)) (all f (map g l)) (h x) (all_map f g h l)

pub every_screen : EveryScreen
every_screen input =
    let ts = opened_ones input in
    record {
      shown = letters-happened input;
      agreed =
          subst T (sym (all_of_map one_outcome letters (handovers (drill input)) ∙ ap (all one_outcome) (letters-happened input)))
          (all_map one_outcome _ (line-agrees (events_in input)) ts);
    }
