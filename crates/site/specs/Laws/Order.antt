-- The order of sends: the round of a transaction, a set in turn, those first that go first, and the first so many of them. Assumes nothing.
use Rattle.std.specs.Prelude.{◌≡◌, Bool, true, false, cond, ◌&&◌, ◌||◌, length, get_or, ltb}
use Rattle.std.proofs.Math.Path.{refl, ap}
use Rattle.std.proofs.Common.{ap₂, sym, ◌∙◌, arith, length-append, take-append-drop, take_all, ltb-true, ltb-false}
use Rattle.std.proofs.Math.Bool.{not, and-true, or-false}
use mathlib.Core.List.{List, [], ◌∷◌, ◌++◌}
use Prim.Native.Nat.{ℕ, zero, suc, ◌+◌, ◌-◌, ◌<◌}
use Rattle.std.proofs.Math.ListN.{take, drop}
use Rattle.codec.specs.Lists.{select}
use Rattle.codec.specs.Sets.{participants, member, listed, those, both, either, minus}
use Rattle.codec.specs.Laws.Tests.{alike, alike_eq, bools_at}
use Rattle.codec.specs.Laws.Masks.{those_alike, those-below, those-members, in_those}
use Rattle.codec.specs.Laws.Members.{none_in}
use Rattle.site.specs.Presumption.{Outcome}
use Rattle.site.specs.Cohort.{Cohort, remaining, owing}
use Rattle.site.specs.Coordinator.{round, in_turn, ordered}
use Rattle.site.specs.Laws.Lists.{select-none, select-select, select-append, take-append}
use Rattle.site.specs.Laws.Sets.{Numbered}
use Rattle.site.specs.Laws.Remaining.{in_set, remaining-owing}

-- ---- what adds up over lists is the same in every order

module _ (h : List ℕ → ℕ) (adds : (l m : List ℕ) → h (l ++ m) ≡ h l + h m) where
  -- in two parts
  parted : (f : ℕ → Bool) (l : List ℕ) → h (select f l ++ select (λ p. not (f p)) l) ≡ h l
  unfolding select
  parted f [] = refl
  parted f (p ∷ l) = by (f p) (parted f l)
    where
      x : List ℕ
      x = select f l

      y : List ℕ
      y = select (λ q. not (f q)) l

      by : (b : Bool) → h (x ++ y) ≡ h l → h (cond b (p ∷ x) x ++ cond (not b) (p ∷ y) y) ≡ h (p ∷ l)
      by true e = omega (arith, adds (p ∷ []) (x ++ y), adds (p ∷ []) l, e)
      by false e = omega (arith, adds x (p ∷ y), adds (p ∷ []) y, adds (p ∷ []) l, adds x y, e)

  -- in the round
  around : (f : ℕ → Bool) (t : ℕ) → h (select f (round t)) ≡ h (select f participants)
  unfolding round
  around f t =
      let x = take t participants in
      let y = drop t participants in
      let e : h (select f (y ++ x)) ≡ h (select f (x ++ y)) =
      rw (select-append f y x, select-append f x y) (omega (arith, adds (select f y) (select f x), adds (select f x) (select f y))) in
      e ∙ ap (λ (l : List ℕ). h (select f l)) (take-append-drop t participants)

  pub in_turn_adds : (t to : ℕ) → h (in_turn t to) ≡ h (listed to)
  unfolding in_turn listed
  in_turn_adds t to = around (λ p. member p to) t

  pub order_adds : (t first to : ℕ) → h (ordered t first to) ≡ h (listed to)
  unfolding ordered
  order_adds t first to = parted (λ p. member p first) (in_turn t to) ∙ in_turn_adds t to

pub order_length : (t first to : ℕ) → length (ordered t first to) ≡ length (listed to)
order_length = order_adds length length-append

-- ---- the round has participants

abbrev AllNumbered : List ℕ → Type 0
AllNumbered [] = Unit {0}
AllNumbered (p ∷ l) = Numbered p × AllNumbered l

numbered_append : (l m : List ℕ) → AllNumbered l → AllNumbered m → AllNumbered (l ++ m)
numbered_append [] m a b = b
numbered_append (p ∷ l) m a b = (a.0, numbered_append l m a.1 b)

numbered_take : (n : ℕ) (l : List ℕ) → AllNumbered l → AllNumbered (take n l)
numbered_take zero l a = tt
numbered_take (suc n) [] a = tt
numbered_take (suc n) (p ∷ l) a = (a.0, numbered_take n l a.1)

numbered_drop : (n : ℕ) (l : List ℕ) → AllNumbered l → AllNumbered (drop n l)
numbered_drop zero l a = a
numbered_drop (suc n) [] a = tt
numbered_drop (suc n) (p ∷ l) a = numbered_drop n l a.1

all_numbered : AllNumbered participants
unfolding participants
all_numbered =
    let at : (i : ℕ) → i < 8 → Numbered (suc i) = λ i h. (omega arith, omega (arith, h)) in (
      at 0 (omega arith),
      (at 1 (omega arith), (at 2 (omega arith), (at 3 (omega arith), (at 4 (omega arith), (at 5 (omega arith), (at 6 (omega arith), (at 7 (omega arith), tt))))))),
    )

select_alike : (f g : ℕ → Bool) → ((p : ℕ) → Numbered p → f p ≡ g p) → (l : List ℕ) → AllNumbered l → select f l ≡ select g l
unfolding select
select_alike f g h [] a = refl
select_alike f g h (p ∷ l) a = rw (h p a.0, select_alike f g h l a.1)

-- the set of those that pass a test, in turn
pub in_turn_those : (t : ℕ) (f : ℕ → Bool) → in_turn t (those f) ≡ select f (round t)
unfolding in_turn round
in_turn_those t f =
    select_alike (λ p. member p (those f)) f (in_set f) (round t)
    (numbered_append (drop t participants) (take t participants) (numbered_drop t participants all_numbered) (numbered_take t participants all_numbered))

-- ---- those first that go first

in_turn_none : (t : ℕ) → in_turn t 0 ≡ []
unfolding in_turn
in_turn_none t = select-none (λ p. member p 0) (round t) none_in

pub ordered-none : (t first : ℕ) → ordered t first 0 ≡ []
unfolding ordered select
ordered-none t first = rw (in_turn_none t) refl

-- one set in turn, and then another
in_order_lem : (t first to : ℕ) → ordered t first to ≡ in_turn t (both to first) ++ in_turn t (minus to first)
unfolding ordered both minus
in_order_lem t first to =
    rw (in_turn_those t (λ p. member p to && member p first), in_turn_those t (λ p. member p to && not (member p first)))
    (ap₂ ◌++◌ (selected (λ p. member p first)) (selected (λ p. not (member p first))))
  where
    selected : (f : ℕ → Bool) → select f (in_turn t to) ≡ select (λ p. member p to && f p) (round t)
    selected f = unfold in_turn in select-select (λ p. member p to) f (round t)

-- ---- who goes first

-- to a set the order goes by those alone of its members that go first
order_within : (t a b to : ℕ) → ((p : ℕ) → Numbered p → member p to ≡ true → member p a ≡ member p b) → ordered t a to ≡ ordered t b to
unfolding both minus
order_within t a b to h =
    in_order_lem t a to
    ∙ ap₂ (λ (x y : ℕ). in_turn t x ++ in_turn t y)
    (those_alike (λ p. member p to && member p a) (λ p. member p to && member p b) (λ i k. by (λ x. x) (suc i) (omega arith, omega (arith, k)) (member (suc i) to) refl))
    (those_alike (λ p. member p to && not (member p a)) (λ p. member p to && not (member p b))
    (λ i k. by not (suc i) (omega arith, omega (arith, k)) (member (suc i) to) refl))
    ∙ sym (in_order_lem t b to)
  where
    by : (f : Bool → Bool) (p : ℕ) → Numbered p → (m : Bool) → member p to ≡ m → (m && f (member p a)) ≡ (m && f (member p b))
    by f p n true e = ap f (h p n e)
    by f p n false e = refl

-- to some that remain it is the order of the cohort as opened
pub remaining_order : (t : ℕ) (g : Cohort) (out : ℕ) (o : Outcome) (to : ℕ) → ((p : ℕ) → Numbered p → member p to ≡ true → member p out ≡ false)
    → ordered t (owing g o) to ≡ ordered t (owing (remaining g out) o) to
remaining_order t g out o to h =
    order_within t (owing g o) (owing (remaining g out) o) to
    (λ p n e. sym (remaining-owing g out o p n ∙ rw (h p n e) (and-true (member p (owing g o)))))

-- ---- the first so many

-- a set is a part of itself
pub both-same : (m : ℕ) → m < 256 → both m m ≡ m
unfolding both
both-same m h = those_alike (λ p. member p m && member p m) (λ p. member p m) (λ i l. twice (member (suc i) m)) ∙ those-members m h
  where
    twice : (b : Bool) → (b && b) ≡ b
    twice true = refl
    twice false = refl

abbrev first_test : List Bool → Bool
first_test bs = alike (((at 0 && (at 2 && at 3)) || (at 1 && (at 2 && not (at 3)))) && at 3) (at 0 && (at 2 && at 3))
  where
    at : ℕ → Bool
    at i = get_or bs i false

abbrev second_test : List Bool → Bool
second_test bs = alike (((at 0 && (at 2 && at 3)) || (at 1 && (at 2 && not (at 3)))) && not (at 3)) (at 1 && (at 2 && not (at 3)))
  where
    at : ℕ → Bool
    at i = get_or bs i false

-- l is of those in s and o, r of those in s and not in o: of l or r, those in o are l, and the others r
module _ (l r s o : Bool) (el : l ≡ (l && (s && o))) (er : r ≡ (r && (s && not o))) where
  in_first : ((l || r) && o) ≡ l
  in_first = ap (λ (b : Bool). (b && o)) (ap₂ ◌||◌ el er) ∙ alike_eq _ _ (bools_at first_test (l ∷ r ∷ s ∷ o ∷ []) tt) ∙ sym el

  in_second : ((l || r) && not o) ≡ r
  in_second = ap (λ (b : Bool). (b && not o)) (ap₂ ◌||◌ el er) ∙ alike_eq _ _ (bools_at second_test (l ∷ r ∷ s ∷ o ∷ []) tt) ∙ sym er

-- of a set a in `first` and a set b out of it
module _ (t first to n a b : ℕ) (ha : a < 256) (hb : b < 256)
    (pa : both a (both to first) ≡ a)
    (pb : both b (minus to first) ≡ b) where
  within_first : (i : ℕ) → i < 8 → member (suc i) a ≡ (member (suc i) a && (member (suc i) to && member (suc i) first))
  unfolding both
  within_first i h =
      ap (member (suc i)) (sym pa)
      ∙ in_those (λ p. member p a && member p (both to first)) i h
      ∙ ap (member (suc i) a &&◌) (in_those (λ p. member p to && member p first) i h)

  within_second : (i : ℕ) → i < 8 → member (suc i) b ≡ (member (suc i) b && (member (suc i) to && not (member (suc i) first)))
  unfolding both minus
  within_second i h =
      ap (member (suc i)) (sym pb)
      ∙ in_those (λ p. member p b && member p (minus to first)) i h
      ∙ ap (member (suc i) b &&◌) (in_those (λ p. member p to && not (member p first)) i h)

  first_of : both (either a b) first ≡ a
  unfolding both either
  first_of =
      those_alike (λ p. member p (either a b) && member p first) (λ p. member p a)
      (λ i h.
      ap (◌&& member (suc i) first) (in_those (λ p. member p a || member p b) i h)
      ∙ in_first (member (suc i) a) (member (suc i) b) (member (suc i) to) (member (suc i) first) (within_first i h) (within_second i h))
      ∙ those-members a ha

  second_of : minus (either a b) first ≡ b
  unfolding minus either
  second_of =
      those_alike (λ p. member p (either a b) && not (member p first)) (λ p. member p b)
      (λ i h.
      ap (◌&& not (member (suc i) first)) (in_those (λ p. member p a || member p b) i h)
      ∙ in_second (member (suc i) a) (member (suc i) b) (member (suc i) to) (member (suc i) first) (within_first i h) (within_second i h))
      ∙ those-members b hb

  order_cut : in_turn t a ≡ take n (in_turn t (both to first))
      → in_turn t b ≡ take (n - length (listed (both to first))) (in_turn t (minus to first))
      → ordered t first (either a b) ≡ take n (ordered t first to)
  order_cut ea eb =
      in_order_lem t first (either a b)
      ∙ ap₂ (λ (x y : ℕ). in_turn t x ++ in_turn t y) first_of second_of
      ∙ ap₂ ◌++◌ ea (eb ∙ ap (λ (k : ℕ). take (n - k) (in_turn t (minus to first))) (sym (in_turn_adds length length-append t (both to first))))
      ∙ sym (ap (take n) (in_order_lem t first to) ∙ take-append n (in_turn t (both to first)) (in_turn t (minus to first)))

-- the cut is in the first group, and nobody of the second is sent to; or it is behind it, and all of the first are. r: those of that group
pub cut_in_groups : (t first to n r : ℕ) (within : Bool) → ltb n (length (listed (both to first))) ≡ within → r < 256
    → both r (cond within (both to first) (minus to first)) ≡ r
    → in_turn t r ≡ take (cond within n (n - length (listed (both to first)))) (in_turn t (cond within (both to first) (minus to first)))
    → ordered t first (either (cond within 0 (both to first)) r) ≡ take n (ordered t first to)
unfolding both either
cut_in_groups t first to n r true e h p q =
    let none : both 0 (minus to first) ≡ 0 = those_alike (λ k. member k 0 && member k (minus to first)) (λ k. member k 0) (λ i l. rw (none_in (suc i)) refl) ∙ those-members 0 (omega arith) in
    let same : either r 0 ≡ either 0 r = those_alike (λ k. member k r || member k 0) (λ k. member k 0 || member k r) (λ i l. rw (none_in (suc i)) (or-false (member (suc i) r))) in
    let z : n - length (listed (both to first)) ≡ 0 = omega (arith, ltb-true n (length (listed (both to first))) e) in
    rw same at (order_cut t first to n r 0 h (omega arith) p none q (rw z (in_turn_none t)))
cut_in_groups t first to n r false e h p q =
    order_cut t first to n (both to first) r (those-below (λ k. member k to && member k first)) h (both-same (both to first) (those-below (λ k. member k to && member k first))) p
    (sym (take_all n (in_turn t (both to first)) (omega (arith, ltb-false n (length (listed (both to first))) e, in_turn_adds length length-append t (both to first))))) q
