-- Messages sent to a set. Assumes nothing.
use mathlib.Core.Path.{◌≡◌, refl, ap, ap₂, sym, subst, ◌∙◌}
use mathlib.Core.Bool.{Bool, true, false, cond, not}
use mathlib.Core.List.{List, [], ◌∷◌, ◌++◌, map, append-nil}
use Prim.Native.Nat.{ℕ, suc, ◌-◌, ◌<◌, ◌≤◌}
use native.Mathlib.Omega.{arith}
use lib.ListN.{take, drop, get_or, take-append-drop}
use lib.Dec.{leb}
use borrow.Author.Tests.{le-leb}
use Rattle.codec.specs.Lists.{select, same}
use Rattle.codec.specs.Sets.{participants, member, listed, bits, those, only}
use Rattle.codec.specs.Laws.Tests.{below_at, true_of, same_list}
use Rattle.codec.specs.Laws.Members.{none_in, numbered, member-participant}
use Rattle.site.specs.Presumption.{commit, abort}
use Rattle.site.specs.Step.{Message, prepare, vote_yes, vote_no, read_only, tell, ack, messages, message_kind, send, given}
use Rattle.site.specs.Coordinator.{round, in_turn, ordered}
use Rattle.site.specs.Answers.{sending}
use Rattle.site.specs.Laws.Lists.{select-none, select-append}
use Rattle.site.specs.Laws.Sets.{Numbered}
use Rattle.site.specs.Laws.Order.{ordered-none}

-- ---- the order

select_all : (f : ℕ → Bool) (l : List ℕ) → ((n : ℕ) → f n ≡ true) → select f l ≡ l
unfolding select
select_all f [] h = refl
select_all f (n ∷ l) h = rw (h n) (ap (n ∷◌) (select_all f l h))

pub ordered_by_turn : (t to : ℕ) → ordered t 0 to ≡ in_turn t to
unfolding ordered
ordered_by_turn t to =
    ap₂ ◌++◌ (select-none (λ p. member p 0) (in_turn t to) none_in)
    (select_all (λ p. not (member p 0)) (in_turn t to) (λ p. ap not (none_in p)))

one_listed : (i : ℕ) → i < 8 → listed (only (suc i)) ≡ suc i ∷ []
unfolding same listed select only those bits participants member
one_listed i h =
    same_list _ _ (true_of _ (below_at 8 (λ i. same (listed (only (suc i))) (suc i ∷ [])) tt i h))

one_alone : (p : ℕ) → Numbered p → listed (only p) ≡ p ∷ []
one_alone p h =
    let e : p ≡ suc (p - 1) = omega (arith, h.0) in
    subst (λ (q : ℕ). listed (only q) ≡ q ∷ []) (sym e) (one_listed (p - 1) (omega (arith, h.0, h.1)))

-- one in either part is one, whichever part is first
one_swapped : (xs ys : List ℕ) (p : ℕ) → xs ++ ys ≡ p ∷ [] → ys ++ xs ≡ p ∷ []
one_swapped [] ys p e = append-nil ys ∙ e
one_swapped (x ∷ []) [] p e = e
one_swapped (x ∷ []) (y ∷ ys) p e = cc
one_swapped (x ∷ z ∷ xs) ys p e = cc

one_in_turn : (t p : ℕ) → Numbered p → in_turn t (only p) ≡ p ∷ []
unfolding in_turn round
one_in_turn t p h =
    select-append (λ q. member q (only p)) (drop t participants) (take t participants)
    ∙ one_swapped (select (λ q. member q (only p)) (take t participants)) (select (λ q. member q (only p)) (drop t participants)) p
    (sym (select-append (λ q. member q (only p)) (take t participants) (drop t participants))
    ∙ ap (select (λ q. member q (only p))) (take-append-drop t participants)
    ∙ unfold listed in one_alone p h)

pub ordered_one : (t first p : ℕ) → Numbered p → ordered t first (only p) ≡ p ∷ []
unfolding ordered select
ordered_one t first p h = rw (one_in_turn t p h) (by (member p first) refl)
  where
    by : (b : Bool) → member p first ≡ b → (select (λ q. member q first) (p ∷ []) ++ select (λ q. not (member q first)) (p ∷ [])) ≡ p ∷ []
    by true e = rw e refl
    by false e = rw e refl

-- a member of a mask of a byte is a participant
pub member_numbered : (p m : ℕ) → m < 256 → member p m ≡ true → Numbered p
member_numbered p m h e = numbered p (member-participant p m h e)

-- ---- messages by kind

-- a kind is in range, and its message is the one with that kind
pub kind_known : (m : Message) → (leb (message_kind m) 7 ≡ true) × (get_or messages (message_kind m) prepare ≡ m)
unfolding message_kind messages
kind_known prepare = (refl, refl)
kind_known vote_yes = (refl, refl)
kind_known vote_no = (refl, refl)
kind_known read_only = (refl, refl)
kind_known (tell commit) = (refl, refl)
kind_known (tell abort) = (refl, refl)
kind_known (ack commit) = (refl, refl)
kind_known (ack abort) = (refl, refl)

pub sending-kind : (t : ℕ) (m : Message) (first to : ℕ) → sending t (message_kind m) first to ≡ map (send m) (ordered t first to)
unfolding sending given
sending-kind t m first to = rw ((kind_known m).0, (kind_known m).1)

-- ---- a participant's own message

pub own_sent : (t : ℕ) (m : Message) (p : ℕ) → Numbered p → sending t (message_kind m) 0 (only p) ≡ send m p ∷ []
own_sent t m p h = sending-kind t m 0 (only p) ∙ ap (map (send m)) (ordered_one t 0 p h)

pub own_sent_if : (t : ℕ) (m : Message) (p : ℕ) (b : Bool) → Numbered p → sending t (message_kind m) 0 (cond b (only p) 0) ≡ given b (send m p ∷ [])
unfolding given
own_sent_if t m p true h = own_sent t m p h
own_sent_if t m p false h = sending-kind t m 0 0 ∙ ap (map (send m)) (ordered-none t 0)

-- by its number
pub number-sent : (t kind p : ℕ) → kind ≤ 7 → Numbered p → sending t kind 0 (only p) ≡ send (get_or messages kind prepare) p ∷ []
unfolding sending given
number-sent t kind p k h = rw (le-leb kind 7 k, ordered_one t 0 p h)
