-- Messages sent to a list of participants, and who is in it.
use Prim.Native.Nat.{ℕ, suc, ◌+◌, ◌-◌, ◌≤◌, ◌<◌}
use mathlib.Core.Path.{◌≡◌, refl, sym, ap, ◌∙◌}
use mathlib.Core.Bool.{Bool, true, false, cond, not, ◌&&◌, ◌||◌, and-true, and-false}
use mathlib.Core.List.{List, [], ◌∷◌, ◌++◌, map}
use lib.ListN.{length, length-append}
use lib.Dec.{eqb}
use native.Mathlib.Omega.{arith}
use borrow.Author.Tests.{eqb-true, ne_eqb}
use Rattle.codec.specs.Lists.{select, any}
use Rattle.codec.specs.Sets.{participants, member, listed}
use Rattle.codec.specs.Laws.Tests.{true_of, below_at}
use Rattle.codec.specs.Laws.Members.{numbered, member-participant}
use Rattle.site.specs.Step.{Message, message_kind, send}
use Rattle.site.specs.Coordinator.{in_turn, ordered}
use Rattle.site.specs.Laws.Lists.{select-append}
use Rattle.site.specs.Laws.Order.{in_turn_adds, order_adds}
use Rattle.joint.specs.State.{Transaction, with_sent}
use Rattle.joint.specs.Laws.Effects.{transaction_after}

-- sent one after the other, by those in a list
among : (a b c d : Bool) → ((b && c) || ((a && c) || d)) ≡ (((a || b) && c) || d)
among true true true d = refl
among true true false d = refl
among true false true d = refl
among true false false d = refl
among false true true d = refl
among false true false d = refl
among false false c d = refl

pub sent-each : (s : ℕ) (m : Message) (ps : List ℕ) (x : Transaction)
    → transaction_after s (map (send m) ps) x
    ≡ record { cohort = x.cohort; coordinator = x.coordinator; participant = x.participant; marked = x.marked; sent = λ q j. (any (eqb q) ps && eqb j (message_kind m)) || x.sent q j; entered = x.entered }
unfolding transaction_after any with_sent
sent-each s m [] x = refl
sent-each s m (p ∷ ps) x =
    sent-each s m ps (with_sent p (message_kind m) x)
    ∙ (λ i. record { cohort = x.cohort; coordinator = x.coordinator; participant = x.participant; marked = x.marked; sent = λ q j. among (eqb q p) (any (eqb q) ps) (eqb j (message_kind m)) (x.sent q j) i; entered = x.entered })

-- who is among those of a list that pass a test passes it
any_select : (q : ℕ) (f : ℕ → Bool) (l : List ℕ) → any (eqb q) (select f l) ≡ (any (eqb q) l && f q)
unfolding any select
any_select q f [] = refl
any_select q f (x ∷ l) = by (f x) refl (eqb q x) refl (any_select q f l)
  where
    by : (b : Bool) → f x ≡ b → (e : Bool) → eqb q x ≡ e → any (eqb q) (select f l) ≡ (any (eqb q) l && f q)
        → any (eqb q) (cond b (x ∷ select f l) (select f l)) ≡ ((e || any (eqb q) l) && f q)
    by true p true h i = rw h (sym (ap f (eqb-true q x h) ∙ p))
    by true p false h i = rw h i
    by false p true h i = i ∙ rw (ap f (eqb-true q x h) ∙ p) (and-false (any (eqb q) l))
    by false p false h i = i

is_one : (q : ℕ) → (1 ≤ q) × (q ≤ 8) → any (eqb q) participants ≡ true
unfolding participants any
is_one q r =
    let e : q - 1 + 1 ≡ q = omega (arith, r.0) in
    rw e at (true_of (any (eqb (q - 1 + 1)) participants) (below_at 8 (λ i. any (eqb (i + 1)) participants) tt (q - 1) (omega (arith, r.0, r.1))))

pub any_listed : (q to : ℕ) → to < 256 → any (eqb q) (listed to) ≡ member q to
unfolding listed
any_listed q to h = any_select q (λ p. member p to) participants ∙ by (member q to) refl
  where
    by : (b : Bool) → member q to ≡ b → (any (eqb q) participants && b) ≡ b
    by false e = and-false (any (eqb q) participants)
    by true e = and-true (any (eqb q) participants) ∙ is_one q (numbered q (member-participant q to h e))

-- some pass a test: as many as are chosen by it
any_counted : (f : ℕ → Bool) (l : List ℕ) → any f l ≡ not (eqb (length (select f l)) 0)
unfolding any select
any_counted f [] = refl
any_counted f (x ∷ l) = by (f x) (any_counted f l)
  where
    by : (b : Bool) → any f l ≡ not (eqb (length (select f l)) 0) → (b || any f l) ≡ not (eqb (length (cond b (x ∷ select f l) (select f l))) 0)
    by true e = rw (ne_eqb (suc (length (select f l))) 0 (λ z. absurd (omega (arith, z)))) refl
    by false e = e

-- a list that has each as often as the members of a mask
any_as : (q to : ℕ) → to < 256 → (l : List ℕ) → length (select (eqb q) l) ≡ length (select (eqb q) (listed to)) → any (eqb q) l ≡ member q to
any_as q to h l e = any_counted (eqb q) l ∙ ap (λ (n : ℕ). not (eqb n 0)) e ∙ sym (any_counted (eqb q) (listed to)) ∙ any_listed q to h

counts_add : (q : ℕ) (l m : List ℕ) → length (select (eqb q) (l ++ m)) ≡ length (select (eqb q) l) + length (select (eqb q) m)
counts_add q l m = rw (select-append, length-append) refl

-- the members of a mask in turn, and those first that go first
pub any_turn : (t q to : ℕ) → to < 256 → any (eqb q) (in_turn t to) ≡ member q to
any_turn t q to h = any_as q to h (in_turn t to) (in_turn_adds (λ l. length (select (eqb q) l)) (counts_add q) t to)

pub any_ordered : (t q first to : ℕ) → to < 256 → any (eqb q) (ordered t first to) ≡ member q to
any_ordered t q first to h = any_as q to h (ordered t first to) (order_adds (λ l. length (select (eqb q) l)) (counts_add q) t first to)
