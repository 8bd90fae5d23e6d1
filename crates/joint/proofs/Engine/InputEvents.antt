-- Begin, a message and a timer, by what they ask of a site: their refusals, their plan, and who receives what.
use Prim.Native.Nat.{ℕ, zero, suc, ◌≤◌}
use mathlib.Core.Path.{◌≡◌, refl, sym, ap, ◌∙◌, subst}
use mathlib.Core.Bool.{Bool, true, false, cond, not, ◌&&◌, or-true}
use lib.ListN.{get_or}
use lib.Dec.{eqb, leb, eqb→eq}
use native.Mathlib.Omega.{arith}
use borrow.Author.Tests.{ne_eqb, le-leb, lt-leb, not-false}
use Rattle.codec.specs.Lists.{any, first}
use Rattle.codec.specs.Sets.{member, empty}
use Rattle.codec.specs.Laws.Tests.{below_at, alike, alike_eq}
use Rattle.site.specs.Step.{messages, prepare, message_kind}
use Rattle.site.specs.Numbers.{input_of, kinds_received, receives}
use Rattle.joint.specs.State.{Run, Transaction, opened, takes_part}
use Rattle.joint.specs.Event.{Event}
use Rattle.joint.specs.Refusals.{unopened, stranger, is_down, refusals}
use Rattle.joint.specs.Plan.{plan}
use Rattle.joint.proofs.Engine.Inputs.{inward, goes_to}
use Rattle.joint.specs.Inside.{MayReceive, Asks, begins, delivers, times, upon_input, unready}

-- ---- tests of refusals

pub not-not : (b : Bool) → not (not b) ≡ b
not-not true = refl
not-not false = refl

-- the first that strikes of 3, 4, 5 and 7: unopened, no part, down, never sent
abbrev pub struck : Bool → Bool → Bool → Bool → ℕ
struck a b c d = cond a 3 (cond b 4 (cond c 5 (cond d 7 0)))

-- where one of 3 to 5 strikes, and where none does
pub struck_first : (a b c d : Bool) (n : ℕ) → struck a b c false ≡ suc n → struck a b c d ≡ suc n
struck_first true b c d n e = e
struck_first false true c d n e = e
struck_first false false true d n e = e
struck_first false false false d n e = absurd (omega (arith, e))

pub struck_next : (a b c d : Bool) → struck a b c false ≡ 0 → struck a b c d ≡ cond d 7 0
struck_next true b c d e = absurd (omega (arith, e))
struck_next false true c d e = absurd (omega (arith, e))
struck_next false false true d e = absurd (omega (arith, e))
struck_next false false false d e = refl

abbrev pub input_struck : Run → ℕ → ℕ → ℕ → ℕ → ℕ
input_struck r t s kind p =
    let x = r.transaction t in
    struck (empty x.cohort.members) (not (takes_part x p)) (not (r.site s).up) (leb kind 7 && not (x.sent p kind))

-- ---- messages, by kind

message_of : (kind : ℕ) → kind ≤ 7 → message_kind (get_or messages kind prepare) ≡ kind
unfolding message_kind messages
message_of kind h = eqb→eq _ _ (below_at 8 (λ kind. eqb (message_kind (get_or messages kind prepare)) kind) tt kind (omega (arith, h)))

participant-receives : (kind : ℕ) → kind ≤ 7 → receives 1 kind ≡ not (inward kind)
unfolding receives kinds_received any
participant-receives kind h = alike_eq _ _ (below_at 8 (λ kind. alike (receives 1 kind) (not (inward kind))) tt kind (omega (arith, h)))

coordinator-receives : (kind : ℕ) → kind ≤ 7 → receives 0 kind ≡ inward kind
unfolding receives kinds_received any
coordinator-receives kind h = alike_eq _ _ (below_at 8 (λ kind. alike (receives 0 kind) (inward kind)) tt kind (omega (arith, h)))

-- ---- the three events

module _ (r : Run) where
  pub input_plan : {e : Event} {t s kind p : ℕ} → Asks e t s kind p → plan r e ≡ upon_input r t s kind p
  unfolding plan upon_input input_of
  input_plan (begins t) = refl
  input_plan (delivers t kind p h l) =
      rw (lt-leb 16 kind (omega (arith, h)), ne_eqb kind 16 (omega (arith, h)), ne_eqb kind 17 (omega (arith, h))) refl
  input_plan (times t s) = refl

  pub input_struck_lem : {e : Event} {t s kind p : ℕ} → Asks e t s kind p → first (refusals r e) ≡ input_struck r t s kind p
  unfolding refusals first unopened opened is_down stranger takes_part
  input_struck_lem (begins t) = ap (λ b. cond b 3 (cond (not (r.site 0).up) 5 0)) (not-not (empty (r.transaction t).cohort.members))
  input_struck_lem (delivers t kind p h l) =
      rw (not-not (empty (r.transaction t).cohort.members), message_of kind h, le-leb kind 7 h) refl
  input_struck_lem (times t s) =
      rw (not-not (empty (r.transaction t).cohort.members)) refl

-- a participant receives its own messages, the coordinator those of members
part-member : (x : Transaction) (p : ℕ) → 1 ≤ p → not (takes_part x p) ≡ false → member p x.cohort.members ≡ true
unfolding takes_part
part-member x zero l e = absurd (omega (arith, l))
part-member x (suc n) l e = not-false (member (suc n) x.cohort.members) e

to_itself : (x : Transaction) (p kind : ℕ) → 1 ≤ p → receives 1 kind ≡ true → MayReceive x p kind p
unfolding MayReceive
to_itself x zero kind l e = absurd (omega (arith, l))
to_itself x (suc n) kind l e = (refl, e)

from_member : (x : Transaction) (p kind : ℕ) → receives 0 kind ≡ true → member p x.cohort.members ≡ true → MayReceive x 0 kind p
unfolding MayReceive
from_member x p kind e m = rw (e, m) (or-true (leb 16 kind))

timed : (x : Transaction) (s : ℕ) → MayReceive x s 17 s
unfolding MayReceive receives kinds_received any
timed x zero = refl
timed x (suc n) = (refl, refl)

begun : (x : Transaction) → MayReceive x 0 16 0
unfolding MayReceive receives kinds_received any
begun x = refl

-- where none of 3 to 5 strikes
pub takes_its_part : (x : Transaction) (p : ℕ) (up : Bool) → unready x p up ≡ 0 → not (takes_part x p) ≡ false
takes_its_part x p up e = by (empty x.cohort.members) (not (takes_part x p)) (not up) e
  where
    by : (a b c : Bool) → ◌≡◌ {A = ℕ} (cond a 3 (cond b 4 (cond c 5 0))) 0 → b ≡ false
    by true b c e = absurd (omega (arith, e))
    by false true c e = absurd (omega (arith, e))
    by false false c e = refl

pub input_received : {e : Event} {t s kind p : ℕ} → Asks e t s kind p → (x : Transaction) → not (takes_part x p) ≡ false → MayReceive x s kind p
input_received (begins t) x q = begun x
input_received (times t s) x q = timed x s
input_received (delivers t kind p h l) x q = subst (λ (s : ℕ). MayReceive x s kind p) (sym (goes_to kind p (omega (arith, h)))) (by (inward kind) refl)
  where
    by : (b : Bool) → inward kind ≡ b → MayReceive x (cond b 0 p) kind p
    by true e = from_member x p kind (coordinator-receives kind h ∙ e) (part-member x p l q)
    by false e = to_itself x p kind l (participant-receives kind h ∙ ap not e)
