-- Before a transaction is opened its own events cost nothing.
use Prim.Native.Nat.{ℕ, zero, suc}
use mathlib.Core.Path.{◌≡◌, refl, sym, ap, ◌∙◌}
use mathlib.Core.Bool.{Bool, true, false, cond, true≢false}
use mathlib.Core.List.{List, [], ◌∷◌, ◌++◌}
use mathlib.Core.Option.{some, some-injective}
use native.Mathlib.Omega.{arith}
use lib.ListN.{take}
use lib.Dec.{eqb}
use borrow.Author.Tests.{eqb-true}
use Rattle.codec.specs.Lists.{select, first}
use Rattle.codec.specs.Laws.Tests.{true_of}
use Rattle.joint.specs.State.{Run, Act, fresh, opened}
use Rattle.joint.specs.Event.{Event, opening, beginning, delivery, timeout, forcing, discarding, crash, restart, marking}
use Rattle.joint.specs.Refusals.{refusals}
use Rattle.joint.specs.Plan.{Plan, plan}
use Rattle.joint.specs.Run.{Result, refuse, carry, cut_short, event, after, answers, answer_of, count}
use Rattle.joint.specs.Bill.{is_own, own_answers, add_up}
use Rattle.joint.proofs.Base.Booleans.{is_false}
use Rattle.joint.proofs.Base.Bytes.{bytes_of}
use Rattle.joint.proofs.Base.History.{EventCase, refused, whole, cut, event_case, after_snoc}
use Rattle.joint.proofs.View.Events.{was_opened}
use Rattle.joint.proofs.Clean.Stages.{Item, records, forces, sends, of_bill, of_answer}
use Rattle.joint.proofs.Clean.Others.{concerns}
use Rattle.joint.proofs.Clean.OwnBytes.{own_bytes}
use Rattle.joint.proofs.Clean.Runs.{Reached, reached_next, add_if}
use Rattle.joint.proofs.Clean.Opens.{opened_later}

-- an event without effects
pub no_acts : (i : Item) (z : Result) → z.acts ≡ [] → of_answer i (answer_of z) ≡ 0
unfolding answer_of count select
no_acts records z e = rw e refl
no_acts forces z e = rw e refl
no_acts sends z e = rw e refl

module _ (t : ℕ) where
  -- ---- one event of t

  module _ (r : Run) (unopened : opened r t ≡ false) where
    never : (u : ℕ) → eqb u t ≡ true → opened r u ≡ true → ⊥
    never u own o = true≢false (sym o ∙ ap (opened r) (eqb-true u t own) ∙ unopened)

    idle_acts : (e : Event) → concerns t e ≡ true → first (refusals r e) ≡ 0 → (p : Plan) → plan r e ≡ some p → p.acts ≡ []
    unfolding refusals plan
    idle_acts (opening u M C) own h p e = ap (λ (q : Plan). q.acts) (sym (some-injective _ _ e))
    idle_acts (beginning u) own h p e = absurd (never u own (was_opened r u _ h))
    idle_acts (delivery u q m) own h p e = absurd (never u own (was_opened r u _ h))
    idle_acts (timeout u s) own h p e = absurd (never u own (was_opened r u _ h))
    idle_acts (forcing s) own h p e = absurd (true≢false (sym own))
    idle_acts (discarding u s) own h p e = absurd (never u own (was_opened r u _ h))
    idle_acts (crash s) own h p e = absurd (true≢false (sym own))
    idle_acts (restart s) own h p e = absurd (true≢false (sym own))
    idle_acts (marking u q) own h p e = absurd (never u own (was_opened r u _ h))

    case_acts : (b : List ℕ) → is_own t b ≡ true → {z : Result} → EventCase r b z → z.acts ≡ []
    unfolding refuse carry cut_short
    case_acts b own (refused n) = refl
    case_acts b own (whole {x} {p} a c) = idle_acts x.event (sym (own_bytes t (bytes_of b x a.parsed)) ∙ own) a.passed p a.planned
    case_acts b own (cut {x} {p} n k a c h) =
        ap (take n) (idle_acts x.event (sym (own_bytes t (bytes_of b x a.parsed)) ∙ own) a.passed p a.planned) ∙ take_none n
      where
        take_none : (n : ℕ) → take {A = Act} n [] ≡ []
        take_none zero = refl
        take_none (suc n) = refl

    own_free : (i : Item) (b : List ℕ) → cond (is_own t b) (of_answer i (answer_of (event r b))) 0 ≡ 0
    own_free i b = go (is_own t b) refl
      where
        go : (c : Bool) → is_own t b ≡ c → cond c (of_answer i (answer_of (event r b))) 0 ≡ 0
        go true own = no_acts i (event r b) (case_acts b own (event_case r b))
        go false own = refl

  -- ---- the events before the opening

  opened_next : (r : Run) → Reached r → (e : List ℕ) → opened r t ≡ true → opened (event r e).run t ≡ true
  opened_next r (es, p) e o =
      ap (λ (x : Run). opened (event x e).run t) (sym p) ∙ ap (λ (x : Run). opened x t) (sym (after_snoc fresh es e)) ∙ opened_later t es e (ap (λ (x : Run). opened x t) p ∙ o)

  unopened-first : (es : List (List ℕ)) (r : Run) → Reached r → opened (after r es) t ≡ false → opened r t ≡ false
  unfolding after
  unopened-first [] r reached h = h
  unopened-first (e ∷ es) r reached h =
      is_false (opened r t)
      (λ k. true≢false (sym (opened_next r reached e (true_of _ k)) ∙ unopened-first es (event r e).run (reached_next r reached e) h))

  pub free_before : (i : Item) (es later : List (List ℕ)) (r : Run) → Reached r → opened (after r es) t ≡ false
      → of_bill i (add_up (own_answers t (es ++ later) (answers r (es ++ later)))) ≡ of_bill i (add_up (own_answers t later (answers (after r es) later)))
  unfolding after answers own_answers
  free_before i [] later r reached h = refl
  free_before i (e ∷ es) later r reached h =
      add_if i (is_own t e) (answer_of (event r e)) _
      ∙ omega (arith, own_free r (unopened-first (e ∷ es) r reached h) i e)
      ∙ free_before i es later (event r e).run (reached_next r reached e) h
