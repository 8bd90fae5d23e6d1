-- Totals to the last one, for every list of events: the division loses no force, and the forces of the nine sites are those of the answers.
use Prim.Native.Nat.{ℕ, zero, suc, ◌+◌, ◌*◌, ◌≤◌, ◌<◌}
use mathlib.Core.Path.{◌≡◌, refl, sym, ap, ap₂, subst, ◌∙◌, fun_ext}
use mathlib.Core.Bool.{Bool, true, cond}
use mathlib.Core.List.{List, [], ◌∷◌, ◌++◌, map, map-append}
use mathlib.Core.Option.{Option, none, some}
use native.Mathlib.Nat.{mod-add-div', mod-lt, mul-one}
use native.Mathlib.Omega.{arith}
use lib.ListN.{get_or}
use borrow.Author.Tests.{leb-true}
use Rattle.codec.specs.Lists.{select}
use Rattle.codec.specs.Sets.{participants}
use Rattle.codec.specs.Laws.Tests.{every_at}
use Rattle.site.specs.Step.{Message, prepare, vote_yes, vote_no, read_only, tell, ack, receiver, coordinator_of, messages}
use Rattle.joint.specs.State.{Run, fresh}
use Rattle.joint.specs.Event.{event_of, ranges, bytes_in_range, Parsed, parse}
use Rattle.joint.specs.Run.{Answer, refuse, event_parsed, event, after, answers, answer_of, count}
use Rattle.joint.specs.Safety.{Moment, happened, history}
use Rattle.joint.specs.Totals.{highest, held, forces_at, totals_of, totals, sum, EveryTotal}
use Rattle.joint.specs.Laws.Numbered.{once}
use Rattle.joint.proofs.Base.Booleans.{eqb-sym}
use Rattle.joint.proofs.Base.Ranges.{only-some}
use Rattle.joint.proofs.Base.Sums.{sum-append, sum_one, sum_both, sum_at}
use Rattle.joint.proofs.Base.History.{by_events, answers_snoc, history-append, history_snoc}
use Rattle.joint.proofs.Base.Plans.{site_of}
use Rattle.joint.proofs.Base.Forces.{forces-append, none-forced, event-forces}

-- ---- the division

divided : (f n : ℕ) → let x = totals_of f n in x.forces ≡ x.quotient * x.handovers + x.remainder
unfolding totals_of
divided f zero = omega arith
divided f (suc n) = omega (arith, mod-add-div' f (suc n))

below : (f n : ℕ) → let x = totals_of f n in (x.handovers ≡ 0 → ⊥) → x.remainder < x.handovers
unfolding totals_of
below f zero h = absurd (h refl)
below f (suc n) h = mod-lt f (omega arith)

-- ---- a total at its highest value

forces_of : (f n : ℕ) → (totals_of f n).forces ≡ f
unfolding totals_of
forces_of f zero = refl
forces_of f (suc n) = refl

stays : (es later : List (List ℕ)) (s : ℕ) → (totals es s).forces ≡ highest → (totals (es ++ later) s).forces ≡ highest
unfolding totals held highest
stays es later s h =
    forces_of _ _
    ∙ omega (
      arith,
      sym (forces_of _ _) ∙ h,
      ap (forces_at s) (history-append fresh es later) ∙ forces-append s (history fresh es) (history (after fresh es) later),
    )

-- ---- an event happens at one of the sites 0 to 8

receiver_low : (m : Message) (p : ℕ) → p ≤ 8 → receiver m p ≤ 8
unfolding receiver coordinator_of
receiver_low prepare p h = h
receiver_low vote_yes p h = omega arith
receiver_low vote_no p h = omega arith
receiver_low read_only p h = omega arith
receiver_low (tell o) p h = h
receiver_low (ack o) p h = omega arith

code_low : (code x y z : ℕ) → bytes_in_range code x y z ≡ true → site_of (event_of code x y z) ≤ 8
unfolding event_of bytes_in_range ranges
code_low zero x y z h = omega arith
code_low (suc zero) x y z h = omega arith
code_low (suc (suc zero)) x y z h = receiver_low (get_or messages z prepare) y (leb-true y 8 (every_at _ h 3))
code_low (suc (suc (suc zero))) x y z h = leb-true y 8 (every_at _ h 3)
code_low (suc (suc (suc (suc zero)))) x y z h = leb-true y 8 (every_at _ h 3)
code_low (suc (suc (suc (suc (suc zero))))) x y z h = leb-true y 8 (every_at _ h 3)
code_low (suc (suc (suc (suc (suc (suc zero)))))) x y z h = leb-true y 8 (every_at _ h 3)
code_low (suc (suc (suc (suc (suc (suc (suc zero))))))) x y z h = leb-true y 8 (every_at _ h 3)
code_low (suc (suc (suc (suc (suc (suc (suc (suc zero)))))))) x y z h = leb-true y 8 (every_at _ h 3)
code_low (suc (suc (suc (suc (suc (suc (suc (suc (suc n))))))))) x y z h = absurd (omega (arith, leb-true (suc (suc (suc (suc (suc (suc (suc (suc (suc n))))))))) 8 (every_at _ h 0)))

event_low : (e : List ℕ) (p : Parsed) → parse e ≡ some p → site_of p.event ≤ 8
unfolding parse
event_low e p h =
    let q = only-some _ _ p h in
    subst (λ (x : Parsed). site_of x.event ≤ 8) q.1 (code_low _ _ _ _ (every_at _ q.0 1))

-- ---- the sites' forces

abbrev sites_of : List Moment → ℕ
sites_of h = sum (map (λ s. forces_at s h) (0 ∷ participants))

event-sum : (r : Run) (e : List ℕ) → sites_of (happened r e) ≡ (answer_of (event r e)).forces
unfolding event event_parsed refuse answer_of count select sum participants
event-sum r e = go (parse e) refl
  where
    go : (o : Option Parsed) → parse e ≡ o → sites_of (happened r e) ≡ (answer_of (event r e)).forces
    go none h =
        let unforced : (answer_of (event r e)).forces ≡ 0 = ap (λ (o : Option Parsed). (answer_of (event_parsed r o)).forces) h in
        ap (λ (f : ℕ → ℕ). sum (map f (0 ∷ participants))) (fun_ext (λ s. none-forced r e s unforced)) ∙ sym unforced
    go (some p) h =
        let n = (answer_of (event r e)).forces in
        ap (λ (f : ℕ → ℕ). sum (map f (0 ∷ participants))) (fun_ext (λ s. event-forces r e p h s ∙ ap (λ (b : Bool). cond b n 0) (eqb-sym (site_of p.event) s)))
        ∙ sum_at (site_of p.event) n (0 ∷ participants)
        ∙ ap (n *◌) (once (0 ∷ participants) tt (site_of p.event) (omega (arith, event_low e p h)))
        ∙ mul-one n

counted : (es : List (List ℕ)) → sum (map (λ a. a.forces) (answers fresh es)) ≡ sites_of (history fresh es)
counted =
    by_events (λ es. sum (map (λ a. a.forces) (answers fresh es)) ≡ sites_of (history fresh es))
    (unfold answers history sum forces_at select participants in refl)
    (λ es e h. more es e h)
  where
    more : (es : List (List ℕ)) (e : List ℕ) → sum (map (λ a. a.forces) (answers fresh es)) ≡ sites_of (history fresh es)
        → sum (map (λ a. a.forces) (answers fresh (es ++ (e ∷ [])))) ≡ sites_of (history fresh (es ++ (e ∷ [])))
    more es e h =
        let x = event (after fresh es) e in
        let old = history fresh es in
        let new = happened (after fresh es) e in
        ap (λ (l : List Answer). sum (map (λ a. a.forces) l)) (answers_snoc fresh es e)
        ∙ ap sum (map-append (λ (a : Answer). a.forces) (answers fresh es) (answer_of x ∷ []))
        ∙ sum-append (map (λ a. a.forces) (answers fresh es)) ((answer_of x).forces ∷ [])
        ∙ ap₂ ◌+◌ h (sum_one (answer_of x).forces ∙ sym (event-sum (after fresh es) e))
        ∙ sym (sum_both (λ s. forces_at s old) (λ s. forces_at s new) (0 ∷ participants))
        ∙ ap (λ (f : ℕ → ℕ). sum (map f (0 ∷ participants))) (fun_ext (λ s. sym (forces-append s old new) ∙ ap (forces_at s) (sym (history_snoc fresh es e))))

pub every_total : EveryTotal
unfolding totals
every_total es = record { divided = λ s. divided _ _; below = λ s. below _ _; stays = stays es; counted = counted es }
