-- Openings: the transactions opened with a site are the accepted opens whose members name it.
use Prim.Native.Nat.{ℕ, suc, ◌+◌, ◌≤◌, ◌<◌}
use mathlib.Core.Path.{◌≡◌, refl, sym, ap, subst, ◌∙◌, fun_ext}
use mathlib.Core.Bool.{Bool, true, false, cond, not, ◌&&◌, ◌||◌, or-false, and-true, and-false, true≢false}
use mathlib.Core.List.{List, [], ◌∷◌, ◌++◌}
use mathlib.Core.Option.{some, some-injective}
use native.Mathlib.Omega.{arith}
use lib.ListN.{length, get_or, take, length-append}
use lib.Seq.{get_or-take}
use lib.Dec.{eqb}
use borrow.Author.Tests.{ne_eqb, eqb-true}
use Rattle.codec.specs.Lists.{select, any, every, same}
use Rattle.codec.specs.Sets.{empty, listed}
use Rattle.codec.specs.Laws.Tests.{every_at, same_list}
use Rattle.site.specs.Cohort.{Cohort}
use Rattle.joint.specs.State.{Run, fresh, update, at_transaction, names, opened, takes_part, with_marked, perform_all}
use Rattle.joint.specs.Event.{opening, event_of, Parsed, parse}
use Rattle.joint.specs.Refusals.{is_down, refusals}
use Rattle.joint.specs.Plan.{Plan, settling, opened_as, transactions, plan}
use Rattle.joint.specs.Run.{Result, refuse, carry, cut_short, partly, event, after}
use Rattle.joint.specs.Safety.{steps, accepts}
use Rattle.joint.specs.Totals.{is_opening_with, openings_with}
use Rattle.joint.specs.Answers.{handovers_in}
use Rattle.joint.specs.Laws.Numbered.{once}
use Rattle.site.specs.Laws.Lists.{select-append}
use Rattle.joint.proofs.Base.Lists.{select_length}
use Rattle.joint.proofs.Base.Ranges.{only-some, parse_range}
use Rattle.joint.proofs.Base.History.{Accepted, EventCase, refused, whole, cut, event_case, by_events, after_snoc}
use Rattle.joint.proofs.Base.Plans.{All, not_struck}
use Rattle.joint.proofs.Base.Recorded.{Settles, plan_keeps, down_keeps, unsent, acts_keep}
use Rattle.joint.proofs.Base.Bytes.{event_bytes}
use Rattle.joint.proofs.Base.Looked.{never_cut, steps-append}

-- ---- an opening and its bytes

-- the first byte is 0
abbrev opens : List ℕ → Bool
opens b = same (take 1 b) (0 ∷ [])

opens-code : (b : List ℕ) → opens b ≡ true → get_or b 0 0 ≡ 0
opens-code b h = sym (get_or-take 1 b 0 0 (omega arith)) ∙ ap (λ (l : List ℕ). get_or l 0 0) (same_list _ _ h)

opening_of : (b : List ℕ) (x : Parsed) → parse b ≡ some x → opens b ≡ true → x.event ≡ opening (get_or b 1 0) (get_or b 2 0) (get_or b 3 0)
unfolding parse event_of
opening_of b x h o =
    let made : x.event ≡ event_of (get_or b 0 0) (get_or b 1 0) (get_or b 2 0) (get_or b 3 0) = ap (λ (y : Parsed). y.event) (sym (only-some _ _ x h).1) in
    rw (opens-code b o) at made

opening-opens : (b : List ℕ) (x : Parsed) → parse b ≡ some x → (u M C : ℕ) → x.event ≡ opening u M C → opens b ≡ true
unfolding same
opening-opens b x h u M C e = go b (rw e at (event_bytes b x h))
  where
    go : (b : List ℕ) → take 4 b ≡ 0 ∷ u ∷ M ∷ C ∷ [] → opens b ≡ true
    go [] q = absurd (omega (arith, ap length q))
    go (n ∷ b) q = rw (ap (λ (l : List ℕ). get_or l 0 1) q) refl

-- where it is accepted: its transaction is one of eight and was not opened, and there are members
opening_facts : (r : Run) (e : List ℕ) {x : Parsed} {q : Plan} → Accepted r e x q → opens e ≡ true → (get_or e 1 0 < 8) × (opened r (get_or e 1 0) ≡ false) × (get_or e 2 0 ≡ 0 → ⊥)
unfolding refusals
opening_facts r e {x} a o =
    let h = opening_of e x a.parsed o in
    let range = rw h at (parse_range e x a.parsed) in (
      range.0,
      (not_struck 1 (opened r (get_or e 1 0)) ((5, any (is_down r) (0 ∷ listed (get_or e 2 0))) ∷ []) (rw h at a.passed)).0,
      λ z. absurd (omega (arith, range, z)),
    )

was_unopened : (s : ℕ) (r : Run) (e : List ℕ) → is_opening_with s (r, e) ≡ true → (get_or e 1 0 < 8) × (opened r (get_or e 1 0) ≡ false)
unfolding is_opening_with accepts
was_unopened s r e h = go (event_case r e) (eqb-true _ _ (every_at _ h 2))
  where
    o : opens e ≡ true
    o = every_at _ h 0

    go : {z : Result} → EventCase r e z → z.answer ≡ 0 → (get_or e 1 0 < 8) × (opened r (get_or e 1 0) ≡ false)
    go (refused n) k = absurd (unfold refuse in omega (arith, k))
    go (whole a c) k = let f = opening_facts r e a o in (f.0, f.1)
    go (cut {x} n k a c j) q = absurd (never_cut 0 (unfold any in refl) refl e x a.parsed n k c (opens-code e o))

-- ---- one transaction: opened with site s

module _ (s t : ℕ) where
  abbrev with_site : Cohort → (ℕ → Bool) → Bool
  with_site g marked = not (empty g.members) && names g.members s

  abbrev is_with : Run → Bool
  is_with r = with_site (r.transaction t).cohort (r.transaction t).marked

  -- an opening of transaction u, which was not opened before, is accepted
  opening_with : (r : Run) (u M C : ℕ) → (M ≡ 0 → ⊥) → opened r u ≡ false
      → is_with (at_transaction u (opened_as (record { members = M; presume_commit = C })) r) ≡ (is_with r || (names M s && eqb t u))
  unfolding at_transaction update opened_as opened empty
  opening_with r u M C some-members unopened = go (eqb t u) refl
    where
      go : (b : Bool) → eqb t u ≡ b
          → with_site (cond b (opened_as (record { members = M; presume_commit = C }) (r.transaction t)) (r.transaction t)).cohort (r.transaction t).marked ≡ (is_with r || (names M s && b))
      go true q = rw (eqb-true t u q, unopened, ne_eqb M 0 some-members, and-true) refl
      go false q = rw (and-false (names M s)) (sym (or-false (is_with r)))

  kept : (r : Run) (e : List ℕ) {x : Parsed} {q : Plan} → Accepted r e x q → opens e ≡ false → is_with (q.settle (perform_all q.site q.acts r)) ≡ is_with r
  kept r e {x} {q} a o =
      subst (All (Settles t (unsent t with_site))) a.planned
      (plan_keeps t (unsent t with_site) r x.event (λ u M C h. absurd (true≢false (sym (opening-opens e x a.parsed u M C h) ∙ o)), λ u p h y. unfold with_marked in refl))
      (perform_all q.site q.acts r)
      ∙ acts_keep t with_site q.site q.acts r

  set : (r : Run) (e : List ℕ) {x : Parsed} {q : Plan} → Accepted r e x q → opens e ≡ true
      → is_with (q.settle (perform_all q.site q.acts r)) ≡ (is_with r || (names (get_or e 2 0) s && eqb t (get_or e 1 0)))
  unfolding plan perform_all
  set r e {x} {q} a o =
      let h = opening_of e x a.parsed o in
      let facts = opening_facts r e a o in
      let made : settling 0 (at_transaction (get_or e 1 0) (opened_as (record { members = get_or e 2 0; presume_commit = get_or e 3 0 }))) ≡ q = some-injective _ q (rw h at a.planned) in
      subst (λ (q : Plan). is_with (q.settle (perform_all q.site q.acts r)) ≡ (is_with r || (names (get_or e 2 0) s && eqb t (get_or e 1 0)))) made
      (opening_with r (get_or e 1 0) (get_or e 2 0) (get_or e 3 0) facts.2 facts.1)

  -- an event that is accepted opens it with s, if it is an opening of t whose members name s
  abbrev Became : Run → List ℕ → Result → Bool → Type 0
  Became r e z b = is_with z.run ≡ (is_with r || (every (b ∷ names (get_or e 2 0) s ∷ eqb z.answer 0 ∷ []) && eqb t (get_or e 1 0)))

  case_with : (r : Run) (e : List ℕ) {z : Result} → EventCase r e z → (b : Bool) → opens e ≡ b → Became r e z b
  unfolding refuse carry cut_short partly every
  case_with r e (refused n) b o = rw (ne_eqb (suc n) 0 (λ q. absurd (omega (arith, q))), and-false, and-false) (sym (or-false (is_with r)))
  case_with r e (whole a c) true o = rw (and-true (names (get_or e 2 0) s)) (set r e a o)
  case_with r e (whole a c) false o = kept r e a o ∙ sym (or-false (is_with r))
  case_with r e (cut {x} n k a c h) true o = absurd (never_cut 0 (unfold any in refl) refl e x a.parsed n k c (opens-code e o))
  case_with r e (cut {p = q} n k a c h) false o =
      down_keeps t (unsent t with_site) q.site k _ ∙ acts_keep t with_site q.site (take n q.acts) r ∙ sym (or-false (is_with r))

  event_with : (r : Run) (e : List ℕ) → is_with (event r e).run ≡ (is_with r || (is_opening_with s (r, e) && eqb t (get_or e 1 0)))
  unfolding is_opening_with accepts
  event_with r e = case_with r e (event_case r e) (opens e) refl

-- ---- all transactions

-- one more passes a test: u, which did not
module _ (f : ℕ → Bool) (u : ℕ) (no : f u ≡ false) where
  abbrev or_this : ℕ → Bool
  or_this t = f t || eqb t u

  abbrev is_this : ℕ → Bool
  is_this t = eqb t u

  more_pass : (l : List ℕ) → length (select or_this l) ≡ length (select f l) + length (select is_this l)
  unfolding select
  more_pass [] = refl
  more_pass (x ∷ l) = by (more_pass l) (f x) refl (eqb x u) refl
    where
      by : length (select or_this l) ≡ length (select f l) + length (select is_this l) → (a : Bool) → f x ≡ a → (c : Bool) → eqb x u ≡ c
          → length (cond (a || c) (x ∷ select or_this l) (select or_this l)) ≡ length (cond a (x ∷ select f l) (select f l)) + length (cond c (x ∷ select is_this l) (select is_this l))
      by h true p true q = absurd (true≢false (sym p ∙ ap f (eqb-true x u q) ∙ no))
      by h true p false q = omega (arith, h)
      by h false p true q = omega (arith, h)
      by h false p false q = omega (arith, h)

-- there are eight at most
pub handovers-few : (r : Run) (s : ℕ) → handovers_in r s ≤ 8
unfolding handovers_in transactions
handovers-few r s = select_length (λ t. opened r t && takes_part (r.transaction t) s) transactions

event-handovers : (s : ℕ) (r : Run) (e : List ℕ) → handovers_in (event r e).run s ≡ handovers_in r s + cond (is_opening_with s (r, e)) 1 0
unfolding handovers_in opened takes_part
event-handovers s r e = ap (λ (f : ℕ → Bool). length (select f transactions)) (fun_ext (λ t. event_with s t r e)) ∙ go (is_opening_with s (r, e)) refl
  where
    go : (b : Bool) → is_opening_with s (r, e) ≡ b
        → length (select (λ t. is_with s t r || (b && eqb t (get_or e 1 0))) transactions) ≡ length (select (λ t. is_with s t r) transactions) + cond b 1 0
    go true h =
        let x = was_unopened s r e h in
        more_pass (λ t. is_with s t r) (get_or e 1 0) (rw x.1 refl) transactions ∙ ap (length (select (λ t. is_with s t r) transactions) +◌) (unfold transactions select in once transactions tt (get_or e 1 0) x.0)
    go false h = ap (λ (f : ℕ → Bool). length (select f transactions)) (fun_ext (λ t. or-false (is_with s t r))) ∙ omega arith

-- for every list of events
pub openings_counted : (es : List (List ℕ)) (s : ℕ) → handovers_in (after fresh es) s ≡ openings_with s (steps fresh es)
unfolding openings_with
openings_counted es s =
    by_events (λ es. handovers_in (after fresh es) s ≡ length (select (is_opening_with s) (steps fresh es)))
    (unfold after steps select fresh handovers_in opened empty transactions in refl)
    (λ es e h.
    ap (λ (r : Run). handovers_in r s) (after_snoc fresh es e)
    ∙ event-handovers s (after fresh es) e
    ∙ ap (◌+ cond (is_opening_with s (after fresh es, e)) 1 0) h
    ∙ sym (snoc es e)) es
  where
    one : (b : Bool) (x : Run × List ℕ) → length (cond b (x ∷ []) []) ≡ cond b 1 0
    one true x = refl
    one false x = refl

    snoc : (es : List (List ℕ)) (e : List ℕ)
        → length (select (is_opening_with s) (steps fresh (es ++ (e ∷ [])))) ≡ length (select (is_opening_with s) (steps fresh es)) + cond (is_opening_with s (after fresh es, e)) 1 0
    snoc es e =
        let f = is_opening_with s in
        ap length (ap (select f) (steps-append fresh es (e ∷ [])) ∙ select-append f (steps fresh es) (steps (after fresh es) (e ∷ [])))
        ∙ length-append (select f (steps fresh es)) (select f (steps (after fresh es) (e ∷ [])))
        ∙ ap (length (select f (steps fresh es)) +◌) (unfold steps select in one (f (after fresh es, e)) (after fresh es, e))
