-- The marks and the read-only votes of a list of events: their bytes, and that what the run stores as marked is what was marked.
use Prim.Native.Nat.{ℕ, suc, ◌≤◌, ◌<◌}
use mathlib.Core.Path.{◌≡◌, refl, sym, ap, ap₂, subst, ◌∙◌}
use mathlib.Core.Bool.{Bool, true, false, cond, ◌&&◌, ◌||◌, or-false, or_comm, and-true, and-false, true≢false, and-eq-true_iff}
use mathlib.Core.List.{List, [], ◌∷◌, ◌++◌}
use mathlib.Core.Option.{Option, none, some, none-ne-some}
use native.Mathlib.Omega.{arith}
use lib.ListN.{get_or, take}
use lib.Seq.{get_or-take}
use lib.Dec.{eqb}
use borrow.Author.Tests.{eq-eqb, ne_eqb, eqb-true}
use Rattle.codec.specs.Lists.{any, every, same}
use Rattle.codec.specs.Laws.Tests.{true_of, every_at, same_list}
use Rattle.site.specs.Presumption.{Outcome, commit, abort}
use Rattle.site.specs.Cohort.{Cohort}
use Rattle.site.specs.Step.{Message, prepare, vote_yes, vote_no, read_only, tell, ack, messages, message_kind}
use Rattle.joint.specs.State.{Run, fresh, at_transaction, update, with_marked, perform_all}
use Rattle.joint.specs.Event.{Event, opening, beginning, delivery, timeout, forcing, discarding, crash, restart, marking, event_of, cut_in_range, cut_at, cut_of, Parsed, parse}
use Rattle.joint.specs.Plan.{Plan, opened_as, plan}
use Rattle.joint.specs.Run.{Result, refuse, carry, cut_short, partly, event, after}
use Rattle.joint.specs.Safety.{steps, accepts, is_marking, marked}
use Rattle.joint.proofs.Base.Booleans.{is_false}
use Rattle.joint.proofs.Base.Lists.{any_append}
use Rattle.joint.proofs.Base.Ranges.{InRange, only-some, parse_range}
use Rattle.joint.proofs.Base.Bytes.{event_bytes}
use Rattle.joint.proofs.Base.History.{EventCase, refused, whole, cut, event_case, by_events, after_snoc}
use Rattle.joint.proofs.Base.Plans.{All, all_only}
use Rattle.joint.proofs.Base.Recorded.{Settles, plan_keeps, down_keeps, unsent, acts_keep}

-- ---- an event and its bytes

same_self : (m : List ℕ) → same m m ≡ true
unfolding same
same_self [] = refl
same_self (n ∷ m) = rw (eq-eqb n n refl) (same_self m)

same_numbers : (l m : List ℕ) → l ≡ m → same l m ≡ true
same_numbers l m e = ap (λ (k : List ℕ). same k m) e ∙ same_self m

-- of a delivery, and of a mark
pub delivery_bytes : (b : List ℕ) (x : Parsed) → parse b ≡ some x → (t p : ℕ) (m : Message) → x.event ≡ delivery t p m
    → same (take 4 b) (2 ∷ t ∷ p ∷ message_kind m ∷ []) ≡ true
delivery_bytes b x h t p m e = same_numbers _ _ (rw e at (event_bytes b x h))

kind-message : (m : Message) → get_or messages (message_kind m) prepare ≡ m
unfolding messages message_kind
kind-message prepare = refl
kind-message vote_yes = refl
kind-message vote_no = refl
kind-message read_only = refl
kind-message (tell commit) = refl
kind-message (tell abort) = refl
kind-message (ack commit) = refl
kind-message (ack abort) = refl

-- and back
pub bytes_delivery : (b : List ℕ) (x : Parsed) → parse b ≡ some x → (t p : ℕ) (m : Message) → same (take 4 b) (2 ∷ t ∷ p ∷ message_kind m ∷ []) ≡ true
    → (x.event ≡ delivery t p m) × (1 ≤ p)
unfolding parse event_of
bytes_delivery b x h t p m q =
    let made : x.event ≡ event_of (get_or b 0 0) (get_or b 1 0) (get_or b 2 0) (get_or b 3 0) = ap (λ (y : Parsed). y.event) (sym (only-some _ _ x h).1) in
    let d : x.event ≡ delivery t p (get_or messages (message_kind m) prepare) = simp (at 0 (omega arith), at 1 (omega arith), at 2 (omega arith), at 3 (omega arith)) at made in
    let e = d ∙ ap (delivery t p) (kind-message m) in
    (e, subst InRange e (parse_range b x h))
  where
    at : (i : ℕ) → i < 4 → get_or b i 0 ≡ get_or (2 ∷ t ∷ p ∷ message_kind m ∷ []) i 0
    at i k = sym (get_or-take 4 b i 0 k) ∙ ap (λ (l : List ℕ). get_or l i 0) (same_list _ _ q)

marking_bytes : (b : List ℕ) (x : Parsed) → parse b ≡ some x → (t p : ℕ) → x.event ≡ marking t p → same (take 3 b) (8 ∷ t ∷ p ∷ []) ≡ true
marking_bytes b x h t p e = same_numbers _ _ (rw e at (event_bytes b x h))

pub bytes_marking : (b : List ℕ) (x : Parsed) → parse b ≡ some x → (t p : ℕ) → same (take 3 b) (8 ∷ t ∷ p ∷ []) ≡ true → x.event ≡ marking t p
unfolding parse event_of
bytes_marking b x h t p q =
    let made : x.event ≡ event_of (get_or b 0 0) (get_or b 1 0) (get_or b 2 0) (get_or b 3 0) = ap (λ (y : Parsed). y.event) (sym (only-some _ _ x h).1) in
    simp (at 0 (omega arith), at 1 (omega arith), at 2 (omega arith)) at made
  where
    at : (i : ℕ) → i < 3 → get_or b i 0 ≡ get_or (8 ∷ t ∷ p ∷ []) i 0
    at i k = sym (get_or-take 3 b i 0 k) ∙ ap (λ (l : List ℕ). get_or l i 0) (same_list _ _ q)

-- ---- the events of a list

pub steps-append : (r : Run) (es later : List (List ℕ)) → steps r (es ++ later) ≡ steps r es ++ steps (after r es) later
unfolding steps after
steps-append r [] later = refl
steps-append r (x ∷ es) later = ap (λ (l : List (Run × List ℕ)). (r, x) ∷ l) (steps-append (event r x).run es later)

-- something that an event may be, at some event of the list or at one more
pub any_step : (f : Run × List ℕ → Bool) (es : List (List ℕ)) (e : List ℕ)
    → any f (steps fresh (es ++ (e ∷ []))) ≡ (any f (steps fresh es) || f (after fresh es, e))
any_step f es e =
    ap (any f) (steps-append fresh es (e ∷ [])) ∙ any_append f (steps fresh es) (steps (after fresh es) (e ∷ []))
    ∙ ap (λ (b : Bool). any f (steps fresh es) || b) (unfold steps any in or-false (f (after fresh es, e)))

-- ---- marks

-- only the codes 1, 2, 3 and 7 have a cut, and a crash is one
pub never_cut : (code : ℕ) → any (eqb code) (1 ∷ 2 ∷ 3 ∷ 7 ∷ []) ≡ false → eqb code 6 ≡ false
    → (b : List ℕ) (x : Parsed) → parse b ≡ some x → (n k : ℕ) → x.cut ≡ some (n, k) → get_or b 0 0 ≡ code → ⊥
unfolding parse cut_in_range cut_of cut_at
never_cut code uncut steady b x h n k c e =
    let q = only-some _ _ x h in
    let cuts = every_at _ q.0 2 in
    let whole : eqb (get_or b 4 0) 255 ≡ true = sym (or-false _) ∙ rw (e, uncut) at (every_at _ cuts 2) in
    let none-cut : x.cut ≡ none = sym (ap (λ (y : Parsed). y.cut) q.1) ∙ rw (e, steady, whole) refl in
    none-ne-some _ (sym none-cut ∙ c)

-- what holds of a plan, if there is one, says more
all_map : (P Q : Plan → Type 0) → ((q : Plan) → P q → Q q) → (o : Option Plan) → All P o → All Q o
all_map P Q f none h = tt
all_map P Q f (some q) h = f q h

-- an event is no mark
abbrev is_mark : Event → Bool
is_mark (opening t M C) = false
is_mark (beginning t) = false
is_mark (delivery t p m) = false
is_mark (timeout t s) = false
is_mark (forcing s) = false
is_mark (discarding t s) = false
is_mark (crash s) = false
is_mark (restart s) = false
is_mark (marking t p) = true

clash : {e : Event} {u q : ℕ} → e ≡ marking u q → is_mark e ≡ false → ⊥
clash h k = true≢false (sym (ap is_mark h) ∙ k)

module _ (t p : ℕ) where
  abbrev is_marked : Run → Bool
  is_marked r = (r.transaction t).marked p

  abbrev its_mark : Cohort → (ℕ → Bool) → Bool
  its_mark cohort marks = marks p

  abbrev of_marks : Cohort → (ℕ → Bool) → (ℕ → ℕ → Bool) → (ℕ → Outcome → Bool) → Bool
  of_marks = unsent t its_mark

  -- a mark, of p on t or another
  mark_settles : (u q : ℕ) (x : Run) → is_marked (at_transaction u (with_marked q) x) ≡ (is_marked x || (eqb t u && eqb p q))
  unfolding at_transaction update
  mark_settles u q x = go (eqb t u)
    where
      go : (b : Bool) → (cond b (with_marked q (x.transaction t)) (x.transaction t)).marked p ≡ (is_marked x || (b && eqb p q))
      go true = unfold with_marked in or_comm (eqb p q) (is_marked x)
      go false = sym (or-false (is_marked x))

  -- the event marks p on t
  abbrev marks_it : Event → Bool
  marks_it (opening u M C) = false
  marks_it (beginning u) = false
  marks_it (delivery u q m) = false
  marks_it (timeout u s) = false
  marks_it (forcing s) = false
  marks_it (discarding u s) = false
  marks_it (crash s) = false
  marks_it (restart s) = false
  marks_it (marking u q) = eqb t u && eqb p q

  marks_it_lem : (e : Event) → marks_it e ≡ true → e ≡ marking t p
  marks_it_lem (opening u M C) h = absurd (true≢false (sym h))
  marks_it_lem (beginning u) h = absurd (true≢false (sym h))
  marks_it_lem (delivery u q m) h = absurd (true≢false (sym h))
  marks_it_lem (timeout u s) h = absurd (true≢false (sym h))
  marks_it_lem (forcing s) h = absurd (true≢false (sym h))
  marks_it_lem (discarding u s) h = absurd (true≢false (sym h))
  marks_it_lem (crash s) h = absurd (true≢false (sym h))
  marks_it_lem (restart s) h = absurd (true≢false (sym h))
  marks_it_lem (marking u q) h =
      let k = (and-eq-true_iff (eqb t u) (eqb p q)).0 h in
      λ i. marking (sym (eqb-true t u k.0) i) (sym (eqb-true p q k.1) i)

  -- what settles at the end of an event: a mark, or none
  abbrev SettlesAs : Bool → Plan → Type 0
  SettlesAs b q = (x : Run) → is_marked (q.settle x) ≡ (is_marked x || b)

  unmarked : (r : Run) (e : Event) → ((u q : ℕ) → e ≡ marking u q → ⊥) → All (SettlesAs false) (plan r e)
  unmarked r e not-it = all_map (Settles t of_marks) (SettlesAs false) (λ q k x. k x ∙ sym (or-false (is_marked x))) (plan r e) (plan_keeps t of_marks r e (λ u M C h x. unfold opened_as in refl, λ u q h. absurd (not-it u q h)))

  plan_marks : (r : Run) (e : Event) → All (SettlesAs (marks_it e)) (plan r e)
  unfolding plan
  plan_marks r (opening u M C) = unmarked r (opening u M C) (λ u q h. clash h refl)
  plan_marks r (beginning u) = unmarked r (beginning u) (λ u q h. clash h refl)
  plan_marks r (delivery u q m) = unmarked r (delivery u q m) (λ u q h. clash h refl)
  plan_marks r (timeout u s) = unmarked r (timeout u s) (λ u q h. clash h refl)
  plan_marks r (forcing s) = unmarked r (forcing s) (λ u q h. clash h refl)
  plan_marks r (discarding u s) = unmarked r (discarding u s) (λ u q h. clash h refl)
  plan_marks r (crash s) = unmarked r (crash s) (λ u q h. clash h refl)
  plan_marks r (restart s) = unmarked r (restart s) (λ u q h. clash h refl)
  plan_marks r (marking u q) = all_only (SettlesAs (eqb t u && eqb p q)) _ _ (λ h. mark_settles u q)

  -- its bytes say so
  marks_bytes : (b : List ℕ) (x : Parsed) → parse b ≡ some x → marks_it x.event ≡ same (take 3 b) (8 ∷ t ∷ p ∷ [])
  marks_bytes b x h = go (same (take 3 b) (8 ∷ t ∷ p ∷ [])) refl
    where
      go : (c : Bool) → same (take 3 b) (8 ∷ t ∷ p ∷ []) ≡ c → marks_it x.event ≡ c
      go true e = ap marks_it (bytes_marking b x h t p e) ∙ ap₂ ◌&&◌ (eq-eqb t t refl) (eq-eqb p p refl)
      go false e =
          is_false (marks_it x.event)
          (λ k. true≢false (sym (marking_bytes b x h t p (marks_it_lem x.event (true_of _ k))) ∙ e))

  case_marked : (r : Run) (e : List ℕ) {z : Result} → EventCase r e z
      → is_marked z.run ≡ (is_marked r || every (same (take 3 e) (8 ∷ t ∷ p ∷ []) ∷ eqb z.answer 0 ∷ []))
  unfolding refuse carry cut_short partly every
  case_marked r e (refused n) = rw (ne_eqb (suc n) 0 (λ q. absurd (omega (arith, q)))) (sym (rw and-false (or-false (is_marked r))))
  case_marked r e (whole {x} {p = q} a c) =
      subst (All (SettlesAs (marks_it x.event))) a.planned (plan_marks r x.event) (perform_all q.site q.acts r)
      ∙ ap₂ ◌||◌ (acts_keep t its_mark q.site q.acts r) (marks_bytes e x a.parsed ∙ sym (and-true _))
  case_marked r e (cut {x} {p = q} n k a c h) =
      down_keeps t of_marks q.site k _ ∙ acts_keep t its_mark q.site (take n q.acts) r
      ∙ sym (ap (λ (b : Bool). is_marked r || b) (ap (λ (b : Bool). b && true) (not-cut (same (take 3 e) (8 ∷ t ∷ p ∷ [])) refl)) ∙ or-false (is_marked r))
    where
      -- a mark has no cut
      not-cut : (b : Bool) → same (take 3 e) (8 ∷ t ∷ p ∷ []) ≡ b → same (take 3 e) (8 ∷ t ∷ p ∷ []) ≡ false
      not-cut false w = w
      not-cut true w = absurd (never_cut 8 (unfold any in refl) refl e x a.parsed n k c (sym (get_or-take 3 e 0 0 (omega arith)) ∙ ap (λ (l : List ℕ). get_or l 0 0) (same_list _ _ w)))

  pub event-marked : (r : Run) (e : List ℕ) → is_marked (event r e).run ≡ (is_marked r || is_marking t p (r, e))
  unfolding is_marking accepts
  event-marked r e = case_marked r e (event_case r e)

-- for every list of events
pub marks_happened : (es : List (List ℕ)) (t p : ℕ) → ((after fresh es).transaction t).marked p ≡ marked es t p
unfolding marked
marks_happened es t p =
    by_events (λ es. ((after fresh es).transaction t).marked p ≡ any (is_marking t p) (steps fresh es))
    (unfold after steps any fresh in refl)
    (λ es e h.
    ap (λ (r : Run). (r.transaction t).marked p) (after_snoc fresh es e)
    ∙ event-marked t p (after fresh es) e
    ∙ ap (λ (b : Bool). b || is_marking t p (after fresh es, e)) h
    ∙ sym (any_step (is_marking t p) es e)) es
