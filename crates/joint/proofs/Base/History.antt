-- One event: refused, carried out whole, or cut; and one event more: what it adds to the run, to its history and to the runs passed through.
use Prim.Native.Nat.{ℕ, zero, suc}
use mathlib.Core.Path.{◌≡◌, refl, ap, ◌∙◌}
use mathlib.Core.Bool.{Bool, true, false, ◌||◌}
use mathlib.Core.List.{List, [], ◌∷◌, ◌++◌, map, append_assoc, append-nil}
use mathlib.Core.Option.{Option, none, some}
use native.Mathlib.Omega.{arith}
use Rattle.codec.specs.Lists.{any, first}
use Rattle.joint.specs.State.{Run, fresh}
use Rattle.joint.specs.Event.{Parsed, parse}
use Rattle.joint.specs.Refusals.{refusals}
use Rattle.joint.specs.Plan.{Plan, plan}
use Rattle.joint.specs.Run.{Result, refuse, can_cut, cut_short, carry, carry_plan, carry_unless, event_parsed, event, after, Answer, answer_of, answers}
use Rattle.joint.specs.Safety.{happened, history, leaves, along, commit_stable}
use Rattle.joint.proofs.Base.Lists.{any_append}

-- ---- one event: refused, carried out whole, or cut

-- the bytes are the event x, which no refusal of 1 to 8 strikes, with the plan p
pub record Accepted (r : Run) (bytes : List ℕ) (x : Parsed) (p : Plan) : Type 0 where
  pub parsed : parse bytes ≡ some x
  pub passed : first (refusals r x.event) ≡ 0
  pub planned : plan r x.event ≡ some p

pub data EventCase (r : Run) (bytes : List ℕ) : Result → Type 0 where
  refused : (n : ℕ) → EventCase r bytes (refuse r (suc n))
  whole : {x : Parsed} {p : Plan} → Accepted r bytes x p → x.cut ≡ none → EventCase r bytes (carry r p none)
  cut : {x : Parsed} {p : Plan} (n k : ℕ) → Accepted r bytes x p → x.cut ≡ some (n, k) → can_cut r p n k ≡ true → EventCase r bytes (cut_short true r p n k)

module _ (r : Run) (bytes : List ℕ) where
  of_cut : (x : Parsed) (p : Plan) → Accepted r bytes x p → (n k : ℕ) → x.cut ≡ some (n, k)
      → (b : Bool) → can_cut r p n k ≡ b → EventCase r bytes (cut_short b r p n k)
  unfolding cut_short
  of_cut x p a n k e true h = cut n k a e h
  of_cut x p a n k e false h = refused 8

  of_carry : (x : Parsed) (p : Plan) → Accepted r bytes x p → (c : Option (ℕ × ℕ)) → x.cut ≡ c → EventCase r bytes (carry r p c)
  unfolding carry
  of_carry x p a none e = whole a e
  of_carry x p a (some c) e = of_cut x p a c.0 c.1 e (can_cut r p c.0 c.1) refl

  of_plan : (x : Parsed) → parse bytes ≡ some x → first (refusals r x.event) ≡ 0 → (o : Option Plan)
      → plan r x.event ≡ o → EventCase r bytes (carry_plan r o x.cut)
  unfolding carry_plan
  of_plan x e f none g = refused 7
  of_plan x e f (some p) g = of_carry x p (record { parsed = e; passed = f; planned = g }) x.cut refl

  of_unless : (x : Parsed) → parse bytes ≡ some x → (n : ℕ) → first (refusals r x.event) ≡ n → EventCase r bytes (carry_unless n r x)
  unfolding carry_unless
  of_unless x e zero f = of_plan x e f (plan r x.event) refl
  of_unless x e (suc n) f = refused n

  of_parsed : (o : Option Parsed) → parse bytes ≡ o → EventCase r bytes (event_parsed r o)
  unfolding event_parsed
  of_parsed none e = refused 0
  of_parsed (some x) e = of_unless x e (first (refusals r x.event)) refl

  pub event_case : EventCase r bytes (event r bytes)
  unfolding event
  event_case = of_parsed (parse bytes) refl

  refused_case : {x : Result} → EventCase r bytes x → (n : ℕ) → x.answer ≡ suc n → x ≡ refuse r (suc n)
  unfolding refuse carry cut_short
  refused_case (refused k) n e = ap (refuse r) e
  refused_case (whole a c) n e = absurd (omega arith)
  refused_case (cut k j a c h) n e = absurd (omega arith)

  -- a refusal changes nothing
  pub refusal-run : (n : ℕ) → (event r bytes).answer ≡ suc n → (event r bytes).run ≡ r
  unfolding refuse
  refusal-run n e = ap (λ (x : Result). x.run) (refused_case event_case n e)

  pub refusal-acts : (n : ℕ) → (event r bytes).answer ≡ suc n → (event r bytes).acts ≡ []
  unfolding refuse
  refusal-acts n e = ap (λ (x : Result). x.acts) (refused_case event_case n e)

-- ---- one event more

-- what holds of no event, and of one event more wherever it held before, holds of each list of events
pub by_events : (P : List (List ℕ) → Type 0) → P [] → ((es : List (List ℕ)) (e : List ℕ) → P es → P (es ++ (e ∷ []))) → (es : List (List ℕ)) → P es
by_events P base step es = go [] es base
  where
    go : (before rest : List (List ℕ)) → P before → P (before ++ rest)
    go before [] h = rw append-nil h
    go before (e ∷ rest) h = rw append_assoc at (go (before ++ (e ∷ [])) rest (step before e h))

pub after-append : (r : Run) (es later : List (List ℕ)) → after r (es ++ later) ≡ after (after r es) later
unfolding after
after-append r [] later = refl
after-append r (e ∷ es) later = after-append (event r e).run es later

pub after_snoc : (r : Run) (es : List (List ℕ)) (e : List ℕ) → after r (es ++ (e ∷ [])) ≡ (event (after r es) e).run
unfolding after
after_snoc r es e = after-append r es (e ∷ [])

pub answers_snoc : (r : Run) (es : List (List ℕ)) (e : List ℕ) → answers r (es ++ (e ∷ [])) ≡ answers r es ++ (answer_of (event (after r es) e) ∷ [])
unfolding after answers
answers_snoc r [] e = refl
answers_snoc r (x ∷ es) e = ap (λ (l : List Answer). answer_of (event r x) ∷ l) (answers_snoc (event r x).run es e)

pub history-append : (r : Run) (es later : List (List ℕ)) → history r (es ++ later) ≡ history r es ++ history (after r es) later
unfolding after history
history-append r [] later = refl
history-append r (x ∷ es) later = rw (history-append (event r x).run es later, append_assoc)

pub history_snoc : (r : Run) (es : List (List ℕ)) (e : List ℕ) → history r (es ++ (e ∷ [])) ≡ history r es ++ happened (after r es) e
history_snoc r es e = history-append r es (e ∷ []) ∙ ap (history r es ++◌) (unfold history in append-nil (happened (after r es) e))

-- the runs that an event passes through, and the one that it leaves
unfoldable pub passed : Run → List ℕ → List Run
passed r e = map leaves (happened r e) ++ ((event r e).run ∷ [])

pub along_snoc : (r : Run) (es : List (List ℕ)) (e : List ℕ) → along r (es ++ (e ∷ [])) ≡ along r es ++ passed (after r es) e
unfolding after along passed
along_snoc r [] e = refl
along_snoc r (x ∷ es) e = rw (along_snoc (event r x).run es e, append_assoc)

-- record 2 of t is stable at some moment: it was before, or it is in a run that the event passes through or leaves
pub committed_snoc : (t : ℕ) (es : List (List ℕ)) (e : List ℕ)
    → any (commit_stable t) (along fresh (es ++ (e ∷ []))) ≡ (any (commit_stable t) (along fresh es) || any (commit_stable t) (passed (after fresh es) e))
committed_snoc t es e = rw (along_snoc, any_append)
