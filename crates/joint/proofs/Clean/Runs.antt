-- A clean run from the opening on: where it ends nothing is owed, so its own events have paid what was owed at the start.
use Prim.Native.Nat.{ℕ, zero, suc, ◌+◌, ◌<◌}
use mathlib.Core.Path.{◌≡◌, refl, sym, ap, ap₂, ◌∙◌, subst}
use mathlib.Core.Bool.{Bool, true, false, cond, not, ◌&&◌, ◌||◌, true≢false}
use mathlib.Core.List.{List, [], ◌∷◌, ◌++◌, map}
use native.Mathlib.Omega.{arith}
use lib.ListN.{length}
use lib.Dec.{T, eqb}
use Rattle.codec.specs.Lists.{select, any}
use Rattle.codec.specs.Sets.{participants, member, empty, listed}
use Rattle.codec.specs.Records.{of_transaction}
use Rattle.codec.specs.Laws.Tests.{true_of, or_none}
use Rattle.site.specs.Presumption.{commit}
use Rattle.site.specs.Cohort.{Cohort}
use Rattle.site.specs.Coordinator.{CoordinatorPhase, until_acked}
use Rattle.joint.specs.State.{Run, Transaction, fresh, names, holds}
use Rattle.joint.specs.Run.{event, after, Answer, answer_of, answers}
use Rattle.joint.specs.Safety.{steps}
use Rattle.joint.specs.Totals.{sum}
use Rattle.joint.specs.Bill.{is_own, own_answers, add_up, is_begin, is_delivery, disturbs}
use Rattle.joint.proofs.Base.Booleans.{is_false, of_false, both_ways, or_not}
use Rattle.joint.proofs.Base.Sums.{sum_alike}
use Rattle.joint.proofs.Base.History.{after_snoc}
use Rattle.joint.proofs.View.View.{view, site_view}
use Rattle.joint.proofs.View.Acts.{holds_select}
use Rattle.joint.proofs.Safety.Sets.{no_zero, not_none, none-empty}
use Rattle.joint.proofs.Safety.Invariant as inv
use Rattle.joint.proofs.Safety.Tracked.{seen_after, tracked}
use Rattle.joint.proofs.Clean.Stages as stage
use Rattle.joint.proofs.Clean.Stages.{Stage, sent_at, done_at, asks, follows, acks_in, IsMember, Leads, initial, collecting, decided, is_open, Edge, Stands, Item, records, forces, sends, pick, of_bill, of_answer, member_owes, coordinator_owes, owes}
use Rattle.joint.proofs.Clean.Steps.{At}
use Rattle.joint.proofs.Clean.Events.{event_next}

-- ---- a run that events reach: a site that is no member's has no record of t

abbrev pub Reached : Run → Type 0
Reached r = (es : List (List ℕ)) × (after fresh es ≡ r)

pub reached_next : (r : Run) → Reached r → (e : List ℕ) → Reached (event r e).run
reached_next r (es, p) e = (es ++ (e ∷ []), after_snoc fresh es e ∙ ap (λ (x : Run). (event x e).run) p)

stranger_has_none : (t : ℕ) (es : List (List ℕ)) (n : ℕ) → member (suc n) ((after fresh es).transaction t).cohort.members ≡ false
    → (k : ℕ) → holds t k ((after fresh es).site (suc n)).stable ≡ false
unfolding view site_view
stranger_has_none t es n out k =
    sym (holds_select t k ((after fresh es).site (suc n)).stable) ∙ ap (holds t k) (none ((tracked t es).inv.mid.stands n)) ∙ (unfold holds any in refl)
  where
    none : inv.Place (member (suc n) ((after fresh es).transaction t).cohort.members) t n ((tracked t es).inv.mid.status n) (seen_after t es)
        → select (of_transaction t) ((after fresh es).site (suc n)).stable ≡ []
    none x = (subst (λ (b : Bool). inv.Place b t n ((tracked t es).inv.mid.status n) (seen_after t es)) out x).stable

pub no_records_lem : (t : ℕ) (r : Run) → Reached r → (n : ℕ) → member (suc n) (r.transaction t).cohort.members ≡ false → (k : ℕ) → holds t k (r.site (suc n)).stable ≡ false
no_records_lem t r (es, p) =
    subst (λ (r : Run). (n : ℕ) → member (suc n) (r.transaction t).cohort.members ≡ false → (k : ℕ) → holds t k (r.site (suc n)).stable ≡ false) p (stranger_has_none t es)

-- ---- the counts of t's own events

module _ (i : Item) where
  add_nothing : of_bill i (add_up []) ≡ 0
  unfolding add_up sum
  add_nothing = by i
    where
      by : (i : Item) → ◌≡◌ {A = ℕ} (pick i 0 0 0) 0
      by records = refl
      by forces = refl
      by sends = refl

  add-one : (a : Answer) (l : List Answer) → of_bill i (add_up (a ∷ l)) ≡ of_answer i a + of_bill i (add_up l)
  unfolding add_up sum
  add-one a l = by i
    where
      by : (i : Item) → pick i (a.records + sum (map (λ b. b.records) l)) (a.forces + sum (map (λ b. b.forces) l)) (a.sends + sum (map (λ b. b.sends) l))
          ≡ pick i a.records a.forces a.sends + pick i (sum (map (λ b. b.records) l)) (sum (map (λ b. b.forces) l)) (sum (map (λ b. b.sends) l))
      by records = refl
      by forces = refl
      by sends = refl

  pub add_if : (b : Bool) (a : Answer) (l : List Answer) → of_bill i (add_up (cond b (a ∷ l) l)) ≡ cond b (of_answer i a) 0 + of_bill i (add_up l)
  add_if true a l = add-one a l
  add_if false a l = omega arith

-- ---- where no message of a member is on its way

abbrev pub is_resting : Stage → Bool
is_resting stage.idle = true
is_resting stage.asked = false
is_resting stage.voted = false
is_resting stage.counted = true
is_resting stage.told = false
is_resting stage.acking = false
is_resting stage.finished = true

-- a message that is on its way
abbrev next_kind : Stage → ℕ
next_kind stage.idle = 0
next_kind stage.asked = 0
next_kind stage.voted = 1
next_kind stage.counted = 0
next_kind stage.told = 3
next_kind stage.acking = 5
next_kind stage.finished = 0

next_due : (a : Bool) (s : Stage) → is_resting s ≡ false → (any (eqb (next_kind s)) (sent_at a s) && not (any (eqb (next_kind s)) (done_at a s))) ≡ true
unfolding any
next_due a stage.idle e = absurd (true≢false e)
next_due a stage.asked e = refl
next_due a stage.voted e = refl
next_due a stage.counted e = absurd (true≢false e)
next_due a stage.told e = refl
next_due a stage.acking e = refl
next_due a stage.finished e = absurd (true≢false e)

pub resting_same : (a : Bool) (s : Stage) → is_resting s ≡ true → sent_at a s ≡ done_at a s
resting_same a stage.idle e = refl
resting_same a stage.asked e = absurd (true≢false (sym e))
resting_same a stage.voted e = absurd (true≢false (sym e))
resting_same a stage.counted e = refl
resting_same a stage.told e = absurd (true≢false (sym e))
resting_same a stage.acking e = absurd (true≢false (sym e))
resting_same a stage.finished e = refl

resting_asks : (s : Stage) → is_resting s ≡ true → T (asks true s) → ⊥
resting_asks stage.idle e k = k
resting_asks stage.asked e k = true≢false (sym e)
resting_asks stage.voted e k = true≢false (sym e)
resting_asks stage.counted e k = k
resting_asks stage.told e k = k
resting_asks stage.acking e k = k
resting_asks stage.finished e k = k

resting_follows : (a w : Bool) (s : Stage) → is_resting s ≡ true → T (follows a w s) → (s ≡ stage.finished) × T (not w)
resting_follows a w stage.idle e k = absurd k
resting_follows a w stage.asked e k = absurd k
resting_follows a w stage.voted e k = absurd k
resting_follows a w stage.counted e k = absurd k
resting_follows a w stage.told e k = absurd (true≢false (sym e))
resting_follows a w stage.acking e k = absurd (true≢false (sym e))
resting_follows a w stage.finished e k = (refl, k)

module _ (t : ℕ) (g : Cohort) where
  -- ---- the end

  pub record Ended (x : Transaction) : Type 0 where
    pub nothing : (i : Item) → owes i g x ≡ 0
    pub unknown : x.coordinator.phase ≡ CoordinatorPhase.unknown
    pub entered : (s : ℕ) → T (names g.members s) → T (x.entered s commit)

  module _ (stages : ℕ → Stage) (done : ℕ → ℕ → Bool) (x : Transaction) (st : Stands g stages done x) (begun : is_open x.coordinator.phase ≡ false)
      (all : (n k : ℕ) → IsMember g n → (x.sent (suc n) k && not (done (suc n) k)) ≡ false) where
    rests : (n : ℕ) → IsMember g n → is_resting (stages (suc n)) ≡ true
    rests n m = go (is_resting (stages (suc n))) refl
      where
        go : (b : Bool) → is_resting (stages (suc n)) ≡ b → is_resting (stages (suc n)) ≡ true
        go true e = e
        go false e =
            let k = next_kind (stages (suc n)) in
            let edge = st.edge n m in
            absurd (true≢false (sym (next_due (acks_in g (suc n)) (stages (suc n)) e) ∙ ap₂ (λ (b c : Bool). b && not c) (sym (edge.sent k)) (sym (edge.delivered k)) ∙ all n k m))

    -- all have finished, and the coordinator waits for nobody
    module _ (finished : (n : ℕ) → IsMember g n → stages (suc n) ≡ stage.finished) (unknown : x.coordinator.phase ≡ CoordinatorPhase.unknown) (entered : T (x.entered 0 commit)) where
      zeros : (l : List ℕ) → sum (map (λ _. 0) l) ≡ 0
      unfolding sum
      zeros [] = refl
      zeros (p ∷ l) = omega (arith, zeros l)

      ended_with : Ended x
      unfolding listed
      ended_with =
          record {
            nothing = λ i.
                ap₂ ◌+◌ (ap (coordinator_owes i g) unknown)
                (sum_alike (λ p. member p g.members) (λ p. member_owes i (acks_in g p) (x.participant p)) (λ _. 0) (paid i) participants ∙ zeros (select (λ p. member p g.members) participants));
            unknown = unknown;
            entered = has;
          }
        where
          edge : (n : ℕ) → IsMember g n → Edge (acks_in g (suc n)) stage.finished x (done (suc n)) (suc n)
          edge n m = subst (λ (s : Stage). Edge (acks_in g (suc n)) s x (done (suc n)) (suc n)) (finished n m) (st.edge n m)

          paid : (i : Item) (p : ℕ) → T (member p g.members) → member_owes i (acks_in g p) (x.participant p) ≡ 0
          paid i zero m = absurd (no_zero g.members m)
          paid i (suc n) m = ap (member_owes i (acks_in g (suc n))) (edge n m).phase

          has : (s : ℕ) → T (names g.members s) → T (x.entered s commit)
          has zero k = entered
          has (suc n) k = (edge n k).entered tt

    pub ended : Ended x
    ended = go x.coordinator.phase refl begun st.leads
      where
        go : (c : CoordinatorPhase) → x.coordinator.phase ≡ c → is_open c ≡ false → Leads g stages (x.entered 0 commit) c → Ended x
        go _ q b (initial idle) = absurd (true≢false b)
        go _ q b (collecting w within missing hears) =
            absurd
            (not_none w within.0 (of_false missing)
            (λ n k.
            let m = within.1 n k in
            resting_asks (stages (suc n)) (rests n m) (subst (λ (b : Bool). T (asks b (stages (suc n)))) (true_of _ k) (hears n m))))
        go _ q b (decided w within entered awaits) =
            let both : (n : ℕ) → IsMember g n → (stages (suc n) ≡ stage.finished) × T (not (member (suc n) w)) =
            λ n m. resting_follows (acks_in g (suc n)) (member (suc n) w) (stages (suc n)) (rests n m) (awaits n m) in
            let none = none-empty w within.0 (λ n k. both_ways (member (suc n) w) k (both n (within.1 n k)).1) in
            let gone : until_acked commit w ≡ CoordinatorPhase.unknown = unfold until_acked in rw (true_of (empty w) none) refl in
            ended_with (λ n m. (both n m).0) (q ∙ gone) entered

  -- ---- from any event on

  pub record Ends (r : Run) (rest : List (List ℕ)) : Type 0 where
    pub paid : (i : Item) → of_bill i (add_up (own_answers t rest (answers r rest))) ≡ owes i g (r.transaction t)
    pub ends : Ended ((after r rest).transaction t)

  -- each message is delivered once, but those that were delivered before
  abbrev pub Left : (ℕ → ℕ → Bool) → Run → List (List ℕ) → Type 0
  Left done r rest =
      (n k : ℕ) → IsMember g n → length (select (is_delivery t (suc n) k) (steps r rest)) ≡ cond (((after r rest).transaction t).sent (suc n) k && not (done (suc n) k)) 1 0

  -- of one message: whether it is delivered now, how often later, whether it is sent in the end, and whether it was delivered before
  left_now : (b : Bool) (x : Run × List ℕ) (l : List (Run × List ℕ)) (sent done : Bool) → length (cond b (x ∷ l) l) ≡ cond (sent && not done) 1 0
      → (T b → done ≡ false) × (length l ≡ cond (sent && not (b || done)) 1 0)
  left_now true x l true true e = absurd (omega (arith, e))
  left_now true x l true false e = (λ k. refl, omega (arith, e))
  left_now true x l false done e = absurd (omega (arith, e))
  left_now false x l sent done e = (λ k. absurd k, e)

  -- and back, where what is delivered now is sent in the end and was not delivered before
  pub left_then : (b : Bool) (x : Run × List ℕ) (l : List (Run × List ℕ)) (sent done : Bool) → (T b → T sent) → (T b → done ≡ false)
      → length l ≡ cond (sent && not (b || done)) 1 0 → length (cond b (x ∷ l) l) ≡ cond (sent && not done) 1 0
  left_then true x l true true s d e = absurd (true≢false (d tt))
  left_then true x l true false s d e = omega (arith, e)
  left_then true x l false done s d e = absurd (s tt)
  left_then false x l sent done s d e = e

  cond-none : (b : Bool) → ◌≡◌ {A = ℕ} 0 (cond b 1 0) → b ≡ false
  cond-none true e = absurd (omega (arith, e))
  cond-none false e = refl

  module _ (small : g.members < 256) (few : g.presume_commit < 256) (someone : empty g.members ≡ false) where
    pub runs : (rest : List (List ℕ)) (r : Run) → Reached r → (stages : ℕ → Stage) (done : ℕ → ℕ → Bool) → At t g stages done r
        → any (disturbs t g.members) (steps r rest) ≡ false → Left done r rest
        → (is_open (r.transaction t).coordinator.phase ≡ true → T (any (is_begin t) (steps r rest))) → Ends r rest
    unfolding steps any select after answers own_answers
    runs [] r reached stages done h calm left begun =
        let end = ended stages done (r.transaction t) h.stands (is_false (is_open (r.transaction t).coordinator.phase) (λ k. begun (true_of _ k))) (λ n k m. cond-none _ (left n k m)) in
        record { paid = λ i. add_nothing i ∙ sym (end.nothing i); ends = end }
    runs (e ∷ rest) r reached stages done h calm left begun =
        let quiet = or_none _ _ calm in
        let end = (after (event r e).run rest).transaction t in
        let now : (n k : ℕ) → IsMember g n → (T (is_delivery t (suc n) k (r, e)) → done (suc n) k ≡ false) × (length (select (is_delivery t (suc n) k) (steps (event r e).run rest)) ≡ cond (end.sent (suc n) k && not (is_delivery t (suc n) k (r, e) || done (suc n) k)) 1 0) =
        λ n k m. left_now (is_delivery t (suc n) k (r, e)) (r, e) (select (is_delivery t (suc n) k) (steps (event r e).run rest)) (end.sent (suc n) k) (done (suc n) k) (left n k m) in
        let idle : (n : ℕ) → member (suc n) g.members ≡ false → (k : ℕ) → holds t k (r.site (suc n)).stable ≡ false =
        λ n out. no_records_lem t r reached n (subst (λ (y : Cohort). member (suc n) y.members ≡ false) (sym h.stands.cohort) out) in
        let next = event_next t g small few someone stages done r h idle e quiet.0 (λ n k m. (now n k m).0) in
        let later =
        runs rest (event r e).run (reached_next r reached e) next.stages _ next.here quiet.1 (λ n k m. (now n k m).1)
        (λ o. or_not (is_begin t (r, e)) _ (of_false (next.unbegun o).1) (begun (next.unbegun o).0)) in
        record {
          paid = λ i. add_if i (is_own t e) (answer_of (event r e)) _ ∙ ap (cond (is_own t e) (of_answer i (answer_of (event r e))) 0 +◌) (later.paid i) ∙ next.paid i;
          ends = later.ends;
        }
