-- Wherever a transaction is opened it can be served: the list `serving` begins it and delivers each of its messages.
use Prim.Native.Nat.{ℕ, zero, suc, ◌≤◌, ◌<◌}
use mathlib.Core.Path.{◌≡◌, refl, sym, ap, ap₂, ◌∙◌, subst}
use mathlib.Core.Bool.{Bool, true, false, cond, not, ◌&&◌, ◌||◌, and-true, true≢false, and-eq-true_iff}
use mathlib.Core.List.{List, [], ◌∷◌, ◌++◌, map, flatten}
use mathlib.Core.Option.{none, some}
use native.Mathlib.Omega.{arith}
use lib.ListN.{length, get_or}
use lib.Seq.{take-suc}
use lib.Dec.{T, eqb}
use borrow.Author.Tests.{eq-eqb, eqb-true, le-leb, not-true}
use Rattle.codec.specs.Lists.{select, any, all, every, first, same, only_if}
use Rattle.codec.specs.Sets.{participants, member, empty, listed}
use Rattle.codec.specs.Laws.Tests.{true_of, of_true, and_left, and_right, below_at}
use Rattle.codec.specs.Laws.Masks.{those-below}
use Rattle.codec.specs.Laws.Members.{numbered, member-participant}
use Rattle.site.specs.Presumption.{commit}
use Rattle.site.specs.Cohort.{Cohort, writes_init, owing}
use Rattle.site.specs.Coordinator.{CoordinatorPhase, preparing, on_begin, leaving, leaving_if, coordinator_step}
use Rattle.site.specs.Step.{Message, prepare, vote_yes, vote_no, read_only, tell, ack, messages, message_kind, coordinator_of, receiver}
use Rattle.joint.specs.State.{Run, fresh, opened, takes_part, with_coordinator}
use Rattle.joint.specs.Event.{beginning, delivery, event_length, event_of, ranges, bytes_in_range, cut_in_range, cut_at, cut_of, parse}
use Rattle.joint.specs.Refusals.{unopened, stranger, is_down, refusals}
use Rattle.joint.specs.Plan.{row_plan, planned, step, plan}
use Rattle.joint.specs.Run.{event, after}
use Rattle.joint.specs.Safety.{history, steps, accepts, is_sending}
use Rattle.joint.specs.Bill.{is_own, is_begin, is_delivery, is_quiet, begins, delivers, serving}
use Rattle.joint.proofs.Base.Booleans.{is_false, and_both, or_left, eqb-sym}
use Rattle.joint.proofs.Base.Lists.{Each, each_chosen, any_more}
use Rattle.joint.proofs.Base.Bytes.{kind_again}
use Rattle.joint.proofs.Base.History.{after-append, history-append}
use Rattle.joint.proofs.Base.Recorded.{messages-happened}
use Rattle.joint.proofs.Base.Sends.{any_listed}
use Rattle.joint.proofs.Safety.Sets.{no_zero, owing-member, member-owing}
use Rattle.joint.proofs.Clean.Stages.{Stage, its_kinds, sent_at, acks_in, IsMember}
use Rattle.joint.proofs.Clean.Participants.{any_last}
use Rattle.joint.proofs.Clean.Steps.{At, Next}
use Rattle.joint.proofs.Clean.Events.{event_next}
use Rattle.joint.proofs.Clean.Quiet.{quiet_calm}
use Rattle.joint.proofs.Clean.Opens.{is_taken}
use Rattle.joint.proofs.Clean.Runs.{Reached, reached_next, no_records_lem, resting_same, Left, left_then}
use Rattle.joint.proofs.Clean.Rounds.{first_kinds, reached, InRound, due_next, all_rest, next_round}

-- ---- the events of `serving`: begin, and the delivery of a message of kind k

abbrev begin_of : ℕ → List ℕ
begin_of t = 1 ∷ t ∷ 0 ∷ 0 ∷ 255 ∷ 0 ∷ []

abbrev delivery_of : ℕ → ℕ → ℕ → List ℕ
delivery_of t k p = 2 ∷ t ∷ p ∷ k ∷ 255 ∷ 0 ∷ []

delivery_read : (t p k : ℕ) → t ≤ 7 → 1 ≤ p → p ≤ 8 → k ≤ 7 → parse (delivery_of t k p) ≡ some (record { event = delivery t p (get_or messages k prepare); cut = none })
unfolding parse event_length bytes_in_range ranges cut_in_range cut_of cut_at event_of every only_if any
delivery_read t p k ht hp hq hk = rw (le-leb t 7 ht, le-leb 1 p hp, le-leb p 8 hq, le-leb k 7 hk) refl

delivery_quiet : (t p k : ℕ) → is_quiet t (delivery_of t k p) ≡ true
unfolding is_quiet any every same
delivery_quiet t p k = refl

begin_read : (t : ℕ) → t ≤ 7 → parse (begin_of t) ≡ some (record { event = beginning t; cut = none })
unfolding parse event_length bytes_in_range ranges cut_in_range cut_of cut_at event_of every only_if any
begin_read t ht = rw (le-leb t 7 ht) refl

begin_quiet : (t : ℕ) → is_quiet t (begin_of t) ≡ true
unfolding is_quiet any every same
begin_quiet t = refl

each_quiet : (t k : ℕ) (l : List ℕ) (rest : List (List ℕ)) → T (all (is_quiet t) rest) → T (all (is_quiet t) (map (delivery_of t k) l ++ rest))
unfolding all
each_quiet t k [] rest q = q
each_quiet t k (p ∷ l) rest q = and_both (is_quiet t (delivery_of t k p)) _ (of_true (delivery_quiet t p k)) (each_quiet t k l rest q)

-- the four rounds, and nothing behind them
abbrev rounds : ℕ → Cohort → List (List ℕ)
rounds t g =
    map (delivery_of t 0) (listed g.members)
    ++ (map (delivery_of t 1) (listed g.members) ++ (map (delivery_of t 3) (listed g.members) ++ (map (delivery_of t 5) (listed (owing g commit)) ++ [])))

serving_rounds : (t : ℕ) (g : Cohort) → serving t g ≡ begin_of t ∷ rounds t g
unfolding serving begins delivers message_kind flatten
serving_rounds t g = refl

pub serving_quiet : (t : ℕ) (g : Cohort) → T (all (is_quiet t) (serving t g))
unfolding all
serving_quiet t g =
    rw (serving_rounds t g)
    (and_both (is_quiet t (begin_of t)) _ (of_true (begin_quiet t))
    (each_quiet t 0 (listed g.members) _ (each_quiet t 1 (listed g.members) _ (each_quiet t 3 (listed g.members) _ (each_quiet t 5 (listed (owing g commit)) [] tt)))))

-- ---- a list that holds each number once

apart : List ℕ → Bool
apart [] = true
apart (p ∷ l) = not (any (eqb p) l) && apart l

listed_apart : (m : ℕ) → m < 256 → T (apart (listed m))
unfolding apart any listed select participants member
listed_apart m h = below_at 256 (λ m. apart (listed m)) tt m h

-- ---- message d was not among those before it

not_yet : Bool → ℕ → Bool
not_yet a d = not (any (eqb (get_or (its_kinds a) d 8)) (first_kinds a d))

not_yet_lem : (a : Bool) (d : ℕ) → d < length (its_kinds a) → any (eqb (get_or (its_kinds a) d 8)) (first_kinds a d) ≡ false
unfolding not_yet any
not_yet_lem true d h = not-true _ (true_of _ (below_at 4 (not_yet true) tt d h))
not_yet_lem false d h = not-true _ (true_of _ (below_at 3 (not_yet false) tt d h))

none-two : (b : Bool) → (b && not b) ≡ false
none-two true = refl
none-two false = refl

module _ (t : ℕ) (low : t ≤ 7) (g : Cohort) (small : g.members < 256) (few : g.presume_commit < 256) (someone : empty g.members ≡ false) where
  -- what is on its way is accepted
  module _ (stages : ℕ → Stage) (done : ℕ → ℕ → Bool) (r : Run) (h : At t g stages done r) where
    is_opened : opened r t ≡ true
    unfolding opened
    is_opened = ap (λ (y : Cohort). not (empty y.members)) h.stands.cohort ∙ (rw someone refl)

    takes_part_lem : (n : ℕ) → IsMember g n → takes_part (r.transaction t) (suc n) ≡ true
    unfolding takes_part
    takes_part_lem n m = ap (λ (y : Cohort). member (suc n) y.members) h.stands.cohort ∙ true_of _ m

    receiver-up : (n : ℕ) → IsMember g n → (m : Message) → (r.site (receiver m (suc n))).up ≡ true
    unfolding receiver coordinator_of
    receiver-up n k prepare = h.up (suc n) k
    receiver-up n k vote_yes = h.up 0 tt
    receiver-up n k vote_no = h.up 0 tt
    receiver-up n k read_only = h.up 0 tt
    receiver-up n k (tell o) = h.up (suc n) k
    receiver-up n k (ack o) = h.up 0 tt

    delivery_passes : (n : ℕ) → IsMember g n → (m : Message) → (r.transaction t).sent (suc n) (message_kind m) ≡ true → first (refusals r (delivery t (suc n) m)) ≡ 0
    unfolding refusals unopened stranger is_down first
    delivery_passes n k m sent = rw (is_opened, takes_part_lem n k, receiver-up n k m, sent) refl

    delivery-taken : (n : ℕ) → IsMember g n → (k : ℕ) → k ≤ 7 → (r.transaction t).sent (suc n) k ≡ true → accepts r (delivery_of t k (suc n)) ≡ true
    unfolding plan
    delivery-taken n m k hk sent =
        let range = numbered (suc n) (member-participant (suc n) g.members small (true_of _ m)) in
        let kind : message_kind (get_or messages k prepare) ≡ k = kind_again k hk in
        is_taken r (delivery_of t k (suc n)) (delivery t (suc n) (get_or messages k prepare)) (delivery_read t (suc n) k low range.0 range.1 hk)
        (delivery_passes n m (get_or messages k prepare) (ap ((r.transaction t).sent (suc n)) kind ∙ sent)) _ refl

  sent-stays : (r : Run) → Reached r → (rest : List (List ℕ)) (p k : ℕ) → T ((r.transaction t).sent p k) → T (((after r rest).transaction t).sent p k)
  sent-stays r (es, q) rest p k =
      subst (λ (r : Run). T ((r.transaction t).sent p k) → T (((after r rest).transaction t).sent p k)) q
      (λ s.
      subst (λ (r : Run). T ((r.transaction t).sent p k)) (after-append fresh es rest)
      (subst T (sym (messages-happened (es ++ rest) t p k ∙ ap (any (is_sending t p k)) (history-append fresh es rest)))
      (any_more (is_sending t p k) (history fresh es) _ (subst T (messages-happened es t p k) s))))

  -- ---- one delivery

  -- message d of p is of kind k
  abbrev Due : ℕ → ℕ → ℕ → Type 0
  Due d k p = (d < length (its_kinds (acks_in g p))) × (get_or (its_kinds (acks_in g p)) d 8 ≡ k)

  module _ (d k n : ℕ) (l : List ℕ) (m : IsMember g n) (due : Due d k (suc n)) (small-kind : k ≤ 7) (once : any (eqb (suc n)) l ≡ false)
      (done : ℕ → ℕ → Bool) (r : Run) (x : InRound t g d (suc n ∷ l) done r) where
    abbrev b : List ℕ
    b = delivery_of t k (suc n)

    first_one : any (eqb (suc n)) (suc n ∷ l) ≡ true
    unfolding any
    first_one = rw (eq-eqb (suc n) (suc n) refl) refl

    is_sent : (r.transaction t).sent (suc n) k ≡ true
    is_sent =
        (x.here.stands.edge n m).sent k
        ∙ subst (λ (k : ℕ). any (eqb k) (sent_at (acks_in g (suc n)) (x.stages (suc n))) ≡ true) due.1 (true_of _ (due_next t g x n m first_one due.0))

    is_new : done (suc n) k ≡ false
    is_new =
        x.delivered n k m ∙ ap (λ (c : Bool). any (eqb k) (first_kinds (acks_in g (suc n)) (cond c d (suc d)))) first_one
        ∙ subst (λ (k : ℕ). any (eqb k) (first_kinds (acks_in g (suc n)) d) ≡ false) due.1 (not_yet_lem (acks_in g (suc n)) d due.0)

    taken : accepts r (delivery_of t k (suc n)) ≡ true
    taken = delivery-taken x.stages done r x.here n m k small-kind is_sent

    -- it delivers that message, and no other
    only_this : (q j : ℕ) → is_delivery t q j (r, delivery_of t k (suc n)) ≡ (eqb (suc n) q && eqb k j)
    unfolding is_delivery every same
    only_this q j = rw (taken, eq-eqb t t refl) (simp and-true)

    is_this_lem : (q j : ℕ) → T (is_delivery t q j (r, delivery_of t k (suc n))) → (suc n ≡ q) × (k ≡ j)
    is_this_lem q j y =
        let both = (and-eq-true_iff (eqb (suc n) q) (eqb k j)).0 (sym (only_this q j) ∙ true_of _ y) in
        (eqb-true (suc n) q both.0, eqb-true k j both.1)

    new : (q j : ℕ) → T (is_delivery t q j (r, delivery_of t k (suc n))) → done q j ≡ false
    new q j y = let is = is_this_lem q j y in ap₂ done (sym is.0) (sym is.1) ∙ is_new

    sent_now : (q j : ℕ) → T (is_delivery t q j (r, delivery_of t k (suc n))) → T ((r.transaction t).sent q j)
    sent_now q j y = let is = is_this_lem q j y in of_true (ap₂ (r.transaction t).sent (sym is.0) (sym is.1) ∙ is_sent)

    abbrev now : ℕ → ℕ → Bool
    now q j = is_delivery t q j (r, delivery_of t k (suc n)) || done q j

    next : Next t g now (is_own t (delivery_of t k (suc n))) (is_begin t (r, delivery_of t k (suc n))) r (event r (delivery_of t k (suc n)))
    next =
        event_next t g small few someone x.stages done r x.here
        (λ i out. no_records_lem t r x.reachable i (subst (λ (y : Cohort). member (suc i) y.members ≡ false) (sym x.here.stands.cohort) out)) b
        (quiet_calm t g.members r b (delivery_quiet t (suc n) k)) (λ i j _. new (suc i) j)

    -- p is through, and the others are where they were
    here_now : (j : ℕ) → ((eqb (suc n) (suc n) && eqb k j) || done (suc n) j) ≡ any (eqb j) (first_kinds (acks_in g (suc n)) (reached t g d l (suc n)))
    here_now j =
        let a = acks_in g (suc n) in
        let before : done (suc n) j ≡ any (eqb j) (first_kinds a d) = x.delivered n j m ∙ ap (λ (c : Bool). any (eqb j) (first_kinds a (cond c d (suc d)))) first_one in
        let this : eqb k j ≡ eqb j (get_or (its_kinds a) d 8) = eqb-sym k j ∙ ap (eqb j) (sym due.1) in
        ap₂ ◌||◌ (ap (◌&& eqb k j) (eq-eqb (suc n) (suc n) refl) ∙ this) before ∙ any_last j (get_or (its_kinds a) d 8) (first_kinds a d) ∙ ap (any (eqb j)) (sym (take-suc (its_kinds a) d 8 due.0))
        ∙ ap (λ (c : Bool). any (eqb j) (first_kinds a (cond c d (suc d)))) (sym once)

    there_now : (i j : ℕ) → IsMember g i → eqb (suc i) (suc n) ≡ false
        → ((eqb (suc n) (suc i) && eqb k j) || done (suc i) j) ≡ any (eqb j) (first_kinds (acks_in g (suc i)) (reached t g d l (suc i)))
    unfolding any
    there_now i j mine e =
        ap (λ (c : Bool). (c && eqb k j) || done (suc i) j) (eqb-sym (suc n) (suc i) ∙ e) ∙ x.delivered i j mine
        ∙ ap (λ (c : Bool). any (eqb j) (first_kinds (acks_in g (suc i)) (cond (c || any (eqb (suc i)) l) d (suc d)))) e

    goes_on : InRound t g d l now (event r (delivery_of t k (suc n))).run
    goes_on =
        record {
          stages = next.stages;
          here = next.here;
          reachable = reached_next r x.reachable b;
          begun = is_false _ (λ o. true≢false (sym (next.unbegun (true_of _ o)).0 ∙ x.begun));
          delivered = λ i j mine. ap (◌|| done (suc i) j) (only_this (suc i) j) ∙ by i j mine (eqb (suc i) (suc n)) refl;
        }
      where
        by : (i j : ℕ) → IsMember g i → (c : Bool) → eqb (suc i) (suc n) ≡ c
            → ((eqb (suc n) (suc i) && eqb k j) || done (suc i) j) ≡ any (eqb j) (first_kinds (acks_in g (suc i)) (reached t g d l (suc i)))
        by i j mine true e =
            subst (λ (p : ℕ). ((eqb (suc n) p && eqb k j) || done p j) ≡ any (eqb j) (first_kinds (acks_in g p) (reached t g d l p))) (sym (eqb-true (suc i) (suc n) e)) (here_now j)
        by i j mine false e = there_now i j mine e

    then : (rest : List (List ℕ)) → Left t g now (event r (delivery_of t k (suc n))).run rest → Left t g done r (delivery_of t k (suc n) ∷ rest)
    unfolding steps select after
    then rest left i j mine =
        left_then t g (is_delivery t (suc i) j (r, b)) (r, b) (select (is_delivery t (suc i) j) (steps (event r b).run rest)) (((after (event r b).run rest).transaction t).sent (suc i) j) (done (suc i) j)
        (λ y. sent-stays r x.reachable (b ∷ rest) (suc i) j (sent_now (suc i) j y)) (new (suc i) j) (left i j mine)

  -- ---- a round, and those behind it

  abbrev Through : ℕ → List ℕ → List (List ℕ) → Type 0
  Through d l rest = (done : ℕ → ℕ → Bool) (r : Run) → InRound t g d l done r → Left t g done r rest

  abbrev Gets : ℕ → ℕ → ℕ → Type 0
  Gets d k p = T (member p g.members) × Due d k p

  round : (d k : ℕ) → k ≤ 7 → (l : List ℕ) → Each (Gets d k) l → T (apart l) → (rest : List (List ℕ)) → Through d [] rest → Through d l (map (delivery_of t k) l ++ rest)
  unfolding apart
  round d k small-kind [] each once rest f done r x = f done r x
  round d k small-kind (zero ∷ l) each once rest f done r x = absurd (no_zero g.members each.0.0)
  round d k small-kind (suc n ∷ l) each once rest f done r x =
      let alone : any (eqb (suc n)) l ≡ false = not-true _ (true_of _ (and_left (not (any (eqb (suc n)) l)) (apart l) once)) in
      then d k n l each.0.0 each.0.1 small-kind alone done r x (map (delivery_of t k) l ++ rest)
      (round d k small-kind l each.1 (and_right (not (any (eqb (suc n)) l)) (apart l) once) rest f _ _ (goes_on d k n l each.0.0 each.0.1 small-kind alone done r x))

  -- a round of the members of m
  over : (d k m : ℕ) → k ≤ 7 → m < 256 → ((n : ℕ) → T (member (suc n) m) → Gets d k (suc n)) → (rest : List (List ℕ)) → Through d [] rest
      → Through d (listed m) (map (delivery_of t k) (listed m) ++ rest)
  unfolding listed
  over d k m small-kind byte has = round d k small-kind (listed m) (each_chosen (Gets d k) (λ p. member p m) serves participants) (listed_apart m byte)
    where
      serves : (p : ℕ) → T (member p m) → Gets d k p
      serves zero i = absurd (no_zero m i)
      serves (suc n) i = has n i

  -- behind the last none is left
  none_left : Through 3 [] []
  unfolding steps select after
  none_left done r x n k m =
      let edge = x.here.stands.edge n m in
      let same : (r.transaction t).sent (suc n) k ≡ done (suc n) k =
      edge.sent k ∙ ap (any (eqb k)) (resting_same (acks_in g (suc n)) (x.stages (suc n)) (all_rest t g x n m)) ∙ sym (edge.delivered k) in
      sym (ap (λ (b : Bool). cond (b && not (done (suc n) k)) 1 0) same ∙ ap (λ (b : Bool). cond b 1 0) (none-two (done (suc n) k)))

  acks_byte : owing g commit < 256
  unfolding owing
  acks_byte = those-below _

  -- Prepare, Yes and Commit are everyone's; an ack is of those that owe one
  everyone : (d : ℕ) → d < 3 → (n : ℕ) → T (member (suc n) g.members) → Gets d (get_or (its_kinds true) d 8) (suc n)
  everyone d h n m = (m, by d h (acks_in g (suc n)))
    where
      by : (d : ℕ) → d < 3 → (a : Bool) → (d < length (its_kinds a)) × (get_or (its_kinds a) d 8 ≡ get_or (its_kinds true) d 8)
      by d h true = (omega (arith, h), refl)
      by zero h false = (h, refl)
      by (suc zero) h false = (h, refl)
      by (suc (suc zero)) h false = (h, refl)
      by (suc (suc (suc d))) h false = absurd (omega (arith, h))

  acknowledges : (n : ℕ) → T (member (suc n) (owing g commit)) → Gets 3 5 (suc n)
  acknowledges n i =
      let both = owing-member g commit n i in
      (both.0, by (acks_in g (suc n)) both.1)
    where
      by : (a : Bool) → T a → (3 < length (its_kinds a)) × (get_or (its_kinds a) 3 8 ≡ 5)
      by true k = (omega arith, refl)
      by false k = absurd k

  all_again : (d : ℕ) (n : ℕ) → IsMember g n → first_kinds (acks_in g (suc n)) (suc d) ≡ first_kinds (acks_in g (suc n)) (cond (member (suc n) g.members) (suc d) (suc (suc d)))
  all_again d n m = ap (λ (b : Bool). first_kinds (acks_in g (suc n)) (cond b (suc d) (suc (suc d)))) (sym (true_of (member (suc n) g.members) m))

  acks_again : (n : ℕ) → IsMember g n → first_kinds (acks_in g (suc n)) 3 ≡ first_kinds (acks_in g (suc n)) (cond (member (suc n) (owing g commit)) 3 4)
  acks_again n m = by (acks_in g (suc n)) ∙ ap (λ (b : Bool). first_kinds (acks_in g (suc n)) (cond b 3 4)) (sym (member-owing g commit n small m))
    where
      by : (a : Bool) → first_kinds a 3 ≡ first_kinds a (cond a 3 4)
      by true = refl
      by false = refl

  acks-round : Through 2 [] (map (delivery_of t 5) (listed (owing g commit)) ++ [])
  acks-round done r x = over 3 5 (owing g commit) (omega arith) acks_byte acknowledges [] none_left done r (next_round t g (owing g commit) acks_byte acks_again x)

  -- a round of everyone's, and what is behind it
  full : (d : ℕ) → d < 3 → get_or (its_kinds true) d 8 ≤ 7 → (rest : List (List ℕ)) → Through d [] rest → Through d (listed g.members) (map (delivery_of t (get_or (its_kinds true) d 8)) (listed g.members) ++ rest)
  full d h small-kind = over d (get_or (its_kinds true) d 8) g.members small-kind small (everyone d h)

  again : (d : ℕ) (rest : List (List ℕ)) → Through (suc d) (listed g.members) rest → Through d [] rest
  again d rest f done r x = f done r (next_round t g g.members small (all_again d) x)

  all_rounds : Through 0 (listed g.members) (rounds t g)
  all_rounds = full 0 (omega arith) (omega arith) _ (again 0 _ (full 1 (omega arith) (omega arith) _ (again 1 _ (full 2 (omega arith) (omega arith) _ acks-round))))

  -- ---- from the opening

  module _ (stages : ℕ → Stage) (r : Run) (reachable : Reached r) (h : At t g stages (λ p k. false) r) (waits : (r.transaction t).coordinator.phase ≡ CoordinatorPhase.initial) where
    begin_passes : first (refusals r (beginning t)) ≡ 0
    unfolding refusals unopened is_down first
    begin_passes = rw (is_opened stages (λ p k. false) r h, h.up 0 tt) refl

    begin_taken : accepts r (begin_of t) ≡ true
    unfolding plan step coordinator_step on_begin leaving_if planned
    begin_taken =
        is_taken r (begin_of t) (beginning t) (begin_read t low) begin_passes
        (row_plan 0 t (with_coordinator 0) (leaving (r.transaction t).coordinator.taken_out (preparing t (r.transaction t).cohort (writes_init (r.transaction t).cohort)))) (rw waits refl)

    begins_it : is_begin t (r, begin_of t) ≡ true
    unfolding is_begin every same
    begins_it = rw (begin_taken, eq-eqb t t refl) refl

    no_delivery : (q j : ℕ) → is_delivery t q j (r, begin_of t) ≡ false
    unfolding is_delivery every same
    no_delivery q j = refl

    abbrev none_yet : ℕ → ℕ → Bool
    none_yet q j = is_delivery t q j (r, begin_of t) || false

    begin_next : Next t g none_yet (is_own t (begin_of t)) (is_begin t (r, begin_of t)) r (event r (begin_of t))
    begin_next =
        event_next t g small few someone stages (λ p k. false) r h
        (λ i out. no_records_lem t r reachable i (subst (λ (y : Cohort). member (suc i) y.members ≡ false) (sym h.stands.cohort) out)) (begin_of t)
        (quiet_calm t g.members r (begin_of t) (begin_quiet t)) (λ i j _ x. refl)

    first_round : InRound t g 0 (listed g.members) none_yet (event r (begin_of t)).run
    unfolding any
    first_round =
        record {
          stages = begin_next.stages;
          here = begin_next.here;
          reachable = reached_next r reachable (begin_of t);
          begun = is_false _ (λ o. true≢false (sym begins_it ∙ (begin_next.unbegun (true_of _ o)).1));
          delivered = λ n j m.
              ap (◌|| false) (no_delivery (suc n) j)
              ∙ ap (λ (b : Bool). any (eqb j) (first_kinds (acks_in g (suc n)) (cond b 0 1))) (sym (any_listed (suc n) g.members small ∙ true_of _ m));
        }

    -- it is begun, and each message is delivered
    pub served : Left t g (λ p k. false) r (serving t g) × T (any (is_begin t) (steps r (serving t g)))
    unfolding steps select after any
    served =
        rw (serving_rounds t g) (
          λ i j m.
              left_then t g (is_delivery t (suc i) j (r, begin_of t)) (r, begin_of t) (select (is_delivery t (suc i) j) (steps (event r (begin_of t)).run (rounds t g)))
              (((after (event r (begin_of t)).run (rounds t g)).transaction t).sent (suc i) j) false (λ d. absurd (subst T (no_delivery (suc i) j) d)) (λ d. refl)
              (all_rounds none_yet (event r (begin_of t)).run first_round i j m),
          or_left (is_begin t (r, begin_of t)) _ (of_true begins_it),
        )
