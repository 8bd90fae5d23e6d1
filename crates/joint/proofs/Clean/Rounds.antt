-- The rounds of the list `serving`: in round d each member that has one gets message d of its own. Where it stands then, and which message is on its way.
use Prim.Native.Nat.{ℕ, zero, suc, ◌≤◌, ◌<◌}
use mathlib.Core.Path.{◌≡◌, refl, sym, ap, ◌∙◌, subst}
use mathlib.Core.Bool.{Bool, true, false, cond, not, ◌&&◌, ◌||◌, true≢false}
use mathlib.Core.List.{List, [], ◌∷◌}
use native.Mathlib.Omega.{arith}
use lib.ListN.{length, get_or, take}
use lib.Dec.{T, eqb, leb, ltb}
use borrow.Author.Tests.{leb-true, lt-ltb}
use Rattle.codec.specs.Lists.{any, all}
use Rattle.codec.specs.Sets.{member, listed}
use Rattle.codec.specs.Laws.Tests.{alike, below, below_at, true_of}
use Rattle.site.specs.Presumption.{commit}
use Rattle.site.specs.Cohort.{Cohort}
use Rattle.site.specs.Coordinator.{CoordinatorPhase}
use Rattle.joint.specs.State.{Run}
use Rattle.joint.proofs.Base.Booleans.{◌⇒◌, mp, and_both, or_left, or_right, of_false, alike_same}
use Rattle.joint.proofs.Base.Sends.{any_listed}
use Rattle.joint.proofs.Safety.Sets.{not_none}
use Rattle.joint.proofs.Safety.Finite.{all_bool, at_bool}
use Rattle.joint.proofs.Clean.Stages as stage
use Rattle.joint.proofs.Clean.Stages.{Stage, its_kinds, sent_at, done_at, asks, follows, acks_in, IsMember, Leads, initial, collecting, decided, is_open}
use Rattle.joint.proofs.Clean.Steps.{At}
use Rattle.joint.proofs.Clean.Runs.{Reached, is_resting}

-- ---- a member of whose messages the first d were delivered

abbrev pub first_kinds : Bool → ℕ → List ℕ
first_kinds a d = take d (its_kinds a)

-- how the coordinator may stand to it: it has begun, and at least it has decided
abbrev standing : Bool → Bool → Stage → Bool
standing c a s = (not c && (asks true s || asks false s)) || (follows a true s || follows a false s)

asks_stand : (w a : Bool) (s : Stage) → T (asks w s) → T (standing false a s)
asks_stand true a s k = or_left (asks true s || asks false s) _ (or_left (asks true s) (asks false s) k)
asks_stand false a s k = or_left (asks true s || asks false s) _ (or_right (asks true s) (asks false s) k)

follows_stand : (c w a : Bool) (s : Stage) → T (follows a w s) → T (standing c a s)
follows_stand c true a s k = or_right (not c && (asks true s || asks false s)) _ (or_left (follows a true s) (follows a false s) k)
follows_stand c false a s k = or_right (not c && (asks true s || asks false s)) _ (or_right (follows a true s) (follows a false s) k)

-- its next message is on its way, or it has none and nothing is
abbrev onward : Bool → ℕ → Stage → Bool
onward a d s = cond (ltb d (length (its_kinds a))) (any (eqb (get_or (its_kinds a) d 8)) (sent_at a s)) (is_resting s)

abbrev as_far : Bool → ℕ → Stage → Bool
as_far a d s = all (λ j. alike (any (eqb j) (done_at a s)) (any (eqb j) (first_kinds a d))) (its_kinds true)

onward_test : Stage → Bool → ℕ → Bool
onward_test s a d = as_far a d s ⇒ standing (leb 2 d) a s ⇒ onward a d s

onward_tests : (s : Stage) → T (all_bool (λ a. below 5 (onward_test s a)))
unfolding onward_test any all
onward_tests stage.idle = tt
onward_tests stage.asked = tt
onward_tests stage.voted = tt
onward_tests stage.counted = tt
onward_tests stage.told = tt
onward_tests stage.acking = tt
onward_tests stage.finished = tt

alike_all : (f h : ℕ → Bool) → ((j : ℕ) → f j ≡ h j) → (l : List ℕ) → T (all (λ j. alike (f j) (h j)) l)
unfolding all
alike_all f h e [] = tt
alike_all f h e (j ∷ l) = and_both (alike (f j) (h j)) _ (subst (λ (b : Bool). T (alike b (h j))) (sym (e j)) (alike_same (h j))) (alike_all f h e l)

goes_onward : (a : Bool) (d : ℕ) → d < 5 → (s : Stage) → ((j : ℕ) → any (eqb j) (done_at a s) ≡ any (eqb j) (first_kinds a d)) → T (standing (leb 2 d) a s) → T (onward a d s)
unfolding onward_test
goes_onward a d small s far k =
    mp (standing (leb 2 d) a s) _
    (mp (as_far a d s) _ (below_at 5 (onward_test s a) (at_bool (λ a. below 5 (onward_test s a)) (onward_tests s) a) d small) (alike_all (λ j. any (eqb j) (done_at a s)) (λ j. any (eqb j) (first_kinds a d)) far (its_kinds true)))
    k

-- whose vote is missing has not had it delivered; from two messages on it was
asks_undone : (a : Bool) (s : Stage) → T (asks true s) → any (eqb 1) (done_at a s) ≡ false
unfolding any
asks_undone a stage.idle k = absurd k
asks_undone a stage.asked k = refl
asks_undone a stage.voted k = refl
asks_undone a stage.counted k = absurd k
asks_undone a stage.told k = absurd k
asks_undone a stage.acking k = absurd k
asks_undone a stage.finished k = absurd k

has_voted : (a : Bool) (d : ℕ) → 2 ≤ d → any (eqb 1) (first_kinds a d) ≡ true
unfolding any
has_voted a zero h = absurd (omega (arith, h))
has_voted a (suc zero) h = absurd (omega (arith, h))
has_voted true (suc (suc d)) h = refl
has_voted false (suc (suc d)) h = refl

-- ---- a round

module _ (t : ℕ) (g : Cohort) where
  -- how many of p's messages were delivered, where those of l are still to come
  abbrev pub reached : ℕ → List ℕ → ℕ → ℕ
  reached d l p = cond (any (eqb p) l) d (suc d)

  pub record InRound (d : ℕ) (l : List ℕ) (done : ℕ → ℕ → Bool) (r : Run) : Type 0 where
    pub stages : ℕ → Stage
    pub here : At t g stages done r
    pub reachable : Reached r
    pub begun : is_open (r.transaction t).coordinator.phase ≡ false
    pub delivered : (n j : ℕ) → IsMember g n → done (suc n) j ≡ any (eqb j) (first_kinds (acks_in g (suc n)) (reached d l (suc n)))

  module _ {d : ℕ} {l : List ℕ} {done : ℕ → ℕ → Bool} {r : Run} (x : InRound d l done r) where
    -- once every Yes was delivered the coordinator has decided
    stands : (n : ℕ) → IsMember g n → T (standing (leb 2 d) (acks_in g (suc n)) (x.stages (suc n)))
    stands n m = go (r.transaction t).coordinator.phase x.begun x.here.stands.leads
      where
        yet : 2 ≤ d → (i : ℕ) → IsMember g i → T (asks true (x.stages (suc i))) → ⊥
        yet h i k missing =
            true≢false
            (sym (has_voted (acks_in g (suc i)) (reached d l (suc i)) (by (any (eqb (suc i)) l))) ∙ sym (x.delivered i 1 k) ∙ (x.here.stands.edge i k).delivered 1
            ∙ asks_undone (acks_in g (suc i)) (x.stages (suc i)) missing)
          where
            by : (b : Bool) → 2 ≤ cond b d (suc d)
            by true = h
            by false = omega (arith, h)

        go : (c : CoordinatorPhase) → is_open c ≡ false → Leads g x.stages ((r.transaction t).entered 0 commit) c → T (standing (leb 2 d) (acks_in g (suc n)) (x.stages (suc n)))
        go _ b (initial idle) = absurd (true≢false b)
        go _ b (collecting w within missing hears) = by (leb 2 d) refl
          where
            by : (c : Bool) → leb 2 d ≡ c → T (standing c (acks_in g (suc n)) (x.stages (suc n)))
            by true e =
                absurd
                (not_none w within.0 (of_false missing)
                (λ i k. yet (leb-true 2 d e) i (within.1 i k) (subst (λ (b : Bool). T (asks b (x.stages (suc i)))) (true_of _ k) (hears i (within.1 i k)))))
            by false e = asks_stand (member (suc n) w) (acks_in g (suc n)) (x.stages (suc n)) (hears n m)
        go _ b (decided w within entered awaits) = follows_stand (leb 2 d) (member (suc n) w) (acks_in g (suc n)) (x.stages (suc n)) (awaits n m)

    known : (n e : ℕ) → IsMember g n → reached d l (suc n) ≡ e → (j : ℕ) → any (eqb j) (done_at (acks_in g (suc n)) (x.stages (suc n))) ≡ any (eqb j) (first_kinds (acks_in g (suc n)) e)
    known n e m q j = sym ((x.here.stands.edge n m).delivered j) ∙ x.delivered n j m ∙ ap (λ (e : ℕ). any (eqb j) (first_kinds (acks_in g (suc n)) e)) q

    -- a member of l has its message on its way
    pub due_next : (n : ℕ) → IsMember g n → any (eqb (suc n)) l ≡ true → d < length (its_kinds (acks_in g (suc n)))
        → T (any (eqb (get_or (its_kinds (acks_in g (suc n))) d 8)) (sent_at (acks_in g (suc n)) (x.stages (suc n))))
    due_next n m is has =
        let a = acks_in g (suc n) in
        let s = x.stages (suc n) in
        subst (λ (b : Bool). T (cond b (any (eqb (get_or (its_kinds a) d 8)) (sent_at a s)) (is_resting s))) (lt-ltb d (length (its_kinds a)) has)
        (goes_onward a d (few a has) s (known n d m (ap (λ (b : Bool). cond b d (suc d)) is)) (stands n m))
      where
        few : (a : Bool) → d < length (its_kinds a) → d < 5
        few true h = omega (arith, h)
        few false h = omega (arith, h)

  -- behind the last round nothing is on its way
  pub all_rest : {done : ℕ → ℕ → Bool} {r : Run} (x : InRound 3 [] done r) (n : ℕ) → IsMember g n → is_resting (x.stages (suc n)) ≡ true
  unfolding any
  all_rest x n m = true_of _ (by (acks_in g (suc n)) (goes_onward (acks_in g (suc n)) 4 (omega arith) (x.stages (suc n)) (known x n 4 m refl) (stands x n m)))
    where
      by : (a : Bool) → T (onward a 4 (x.stages (suc n))) → T (is_resting (x.stages (suc n)))
      by true k = k
      by false k = k

  -- ---- from one round to the next, in which the members of m have a message

  pub next_round : {d : ℕ} {done : ℕ → ℕ → Bool} {r : Run} (m : ℕ) → m < 256
      → ((n : ℕ) → IsMember g n → first_kinds (acks_in g (suc n)) (suc d) ≡ first_kinds (acks_in g (suc n)) (cond (member (suc n) m) (suc d) (suc (suc d))))
      → InRound d [] done r → InRound (suc d) (listed m) done r
  unfolding any
  next_round {d} m small same x =
      record {
        stages = x.stages;
        here = x.here;
        reachable = x.reachable;
        begun = x.begun;
        delivered = λ n j k.
            x.delivered n j k
            ∙ ap (any (eqb j)) (same n k ∙ ap (λ (b : Bool). first_kinds (acks_in g (suc n)) (cond b (suc d) (suc (suc d)))) (sym (any_listed (suc n) m small)));
      }
