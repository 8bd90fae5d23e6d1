-- A member's rows in a clean run: it promises, and it commits.
use Prim.Native.Nat.{ℕ, suc, ◌+◌, ◌<◌}
use mathlib.Core.Path.{◌≡◌, refl, sym, ap, ap₂, ◌∙◌, subst}
use mathlib.Core.Bool.{Bool, true, false, cond, ◌&&◌, ◌||◌, true≢false}
use mathlib.Core.List.{List, [], ◌∷◌, ◌++◌}
use native.Mathlib.Omega.{arith}
use lib.Dec.{T, eqb}
use borrow.Author.Tests.{eq-eqb, ne_eqb}
use Rattle.codec.specs.Lists.{select, any}
use Rattle.codec.specs.Sets.{member, empty}
use Rattle.site.specs.Presumption.{commit, same_outcome}
use Rattle.site.specs.Cohort.{Cohort, presumption_of}
use Rattle.site.specs.Coordinator.{CoordinatorPhase, Coordinator, until_acked}
use Rattle.site.specs.Participant.{ParticipantPhase, outcome_record, promising, acking, finish}
use Rattle.site.specs.Step.{ack, message_kind, Effect, append, force, enter, send, given}
use Rattle.joint.specs.State.{Transaction, update, with_participant, with_sent, with_entered}
use Rattle.joint.specs.Run.{is_append, is_force, is_send}
use Rattle.joint.specs.Laws.Effects.{transaction_after, counted}
use Rattle.joint.proofs.Base.Updates.{update_same, update_other}
use Rattle.joint.proofs.Clean.Stages as stage
use Rattle.joint.proofs.Clean.Stages.{Stage, done_at, is_idle, asks, follows, acks_in, IsMember, Leads, initial, collecting, decided, is_open, Edge, Stands, Item, records, forces, sends, pick, member_owes, members_owe, coordinator_owes, owes}
use Rattle.joint.proofs.Clean.Members.{members_paid, going_on, each_on, delivering, Elsewhere, other_edge}

-- ---- a row: what it makes of the transaction, and what it pays

abbrev pub counts_in : Item → List Effect → ℕ
counts_in i es = pick i (counted is_append es) (counted is_force es) (counted is_send es)

pub record Goes (g : Cohort) (done : ℕ → ℕ → Bool) (x y : Transaction) (es : List Effect) : Type 0 where
  pub stages : ℕ → Stage
  pub stands : Stands g stages done y
  pub paid : (i : Item) → counts_in i es + owes i g y ≡ owes i g x
  pub begun : is_open y.coordinator.phase ≡ false

-- acks are awaited, or not
pub acks-begun : (w : ℕ) → is_open (until_acked commit w) ≡ false
unfolding until_acked
acks-begun w = by (empty w)
  where
    by : (b : Bool) → is_open (cond b CoordinatorPhase.unknown (CoordinatorPhase.awaiting_acks commit w)) ≡ false
    by true = refl
    by false = refl

-- where a member is asked it is begun
pub leads_begun : {g : Cohort} {stages : ℕ → Stage} {b : Bool} {c : CoordinatorPhase} → Leads g stages b c → (n : ℕ) → IsMember g n → is_idle (stages (suc n)) ≡ false → is_open c ≡ false
leads_begun (initial h) n m k = absurd (true≢false (sym (ap is_idle (h n m)) ∙ k))
leads_begun (collecting w within some h) n m k = refl
leads_begun (decided w within e h) n m k = acks-begun w

-- one more kind
pub any_last : (k j : ℕ) (l : List ℕ) → (eqb k j || any (eqb k) l) ≡ any (eqb k) (l ++ (j ∷ []))
unfolding any
any_last k j [] = refl
any_last k j (i ∷ l) = by (eqb k j) (eqb k i) (any (eqb k) l) ∙ ap (eqb k i ||◌) (any_last k j l)
  where
    by : (a b c : Bool) → (a || (b || c)) ≡ (b || (a || c))
    by true true c = refl
    by true false c = refl
    by false b c = refl

-- what a promise pays, and what a commit does
promise_pays : (a : Bool) (i : Item) → pick i 1 1 1 + member_owes i a ParticipantPhase.prepared ≡ member_owes i a ParticipantPhase.working
promise_pays a records = refl
promise_pays a forces = refl
promise_pays a sends = refl

commit_pays : (a : Bool) (i : Item) → pick i 1 (cond a 1 0) (cond a 1 0) + member_owes i a (ParticipantPhase.decided commit) ≡ member_owes i a ParticipantPhase.prepared
commit_pays a records = refl
commit_pays a forces = omega arith
commit_pays a sends = omega arith

-- ---- the coordinator's standing where a member goes on

module _ (g : Cohort) (stages : ℕ → Stage) (n : ℕ) (m : IsMember g n) (s z : Stage) (now : stages (suc n) ≡ s)
    (busy : is_idle s ≡ false) (asked : (w : Bool) → T (asks w s) → T (asks w z))
    (told : (w : Bool) → T (follows (acks_in g (suc n)) w s) → T (follows (acks_in g (suc n)) w z)) where
  pub leads_on : {a b : Bool} {c : CoordinatorPhase} → (T a → T b) → Leads g stages a c → Leads g (going_on (suc n) z stages) b c
  leads_on f (initial h) = absurd (true≢false (sym (ap is_idle (sym now ∙ h n m)) ∙ busy))
  leads_on f (collecting w within some h) =
      collecting w within some
      (λ j k.
      each_on (λ q y. T (asks (member q w) y)) (suc n) z stages (suc j)
      (λ e. subst (λ (q : ℕ). T (asks (member q w) z)) (sym e) (asked (member (suc n) w) (subst (λ (y : Stage). T (asks (member (suc n) w) y)) now (h n m))))
      (λ _. h j k))
  leads_on f (decided w within e h) =
      decided w within (f e)
      (λ j k.
      each_on (λ q y. T (follows (acks_in g q) (member q w) y)) (suc n) z stages (suc j)
      (λ e.
      subst (λ (q : ℕ). T (follows (acks_in g q) (member q w) z)) (sym e)
      (told (member (suc n) w) (subst (λ (y : Stage). T (follows (acks_in g (suc n)) (member (suc n) w) y)) now (h n m))))
      (λ _. h j k))

-- ---- the two rows

module _ (g : Cohort) (small : g.members < 256) (stages : ℕ → Stage) (done : ℕ → ℕ → Bool) (x : Transaction) (st : Stands g stages done x) (n : ℕ) (m : IsMember g n) where
  edge_now : (s : Stage) → stages (suc n) ≡ s → Edge (acks_in g (suc n)) s x (done (suc n)) (suc n)
  edge_now s h = subst (λ (s : Stage). Edge (acks_in g (suc n)) s x (done (suc n)) (suc n)) h (st.edge n m)

  -- the member goes on to z, with its message of kind k delivered
  module _ (y : Transaction) (k : ℕ) (z : Stage) (elsewhere : Elsewhere (suc n) x y)
      (here : Edge (acks_in g (suc n)) z y (delivering (suc n) k done (suc n)) (suc n)) where
    pub edges_on : (j : ℕ) → IsMember g j → Edge (acks_in g (suc j)) (going_on (suc n) z stages (suc j)) y (delivering (suc n) k done (suc j)) (suc j)
    edges_on j q =
        each_on (λ q w. Edge (acks_in g q) w y (delivering (suc n) k done q) q) (suc n) z stages (suc j)
        (λ e. subst (λ (q : ℕ). Edge (acks_in g q) z y (delivering (suc n) k done q) q) (sym e) here)
        (λ h. other_edge (suc n) k done elsewhere (suc j) h (st.edge j q))

  -- a delivered kind of its own
  pub delivered_on : (k : ℕ) (s : Stage) → stages (suc n) ≡ s → (j : ℕ) → delivering (suc n) k done (suc n) j ≡ any (eqb j) (done_at (acks_in g (suc n)) s ++ (k ∷ []))
  delivered_on k s h j =
      ap₂ (λ (b c : Bool). (b && eqb j k) || c) (eq-eqb (suc n) (suc n) refl) ((edge_now s h).delivered j)
      ∙ any_last j k (done_at (acks_in g (suc n)) s)

  -- it pays k
  member_pays : (i : Item) (k : ℕ) (c z : ParticipantPhase) → x.participant (suc n) ≡ c → k + member_owes i (acks_in g (suc n)) z ≡ member_owes i (acks_in g (suc n)) c
      → k + (coordinator_owes i g x.coordinator.phase + members_owe i g (update (suc n) (λ _. z) x.participant)) ≡ owes i g x
  member_pays i k c z e paid =
      omega (
        arith,
        members_paid i g small n m x.participant (update (suc n) (λ _. z) x.participant) k (λ q h. update_other (suc n) q (λ _. z) x.participant h)
            (ap (λ (d : ParticipantPhase). k + member_owes i (acks_in g (suc n)) d) (update_same (suc n) (λ _. z) x.participant) ∙ paid ∙ ap (member_owes i (acks_in g (suc n))) (sym e)),
      )

  -- Prepare
  module _ (now : stages (suc n) ≡ stage.asked) where
    abbrev promised : Transaction
    promised = with_participant (suc n) ParticipantPhase.prepared (transaction_after (suc n) (promising (presumption_of g (suc n)) (suc n)).effects x)

    pub promise_goes : Goes g (delivering (suc n) 0 done) x
        (with_participant (suc n) ParticipantPhase.prepared (transaction_after (suc n) (promising (presumption_of g (suc n)) (suc n)).effects x))
        (promising (presumption_of g (suc n)) (suc n)).effects
    unfolding promising transaction_after with_sent with_participant message_kind counted select is_append is_force is_send
    promise_goes =
        let e = edge_now stage.asked now in
        record {
          stages = going_on (suc n) stage.voted stages;
          stands =
              record {
                cohort = st.cohort;
                leads = leads_on g stages n m stage.asked stage.voted now refl (λ w k. k) (λ w k. absurd k) (λ k. k) st.leads;
                out = st.out;
                edge = edges_on promised 0 stage.voted
                    (record {
                      participant = λ q h. update_other (suc n) q (λ _. ParticipantPhase.prepared) x.participant h;
                      marked = λ q h. refl;
                      sent = λ q k h. ap (λ (b : Bool). (b && eqb k 1) || x.sent q k) (ne_eqb q (suc n) h);
                      entered = λ q o h. refl;
                    })
                    (record {
                      phase = update_same (suc n) (λ _. ParticipantPhase.prepared) x.participant;
                      unmarked = e.unmarked;
                      sent = λ k. ap₂ (λ (b c : Bool). (b && eqb k 1) || c) (eq-eqb (suc n) (suc n) refl) (e.sent k) ∙ any_last k 1 (0 ∷ []);
                      delivered = delivered_on 0 stage.asked now;
                      entered = λ k. absurd k;
                    });
              };
          paid = λ i. member_pays i (pick i 1 1 1) ParticipantPhase.working ParticipantPhase.prepared e.phase (promise_pays (acks_in g (suc n)) i);
          begun = leads_begun st.leads n m (ap is_idle now);
        }

  -- Commit
  module _ (now : stages (suc n) ≡ stage.told) where
    -- whether it acknowledges
    abbrev effects : Bool → List Effect
    effects b = append 6 [] ∷ given b (force ∷ []) ++ enter commit ∷ given b (send (ack commit) (suc n) ∷ [])

    abbrev next : Bool → Stage
    next b = cond b stage.acking stage.finished

    next_told : (b w : Bool) → T (follows b w stage.told) → T (follows b w (next b))
    next_told true w k = k
    next_told false w k = k

    edge_told : (b : Bool) → acks_in g (suc n) ≡ b → Edge b stage.told x (done (suc n)) (suc n)
    edge_told b e = subst (λ (b : Bool). Edge b stage.told x (done (suc n)) (suc n)) e (edge_now stage.told now)

    committed : Bool → Transaction
    committed b = with_participant (suc n) (ParticipantPhase.decided commit) (transaction_after (suc n) (effects b) x)

    commit_edge : (b : Bool) → acks_in g (suc n) ≡ b → Edge b (next b) (committed b) (delivering (suc n) 3 done (suc n)) (suc n)
    unfolding committed transaction_after given with_sent with_entered with_participant message_kind same_outcome
    commit_edge true q =
        let e = edge_told true q in
        record {
          phase = update_same (suc n) (λ _. ParticipantPhase.decided commit) x.participant;
          unmarked = e.unmarked;
          sent = λ k. ap₂ (λ (b c : Bool). (b && eqb k 5) || c) (eq-eqb (suc n) (suc n) refl) (e.sent k) ∙ any_last k 5 (0 ∷ 1 ∷ 3 ∷ []);
          delivered = delivered_on 3 stage.told now;
          entered = λ k. rw (eq-eqb (suc n) (suc n) refl) tt;
        }
    commit_edge false q =
        let e = edge_told false q in
        record {
          phase = update_same (suc n) (λ _. ParticipantPhase.decided commit) x.participant;
          unmarked = e.unmarked;
          sent = e.sent;
          delivered = delivered_on 3 stage.told now;
          entered = λ k. rw (eq-eqb (suc n) (suc n) refl) tt;
        }

    commit_elsewhere : (b : Bool) → Elsewhere (suc n) x (committed b)
    unfolding committed transaction_after given with_sent with_entered with_participant message_kind
    commit_elsewhere true =
        record {
          participant = λ q h. update_other (suc n) q (λ _. ParticipantPhase.decided commit) x.participant h;
          marked = λ q h. refl;
          sent = λ q k h. ap (λ (b : Bool). (b && eqb k 5) || x.sent q k) (ne_eqb q (suc n) h);
          entered = λ q o h. ap (λ (b : Bool). (b && same_outcome o commit) || x.entered q o) (ne_eqb q (suc n) h);
        }
    commit_elsewhere false =
        record {
          participant = λ q h. update_other (suc n) q (λ _. ParticipantPhase.decided commit) x.participant h;
          marked = λ q h. refl;
          sent = λ q k h. refl;
          entered = λ q o h. ap (λ (b : Bool). (b && same_outcome o commit) || x.entered q o) (ne_eqb q (suc n) h);
        }

    -- what it leaves of the coordinator
    apart : ((eqb 0 (suc n) && same_outcome commit commit) || x.entered 0 commit) ≡ x.entered 0 commit
    apart = ap (λ (b : Bool). (b && same_outcome commit commit) || x.entered 0 commit) (ne_eqb 0 (suc n) (λ e. omega (arith, e)))

    commit_leaves : (b : Bool)
        → ((committed b).cohort ≡ x.cohort) × ((committed b).coordinator ≡ x.coordinator) × ((committed b).participant ≡ update (suc n) (λ _. ParticipantPhase.decided commit) x.participant)
        × ((i : Item) → counts_in i (effects b) ≡ pick i 1 (cond b 1 0) (cond b 1 0)) × ((committed b).entered 0 commit ≡ x.entered 0 commit)
    unfolding committed transaction_after given with_sent with_entered with_participant message_kind counted select is_append is_force is_send
    commit_leaves true = (refl, refl, refl, λ i. refl, apart)
    commit_leaves false = (refl, refl, refl, λ i. refl, apart)

    commit_row : (b : Bool) → acks_in g (suc n) ≡ b → Goes g (delivering (suc n) 3 done) x (committed b) (effects b)
    commit_row b q =
        let e = edge_told b q in
        let same = commit_leaves b in
        record {
          stages = going_on (suc n) (next b) stages;
          stands =
              record {
                cohort = same.0 ∙ st.cohort;
                leads =
                    subst (λ (c : CoordinatorPhase). Leads g (going_on (suc n) (next b) stages) ((committed b).entered 0 commit) c) (ap (λ (c : Coordinator). c.phase) (sym same.1))
                    (leads_on g stages n m stage.told (next b) now refl (λ w k. absurd k)
                    (λ w k. subst (λ (a : Bool). T (follows a w (next b))) (sym q) (next_told b w (subst (λ (a : Bool). T (follows a w stage.told)) q k)))
                    (λ k. subst T (sym same.4) k) st.leads);
                out = ap (λ (c : Coordinator). c.taken_out) same.1 ∙ st.out;
                edge = edges_on (committed b) 3 (next b) (commit_elsewhere b)
                    (subst (λ (a : Bool). Edge a (next b) (committed b) (delivering (suc n) 3 done (suc n)) (suc n)) (sym q) (commit_edge b q));
              };
          paid = λ i.
              ap₂ (λ (k : ℕ) (c : Coordinator). k + (coordinator_owes i g c.phase + members_owe i g (committed b).participant)) (same.3 i) same.1
              ∙ ap (λ (f : ℕ → ParticipantPhase). pick i 1 (cond b 1 0) (cond b 1 0) + (coordinator_owes i g x.coordinator.phase + members_owe i g f)) same.2
              ∙ member_pays i (pick i 1 (cond b 1 0) (cond b 1 0)) ParticipantPhase.prepared (ParticipantPhase.decided commit) e.phase
              (subst (λ (a : Bool). pick i 1 (cond b 1 0) (cond b 1 0) + member_owes i a (ParticipantPhase.decided commit) ≡ member_owes i a ParticipantPhase.prepared) (sym q) (commit_pays b i));
          begun = ap (λ (c : Coordinator). is_open c.phase) same.1 ∙ leads_begun st.leads n m (ap is_idle now);
        }

    pub commit_goes : Goes g (delivering (suc n) 3 done) x
        (with_participant (suc n) (ParticipantPhase.decided commit) (transaction_after (suc n) (finish (presumption_of g (suc n)) (suc n) (acks_in g (suc n)) commit).effects x))
        (finish (presumption_of g (suc n)) (suc n) (acks_in g (suc n)) commit).effects
    unfolding finish acking outcome_record committed
    commit_goes = commit_row (acks_in g (suc n)) refl
