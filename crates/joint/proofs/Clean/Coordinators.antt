-- The coordinator's rows in a clean run: begin, a Yes, the last Yes, an ack and the last ack.
use Prim.Native.Nat.{ℕ, zero, suc, ◌+◌, ◌<◌}
use mathlib.Core.Path.{◌≡◌, refl, sym, ap, ap₂, ◌∙◌, subst}
use mathlib.Core.Bool.{Bool, true, false, cond, not, ◌&&◌, ◌||◌, and-true, and-false}
use mathlib.Core.List.{List, [], ◌∷◌, ◌++◌, map}
use native.Mathlib.Omega.{arith}
use lib.ListN.{length, length-append}
use lib.Dec.{T, eqb}
use borrow.Author.Tests.{eq-eqb, ne_eqb}
use Rattle.codec.specs.Lists.{select}
use Rattle.codec.specs.Sets.{member, empty, without}
use Rattle.codec.specs.Laws.Tests.{and_left, and_right, true_of, of_true}
use Rattle.codec.specs.Laws.Masks.{those-below}
use Rattle.site.specs.Presumption.{commit, same_outcome}
use Rattle.site.specs.Cohort.{Cohort, masks_of, writes_init, owing}
use Rattle.site.specs.Coordinator.{CoordinatorPhase, end_record, until_acked, in_turn, ordered, in_order, tell_all, preparing, committing, acked}
use Rattle.site.specs.Participant.{ParticipantPhase}
use Rattle.site.specs.Step.{Message, prepare, tell, message_kind, Effect, append, force, enter, send, given}
use Rattle.site.specs.Laws.Order.{in_turn_adds, order_length}
use Rattle.joint.specs.State.{Transaction, with_coordinator, with_sent, with_entered}
use Rattle.joint.specs.Run.{is_append, is_force, is_send}
use Rattle.joint.specs.Bill.{size}
use Rattle.joint.specs.Laws.Effects.{transaction_after, counted}
use Rattle.joint.proofs.Base.Booleans.{is_false, alike_same}
use Rattle.joint.proofs.Base.Sends.{sent-each, any_turn, any_ordered}
use Rattle.joint.proofs.Base.Placed.{counted-append}
use Rattle.joint.proofs.Safety.Sets.{empty-none, has_member, member-without, without_byte, without-part, no_zero, member-owing, owing-member}
use Rattle.joint.proofs.Clean.Stages as stage
use Rattle.joint.proofs.Clean.Stages.{Stage, asks, follows, acks_in, IsMember, Within, initial, collecting, decided, Edge, Stands, Item, records, forces, sends, pick, coordinator_owes, leader_owes, members_owe, owes}
use Rattle.joint.proofs.Clean.Members.{going_on, each_on, delivering, Elsewhere}
use Rattle.joint.proofs.Clean.Participants.{counts_in, Goes, acks-begun, any_last, edges_on, delivered_on}

-- ---- sends to a list

sends-counted : (m : Message) (l : List ℕ) → (counted is_append (map (send m) l) ≡ 0) × (counted is_force (map (send m) l) ≡ 0) × (counted is_send (map (send m) l) ≡ length l)
unfolding counted select is_append is_force is_send
sends-counted m [] = (refl, refl, refl)
sends-counted m (p ∷ l) = let q = sends-counted m l in (q.0, q.1, ap suc q.2)

-- in front of them f, which sends nothing: so many records, and so many forces
sends_behind : (f : List Effect) (r k : ℕ) → counted is_append f ≡ r → counted is_force f ≡ k → counted is_send f ≡ 0 → (m : Message) (l : List ℕ) (i : Item)
    → counts_in i (f ++ map (send m) l) ≡ pick i r k (length l)
sends_behind f r k a b c m l records = counted-append is_append f (map (send m) l) ∙ omega (arith, a, (sends-counted m l).0)
sends_behind f r k a b c m l forces = counted-append is_force f (map (send m) l) ∙ omega (arith, b, (sends-counted m l).1)
sends_behind f r k a b c m l sends = counted-append is_send f (map (send m) l) ∙ omega (arith, c, (sends-counted m l).2)

none-counted : (i : Item) → counts_in i [] ≡ 0
unfolding counted select
none-counted records = refl
none-counted forces = refl
none-counted sends = refl

end_counts : (i : Item) → counts_in i (append 3 [] ∷ []) ≡ pick i 1 0 0
unfolding counted select is_append is_force is_send
end_counts i = refl

asks_none : (s : Stage) → T (asks false s) → s ≡ stage.counted
asks_none stage.idle k = absurd k
asks_none stage.asked k = absurd k
asks_none stage.voted k = absurd k
asks_none stage.counted k = refl
asks_none stage.told k = absurd k
asks_none stage.acking k = absurd k
asks_none stage.finished k = absurd k

module _ (t : ℕ) (g : Cohort) (small : g.members < 256) (stages : ℕ → Stage) (done : ℕ → ℕ → Bool) (x : Transaction) (st : Stands g stages done x) where
  -- the coordinator's part becomes c
  abbrev leading : CoordinatorPhase → Transaction → Transaction
  leading c y = with_coordinator 0 (record { phase = c; taken_out = x.coordinator.taken_out }) y

  participants_stay : (es : List Effect) (y : Transaction) → (transaction_after 0 es y).participant ≡ y.participant
  unfolding transaction_after
  participants_stay [] y = refl
  participants_stay (append k fs ∷ es) y = participants_stay es y
  participants_stay (force ∷ es) y = participants_stay es y
  participants_stay (enter o ∷ es) y = participants_stay es (with_entered 0 o y) ∙ (unfold with_entered in refl)
  participants_stay (send m p ∷ es) y = participants_stay es (with_sent p (message_kind m) y) ∙ (unfold with_sent in refl)

  -- it pays for the effects
  leader_pays : (i : Item) (es : List Effect) (k : ℕ) (c d : CoordinatorPhase) → x.coordinator.phase ≡ c → counts_in i es ≡ k → k + coordinator_owes i g d ≡ coordinator_owes i g c
      → counts_in i es + owes i g (leading d (transaction_after 0 es x)) ≡ owes i g x
  unfolding with_coordinator
  leader_pays i es k c d e n paid =
      ap (λ (f : ℕ → ParticipantPhase). counts_in i es + (coordinator_owes i g d + members_owe i g f)) (participants_stay es x)
      ∙ omega (arith, n, paid, ap (coordinator_owes i g) e)

  -- the edges do not read it
  aside : (c : CoordinatorPhase) (y : Transaction) {a : Bool} {s : Stage} {d : ℕ → Bool} {p : ℕ} → Edge a s y d p → Edge a s (leading c y) d p
  unfolding with_coordinator
  aside c y e = record { phase = e.phase; unmarked = e.unmarked; sent = e.sent; delivered = e.delivered; entered = e.entered }

  all_within : Within g g.members
  all_within = (small, λ n k. k)

  -- ---- begin

  module _ (unasked : x.coordinator.phase ≡ CoordinatorPhase.initial) (idle : (n : ℕ) → IsMember g n → stages (suc n) ≡ stage.idle) (some : empty g.members ≡ false) where
    abbrev front : Bool → List Effect
    front b = given b (append 1 (masks_of g) ∷ force ∷ [])

    abbrev asking : Bool → List Effect
    asking b = front b ++ map (send prepare) (in_turn t g.members)

    -- what is appended and forced leaves the transaction
    sent_behind : (b : Bool) (l : List Effect) → transaction_after 0 (front b ++ l) x ≡ transaction_after 0 l x
    unfolding given transaction_after
    sent_behind true l = refl
    sent_behind false l = refl

    front_counts : (b : Bool) → (counted is_append (front b) ≡ cond b 1 0) × (counted is_force (front b) ≡ cond b 1 0) × (counted is_send (front b) ≡ 0)
    unfolding given counted select is_append is_force is_send
    front_counts true = (refl, refl, refl)
    front_counts false = (refl, refl, refl)

    begin_counts : (b : Bool) (i : Item) → counts_in i (asking b) ≡ pick i (cond b 1 0) (cond b 1 0) (size g.members)
    unfolding size
    begin_counts b i =
        let c = front_counts b in
        sends_behind (front b) (cond b 1 0) (cond b 1 0) c.0 c.1 c.2 prepare (in_turn t g.members) i
        ∙ ap (λ (k : ℕ). pick i (cond b 1 0) (cond b 1 0) k) (in_turn_adds length length-append t g.members)

    begin_pays : (i : Item) (b a : Bool) (n : ℕ) → pick i (cond b 1 0) (cond b 1 0) n + leader_owes i b a n (CoordinatorPhase.collecting g.members) ≡ leader_owes i b a n CoordinatorPhase.initial
    begin_pays records b a n = refl
    begin_pays forces b a n = refl
    begin_pays sends b a n = refl

    begun : Transaction
    begun = leading (CoordinatorPhase.collecting g.members) (transaction_after 0 (map (send prepare) (in_turn t g.members)) x)

    begun_stands : Stands g (λ _. stage.asked) done begun
    unfolding begun with_coordinator message_kind
    begun_stands =
        rw (sent-each 0 prepare (in_turn t g.members) x)
        (record {
          cohort = st.cohort;
          leads = collecting g.members all_within some (λ n k. k);
          out = st.out;
          edge = λ n k.
              let e = subst (λ (s : Stage). Edge (acks_in g (suc n)) s x (done (suc n)) (suc n)) (idle n k) (st.edge n k) in
              record {
                phase = e.phase;
                unmarked = e.unmarked;
                sent = λ j.
                    ap₂ (λ (b c : Bool). (b && eqb j 0) || c) (any_turn t (suc n) g.members small ∙ true_of _ k) (e.sent j) ∙ any_last j 0 [];
                delivered = e.delivered;
                entered = e.entered;
              };
        })

    pub begin_goes : Goes g done x
        (with_coordinator 0 (record { phase = (preparing t g (writes_init g)).phase; taken_out = x.coordinator.taken_out }) (transaction_after 0 (preparing t g (writes_init g)).effects x))
        (preparing t g (writes_init g)).effects
    unfolding preparing
    begin_goes =
        record {
          stages = λ _. stage.asked;
          stands = subst (λ (y : Transaction). Stands g (λ _. stage.asked) done (leading (CoordinatorPhase.collecting g.members) y)) (sym (sent_behind (writes_init g) _)) (unfold begun in begun_stands);
          paid = λ i.
              leader_pays i (asking (writes_init g)) _ CoordinatorPhase.initial (CoordinatorPhase.collecting g.members) unasked (begin_counts (writes_init g) i)
              (begin_pays i (writes_init g) (not (empty (owing g commit))) (size g.members));
          begun = unfold with_coordinator in refl;
        }

  -- ---- a message of a member

  -- w are waited for
  module _ (n : ℕ) (m : IsMember g n) (w : ℕ) (within : Within g w) where
    abbrev left : ℕ
    left = without (suc n) w

    left_within : Within g left
    left_within = (without_byte (suc n) w, λ j k. without-part (suc n) w g.members (λ q. within_all q) (suc j) k)
      where
        within_all : (q : ℕ) → T (member q w) → T (member q g.members)
        within_all zero k = absurd (no_zero w k)
        within_all (suc j) k = within.1 j k

    in_left : (j : ℕ) → IsMember g j → member (suc j) left ≡ (member (suc j) w && not (eqb (suc j) (suc n)))
    in_left j k = member-without (suc n) w j g.members small k

    nothing_else : Elsewhere (suc n) x x
    nothing_else = record { participant = λ q h. refl; marked = λ q h. refl; sent = λ q k h. refl; entered = λ q o h. refl }

    -- its Yes is on its way
    module _ (now : stages (suc n) ≡ stage.voted) (hears : (j : ℕ) → IsMember g j → T (asks (member (suc j) w) (stages (suc j))))
        (at : x.coordinator.phase ≡ CoordinatorPhase.collecting w) where
      voter : Edge (acks_in g (suc n)) stage.voted x (done (suc n)) (suc n)
      voter = subst (λ (s : Stage). Edge (acks_in g (suc n)) s x (done (suc n)) (suc n)) now (st.edge n m)

      -- it is counted, and the others stay
      yes_edges : (j : ℕ) → IsMember g j → Edge (acks_in g (suc j)) (going_on (suc n) stage.counted stages (suc j)) x (delivering (suc n) 1 done (suc j)) (suc j)
      yes_edges =
          edges_on g small stages done x st n m x 1 stage.counted nothing_else
          (record {
            phase = voter.phase;
            unmarked = voter.unmarked;
            sent = voter.sent;
            delivered = delivered_on g small stages done x st n m 1 stage.voted now;
            entered = λ k. absurd k;
          })

      -- whose vote is missing
      still_asks : (j : ℕ) → IsMember g j → T (asks (member (suc j) left) (going_on (suc n) stage.counted stages (suc j)))
      still_asks j k =
          subst (λ (b : Bool). T (asks b (going_on (suc n) stage.counted stages (suc j)))) (sym (in_left j k))
          (each_on (λ q s. T (asks (member q w && not (eqb q (suc n))) s)) (suc n) stage.counted stages (suc j)
          (λ e. rw (eq-eqb (suc j) (suc n) e, and-false) tt)
          (λ h. rw (ne_eqb (suc j) (suc n) h, and-true) (hears j k)))

      -- some votes are missing yet
      pub yes_goes : empty left ≡ false
          → Goes g (delivering (suc n) 1 done) x (with_coordinator 0 (record { phase = CoordinatorPhase.collecting left; taken_out = x.coordinator.taken_out }) (transaction_after 0 [] x)) []
      unfolding transaction_after with_coordinator
      yes_goes some =
          record {
            stages = going_on (suc n) stage.counted stages;
            stands =
                record {
                  cohort = st.cohort;
                  leads = collecting left left_within some still_asks;
                  out = st.out;
                  edge = λ j k. aside (CoordinatorPhase.collecting left) x (yes_edges j k);
                };
            paid = λ i. leader_pays i [] 0 (CoordinatorPhase.collecting w) (CoordinatorPhase.collecting left) at (none-counted i) (omega arith);
            begun = refl;
          }

      -- no vote is missing
      module _ (none : empty left ≡ true) where
        counted_all : (j : ℕ) → IsMember g j → going_on (suc n) stage.counted stages (suc j) ≡ stage.counted
        counted_all j k =
            asks_none (going_on (suc n) stage.counted stages (suc j))
            (subst (λ (b : Bool). T (asks b (going_on (suc n) stage.counted stages (suc j)))) (is_false (member (suc j) left) (empty-none left (suc j) (of_true none))) (still_asks j k))

        abbrev deciding : List Effect
        deciding = append 2 (masks_of g) ∷ force ∷ enter commit ∷ []

        decided_now : Transaction
        decided_now = leading (until_acked commit (owing g commit)) (transaction_after 0 (map (send (tell commit)) (ordered t (owing g commit) g.members)) (with_entered 0 commit x))

        owing_within : Within g (owing g commit)
        owing_within = (unfold owing in those-below _, λ j k. (owing-member g commit j k).0)

        decided_stands : Stands g (λ _. stage.told) (delivering (suc n) 1 done) decided_now
        unfolding decided_now with_coordinator message_kind
        decided_stands =
            rw (sent-each 0 (tell commit) (ordered t (owing g commit) g.members) (with_entered 0 commit x))
            (unfold with_entered same_outcome in
            record {
              cohort = st.cohort;
              leads = decided (owing g commit) owing_within tt (λ j k. rw (member-owing g commit j small k) (alike_same (acks_in g (suc j))));
              out = st.out;
              edge = λ j k.
                  let e =
                  subst (λ (s : Stage). Edge (acks_in g (suc j)) s x (delivering (suc n) 1 done (suc j)) (suc j)) (counted_all j k) (yes_edges j k) in
                  record {
                    phase = e.phase;
                    unmarked = e.unmarked;
                    sent = λ i.
                        ap₂ (λ (b c : Bool). (b && eqb i 3) || c) (any_ordered t (suc j) (owing g commit) g.members small ∙ true_of _ k) (e.sent i)
                        ∙ any_last i 3 (0 ∷ 1 ∷ []);
                    delivered = e.delivered;
                    entered = λ i. absurd i;
                  };
            })

        decide_counts : (i : Item) → counts_in i (deciding ++ map (send (tell commit)) (ordered t (owing g commit) g.members)) ≡ pick i 1 1 (size g.members)
        unfolding size counted select is_append is_force is_send
        decide_counts i =
            sends_behind deciding 1 1 refl refl refl (tell commit) (ordered t (owing g commit) g.members) i
            ∙ ap (λ (k : ℕ). pick i 1 1 k) (order_length t (owing g commit) g.members)

        decide_pays : (i : Item) (c b : Bool) (k w : ℕ) → pick i 1 1 k + leader_owes i c (not b) k (cond b CoordinatorPhase.unknown (CoordinatorPhase.awaiting_acks commit w)) ≡ leader_owes i c (not b) k (CoordinatorPhase.collecting 0)
        decide_pays records c true k w = refl
        decide_pays records c false k w = refl
        decide_pays forces c true k w = refl
        decide_pays forces c false k w = refl
        decide_pays sends c true k w = omega arith
        decide_pays sends c false k w = omega arith

        pub last_yes_goes : Goes g (delivering (suc n) 1 done) x
            (with_coordinator 0 (record { phase = (committing t g).phase; taken_out = x.coordinator.taken_out }) (transaction_after 0 (committing t g).effects x)) (committing t g).effects
        unfolding committing tell_all in_order
        last_yes_goes =
            record {
              stages = λ _. stage.told;
              stands = unfold transaction_after decided_now in decided_stands;
              paid = λ i.
                  leader_pays i (deciding ++ map (send (tell commit)) (ordered t (owing g commit) g.members)) (pick i 1 1 (size g.members))
                  (CoordinatorPhase.collecting w) (until_acked commit (owing g commit)) at (decide_counts i)
                  (unfold until_acked in decide_pays i (writes_init g) (empty (owing g commit)) (size g.members) (owing g commit));
              begun = unfold with_coordinator in acks-begun (owing g commit);
            }

    -- its ack is on its way
    module _ (now : stages (suc n) ≡ stage.acking) (entered : T (x.entered 0 commit))
        (awaits : (j : ℕ) → IsMember g j → T (follows (acks_in g (suc j)) (member (suc j) w) (stages (suc j)))) where
      awaited : T (acks_in g (suc n) && member (suc n) w)
      awaited = subst (λ (s : Stage). T (follows (acks_in g (suc n)) (member (suc n) w) s)) now (awaits n m)

      its_ack : acks_in g (suc n) ≡ true
      its_ack = true_of _ (and_left (acks_in g (suc n)) (member (suc n) w) awaited)

      -- so the coordinator waits
      pub waits : until_acked commit w ≡ CoordinatorPhase.awaiting_acks commit w
      unfolding until_acked
      waits = rw (has_member w (suc n) (true_of _ (and_right (acks_in g (suc n)) (member (suc n) w) awaited))) refl

      acker : Edge true stage.acking x (done (suc n)) (suc n)
      acker =
          subst (λ (a : Bool). Edge a stage.acking x (done (suc n)) (suc n)) its_ack
          (subst (λ (s : Stage). Edge (acks_in g (suc n)) s x (done (suc n)) (suc n)) now (st.edge n m))

      acked_edge : Edge true stage.finished x (delivering (suc n) 5 done (suc n)) (suc n)
      acked_edge =
          record {
            phase = acker.phase;
            unmarked = acker.unmarked;
            sent = acker.sent;
            delivered = delivered_on g small stages done x st n m 5 stage.acking now;
            entered = acker.entered;
          }

      ack_edges : (j : ℕ) → IsMember g j → Edge (acks_in g (suc j)) (going_on (suc n) stage.finished stages (suc j)) x (delivering (suc n) 5 done (suc j)) (suc j)
      ack_edges =
          edges_on g small stages done x st n m x 5 stage.finished nothing_else
          (subst (λ (a : Bool). Edge a stage.finished x (delivering (suc n) 5 done (suc n)) (suc n)) (sym its_ack) acked_edge)

      still_awaits : (j : ℕ) → IsMember g j → T (follows (acks_in g (suc j)) (member (suc j) left) (going_on (suc n) stage.finished stages (suc j)))
      still_awaits j k =
          subst (λ (b : Bool). T (follows (acks_in g (suc j)) b (going_on (suc n) stage.finished stages (suc j)))) (sym (in_left j k))
          (each_on (λ q s. T (follows (acks_in g q) (member q w && not (eqb q (suc n))) s)) (suc n) stage.finished stages (suc j)
          (λ e. rw (eq-eqb (suc j) (suc n) e, and-false) tt)
          (λ h. rw (ne_eqb (suc j) (suc n) h, and-true) (awaits j k)))

      ack_stands : Stands g (going_on (suc n) stage.finished stages) (delivering (suc n) 5 done) (leading (until_acked commit left) x)
      unfolding with_coordinator
      ack_stands =
          record {
            cohort = st.cohort;
            leads = decided left left_within entered still_awaits;
            out = st.out;
            edge = λ j k. aside (until_acked commit left) x (ack_edges j k);
          }

      -- whether no ack is missing
      ack_stands_as : (b : Bool) → empty left ≡ b
          → Stands g (going_on (suc n) stage.finished stages) (delivering (suc n) 5 done) (leading (cond b CoordinatorPhase.unknown (CoordinatorPhase.awaiting_acks commit left)) x)
      unfolding until_acked
      ack_stands_as b e =
          subst (λ (b : Bool). Stands g (going_on (suc n) stage.finished stages) (delivering (suc n) 5 done) (leading (cond b CoordinatorPhase.unknown (CoordinatorPhase.awaiting_acks commit left)) x)) e ack_stands

      ack_row : (b : Bool) → empty left ≡ b → x.coordinator.phase ≡ CoordinatorPhase.awaiting_acks commit w
          → Goes g (delivering (suc n) 5 done) x
          (with_coordinator 0 (record { phase = (acked commit b left).phase; taken_out = x.coordinator.taken_out }) (transaction_after 0 (acked commit b left).effects x))
          (acked commit b left).effects
      unfolding acked end_record transaction_after
      ack_row true e at =
          record {
            stages = going_on (suc n) stage.finished stages;
            stands = ack_stands_as true e;
            paid = λ i. leader_pays i (append 3 [] ∷ []) (pick i 1 0 0) (CoordinatorPhase.awaiting_acks commit w) CoordinatorPhase.unknown at (end_counts i) (omega arith);
            begun = unfold with_coordinator in refl;
          }
      ack_row false e at =
          record {
            stages = going_on (suc n) stage.finished stages;
            stands = ack_stands_as false e;
            paid = λ i. leader_pays i [] 0 (CoordinatorPhase.awaiting_acks commit w) (CoordinatorPhase.awaiting_acks commit left) at (none-counted i) (omega arith);
            begun = unfold with_coordinator in refl;
          }

      pub ack_goes : x.coordinator.phase ≡ CoordinatorPhase.awaiting_acks commit w
          → Goes g (delivering (suc n) 5 done) x
          (with_coordinator 0 (record { phase = (acked commit (empty left) left).phase; taken_out = x.coordinator.taken_out }) (transaction_after 0 (acked commit (empty left) left).effects x))
          (acked commit (empty left) left).effects
      ack_goes = ack_row (empty left) refl
