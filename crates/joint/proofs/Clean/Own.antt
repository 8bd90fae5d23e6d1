-- The transaction's own events in a clean run: begin, and a message that is on its way.
use Prim.Native.Nat.{ℕ, suc, ◌<◌}
use mathlib.Core.Path.{◌≡◌, refl, sym, ap, ◌∙◌, subst}
use mathlib.Core.Bool.{Bool, true, false, not, true≢false}
use mathlib.Core.Option.{Option, none, some, some-injective, none-ne-some}
use lib.ListN.{get_or}
use lib.Dec.{T, eqb}
use borrow.Author.Tests.{not-true}
use Rattle.codec.specs.Lists.{any, only_if}
use Rattle.codec.specs.Sets.{member, empty, without}
use Rattle.codec.specs.Laws.Tests.{every_at}
use Rattle.codec.specs.Laws.Members.{none_in}
use Rattle.site.specs.Presumption.{commit, abort, same_outcome}
use Rattle.site.specs.Cohort.{Cohort, writes_init, presumption_of}
use Rattle.site.specs.Coordinator.{CoordinatorPhase, until_acked, preparing, committing, on_begin, voted, counting, on_yes, acked, acked_if, on_ack, leaving, leaving_if, coordinator_step}
use Rattle.site.specs.Participant.{ParticipantPhase, promising, first_vote, on_prepare, finish, on_tell, participant_step}
use Rattle.site.specs.Step.{Message, prepare, vote_yes, vote_no, read_only, tell, ack, message_kind, coordinator_of, receiver, begin, received, Row}
use Rattle.site.specs.Laws.Remaining.{remaining-none}
use Rattle.joint.specs.State.{Run, Transaction, with_coordinator, with_participant}
use Rattle.joint.specs.Event.{beginning, delivery}
use Rattle.joint.specs.Plan.{Plan, row_plan, planned, step, or_nothing, plan}
use Rattle.joint.specs.Run.{carry}
use Rattle.joint.specs.Laws.Effects.{transaction_after}
use Rattle.joint.proofs.Clean.Stages as stage
use Rattle.joint.proofs.Clean.Stages.{Stage, sent_at, asks, follows, acks_in, is_idle, IsMember, Within, Leads, initial, collecting, decided, is_open, Edge}
use Rattle.joint.proofs.Clean.Members.{delivering}
use Rattle.joint.proofs.Clean.Participants.{Goes, acks-begun, promise_goes, commit_goes}
use Rattle.joint.proofs.Clean.Coordinators.{begin_goes, yes_goes, last_yes_goes, waits, ack_goes}
use Rattle.joint.proofs.Clean.Steps.{stage_due, due, never_sent, never_sent_lem, At, Next, row_next}

-- a plan that is the row's
as_row : {X : Type 0} (s t : ℕ) (f : X → Transaction → Transaction) (P : Plan → Type 0) (o : Option (Row X)) (row : Row X) (p : Plan) → planned s t f o ≡ some p → o ≡ some row → P (row_plan s t f row) → P p
unfolding planned
as_row s t f P o row p a e k = subst P (some-injective _ _ (sym (ap (planned s t f) e) ∙ a)) k

-- and that of a message
as_message : {X : Type 0} (s t : ℕ) (f : X → Transaction → Transaction) (P : Plan → Type 0) (o : Option (Row X)) (row : Row X) (p : Plan)
    → some (or_nothing s (planned s t f o)) ≡ some p → o ≡ some row → P (row_plan s t f row) → P p
unfolding planned or_nothing
as_message s t f P o row p a e k = subst P (some-injective _ _ (sym (ap (λ (o : Option (Row _)). some (or_nothing s (planned s t f o))) e) ∙ a)) k

no_row : {X : Type 0} (s t : ℕ) (f : X → Transaction → Transaction) (o : Option (Row X)) (p : Plan) → planned s t f o ≡ some p → o ≡ none → ⊥
unfolding planned
no_row s t f o p a e = none-ne-some p (sym (ap (planned s t f) e) ∙ a)

begun_once : (t : ℕ) (g : Cohort) (c : CoordinatorPhase) → is_open c ≡ false → on_begin t g c ≡ none
unfolding on_begin
begun_once t g CoordinatorPhase.initial e = absurd (true≢false e)
begun_once t g (CoordinatorPhase.collecting w) e = refl
begun_once t g (CoordinatorPhase.awaiting_acks o w) e = refl
begun_once t g CoordinatorPhase.unknown e = refl

module _ (t : ℕ) (g : Cohort) (small : g.members < 256) (few : g.presume_commit < 256) (someone : empty g.members ≡ false) (stages : ℕ → Stage) (done : ℕ → ℕ → Bool) (r : Run)
    (h : At t g stages done r) where
  abbrev x : Transaction
  x = r.transaction t

  -- ---- the coordinator's rows

  pub begin_next : (p : Plan) → plan r (beginning t) ≡ some p → Next t g done true true r (carry r p none)
  unfolding plan step coordinator_step
  begin_next p e = go x.coordinator.phase refl h.stands.leads
    where
      made : (c : CoordinatorPhase) → x.coordinator.phase ≡ c
          → coordinator_step t x.cohort begin x.coordinator ≡ leaving_if x.coordinator.taken_out (on_begin t g c)
      made c q = unfold coordinator_step in rw (h.stands.cohort, q) refl

      again : (c : CoordinatorPhase) → x.coordinator.phase ≡ c → is_open c ≡ false → ⊥
      again c q k =
          no_row 0 t (with_coordinator 0) _ p e (made c q ∙ ap (leaving_if x.coordinator.taken_out) (begun_once t g c k) ∙ (unfold leaving_if in refl))

      go : (c : CoordinatorPhase) → x.coordinator.phase ≡ c → Leads g stages (x.entered 0 commit) c → Next t g done true true r (carry r p none)
      go _ q (initial idle) =
          as_row 0 t (with_coordinator 0) (λ p. Next t g done true true r (carry r p none)) _
          (leaving x.coordinator.taken_out (preparing t g (writes_init g))) p e (made CoordinatorPhase.initial q ∙ (unfold on_begin leaving_if in refl))
          (unfold carry row_plan leaving in row_next t g done r 0 (with_coordinator 0 (record { phase = (preparing t g (writes_init g)).phase; taken_out = x.coordinator.taken_out })) (preparing t g (writes_init g)).effects true h.up
          (begin_goes t g small stages done x h.stands q idle someone))
      go _ q (collecting w within missing hears) = absurd (again (CoordinatorPhase.collecting w) q refl)
      go _ q (decided w within entered awaits) = absurd (again (until_acked commit w) q (acks-begun w))

  -- ---- a message of a member

  module _ (n : ℕ) (m : IsMember g n) where
    abbrev Delivered : Message → Plan → Type 0
    Delivered k p = Next t g (delivering (suc n) (message_kind k) done) true false r (carry r p none)

    edge_at : (s : Stage) → stages (suc n) ≡ s → Edge (acks_in g (suc n)) s x (done (suc n)) (suc n)
    edge_at s e = subst (λ (s : Stage). Edge (acks_in g (suc n)) s x (done (suc n)) (suc n)) e (h.stands.edge n m)

    prepare_next : stages (suc n) ≡ stage.asked → (p : Plan) → plan r (delivery t (suc n) prepare) ≡ some p → Delivered prepare p
    unfolding plan step receiver promising
    prepare_next now p e =
        let edge = edge_at stage.asked now in
        as_message (suc n) t (with_participant (suc n)) (Delivered prepare) _ (promising (presumption_of g (suc n)) (suc n)) p e
        (unfold participant_step on_prepare first_vote in rw (h.stands.cohort, edge.unmarked, edge.phase) refl)
        (unfold carry row_plan message_kind in row_next t g (delivering (suc n) 0 done) r (suc n) (with_participant (suc n) ParticipantPhase.prepared) (promising (presumption_of g (suc n)) (suc n)).effects false h.up
        (promise_goes g small stages done x h.stands n m now))

    commit_next : stages (suc n) ≡ stage.told → (p : Plan) → plan r (delivery t (suc n) (tell commit)) ≡ some p → Delivered (tell commit) p
    unfolding plan step receiver finish
    commit_next now p e =
        let edge = edge_at stage.told now in
        as_message (suc n) t (with_participant (suc n)) (Delivered (tell commit)) _ (finish (presumption_of g (suc n)) (suc n) (acks_in g (suc n)) commit) p e
        (unfold participant_step on_tell in rw (h.stands.cohort, edge.phase) refl)
        (unfold carry row_plan message_kind in row_next t g (delivering (suc n) 3 done) r (suc n) (with_participant (suc n) (ParticipantPhase.decided commit)) (finish (presumption_of g (suc n)) (suc n) (acks_in g (suc n)) commit).effects false h.up
        (commit_goes g small stages done x h.stands n m now))

    -- of a message to the coordinator
    heard : (k : Message) → receiver k (suc n) ≡ 0 → (row : Row CoordinatorPhase) (p : Plan) → plan r (delivery t (suc n) k) ≡ some p
        → coordinator_step t x.cohort (received k (suc n)) x.coordinator ≡ leaving_if x.coordinator.taken_out (some row)
        → Goes g (delivering (suc n) (message_kind k) done) x (with_coordinator 0 (record { phase = row.phase; taken_out = x.coordinator.taken_out }) (transaction_after 0 row.effects x)) row.effects
        → Delivered k p
    unfolding plan
    heard k to row p e made goes =
        as_message 0 t (with_coordinator 0) (Delivered k) (coordinator_step t x.cohort (received k (suc n)) x.coordinator) (leaving x.coordinator.taken_out row) p
        (unfold step in rw to at e) (made ∙ (unfold leaving_if in refl))
        (unfold carry row_plan leaving in row_next t g (delivering (suc n) (message_kind k) done) r 0 (with_coordinator 0 (record { phase = row.phase; taken_out = x.coordinator.taken_out })) row.effects false h.up goes)

    -- a row of the coordinator, with what it makes of the transaction
    abbrev Leaves : Message → Row CoordinatorPhase → Type 0
    Leaves k row =
        Goes g (delivering (suc n) (message_kind k) done) x
        (with_coordinator 0 (record { phase = row.phase; taken_out = x.coordinator.taken_out }) (transaction_after 0 row.effects x)) row.effects

    yes_row : stages (suc n) ≡ stage.voted → (w : ℕ) → Within g w → ((j : ℕ) → IsMember g j → T (asks (member (suc j) w) (stages (suc j))))
        → x.coordinator.phase ≡ CoordinatorPhase.collecting w → (b : Bool) → empty (without (suc n) w) ≡ b → Leaves vote_yes (voted t g 0 false b (without (suc n) w))
    unfolding voted message_kind
    yes_row now w within hears q true k =
        subst (λ (y : Cohort). Leaves vote_yes (committing t y)) (sym (remaining-none g small few)) (last_yes_goes t g small stages done x h.stands n m w within now hears q k)
    yes_row now w within hears q false k = yes_goes t g small stages done x h.stands n m w within now hears q k

    -- where its Yes is on its way votes are collected
    yes_next : stages (suc n) ≡ stage.voted → (p : Plan) → plan r (delivery t (suc n) vote_yes) ≡ some p → Delivered vote_yes p
    yes_next now p e = go x.coordinator.phase refl h.stands.leads
      where
        made : (w : ℕ) → x.coordinator.phase ≡ CoordinatorPhase.collecting w
            → coordinator_step t x.cohort (received vote_yes (suc n)) x.coordinator ≡ leaving_if x.coordinator.taken_out (some (voted t g 0 false (empty (without (suc n) w)) (without (suc n) w)))
        made w q =
            unfold coordinator_step on_yes only_if counting in
            rw (h.stands.cohort, q, h.stands.out, none_in (suc n), remaining-none g small few, someone) refl

        go : (c : CoordinatorPhase) → x.coordinator.phase ≡ c → Leads g stages (x.entered 0 commit) c → Delivered vote_yes p
        go _ q (initial idle) = absurd (true≢false (sym (ap is_idle (sym now ∙ idle n m))))
        go _ q (collecting w within missing hears) =
            heard vote_yes (unfold receiver coordinator_of in refl) _ p e (made w q) (yes_row now w within hears q (empty (without (suc n) w)) refl)
        go _ q (decided w within entered awaits) = absurd (subst (λ (s : Stage). T (follows (acks_in g (suc n)) (member (suc n) w) s)) now (awaits n m))

    ack_row : stages (suc n) ≡ stage.acking → (w : ℕ) → Within g w → T (x.entered 0 commit)
        → ((j : ℕ) → IsMember g j → T (follows (acks_in g (suc j)) (member (suc j) w) (stages (suc j))))
        → x.coordinator.phase ≡ CoordinatorPhase.awaiting_acks commit w → Leaves (ack commit) (acked commit (empty (without (suc n) w)) (without (suc n) w))
    unfolding message_kind
    ack_row now w within entered awaits q = ack_goes t g small stages done x h.stands n m w within now entered awaits q

    -- where its ack is on its way acks are awaited
    ack_next : stages (suc n) ≡ stage.acking → (p : Plan) → plan r (delivery t (suc n) (ack commit)) ≡ some p → Delivered (ack commit) p
    ack_next now p e = go x.coordinator.phase refl h.stands.leads
      where
        made : (w : ℕ) → x.coordinator.phase ≡ CoordinatorPhase.awaiting_acks commit w
            → coordinator_step t x.cohort (received (ack commit) (suc n)) x.coordinator ≡ leaving_if x.coordinator.taken_out (some (acked commit (empty (without (suc n) w)) (without (suc n) w)))
        made w q = unfold coordinator_step on_ack acked_if same_outcome in rw q refl

        go : (c : CoordinatorPhase) → x.coordinator.phase ≡ c → Leads g stages (x.entered 0 commit) c → Delivered (ack commit) p
        go _ q (initial idle) = absurd (true≢false (sym (ap is_idle (sym now ∙ idle n m))))
        go _ q (collecting w within missing hears) = absurd (subst (λ (s : Stage). T (asks (member (suc n) w) s)) now (hears n m))
        go _ q (decided w within entered awaits) =
            let now-waits = q ∙ waits t g small stages done x h.stands n m w within now entered awaits in
            heard (ack commit) (unfold receiver coordinator_of in refl) _ p e (made w now-waits) (ack_row now w within entered awaits now-waits)

    -- ---- each message that was sent, and was not delivered before

    stage_now : (k : Message) → x.sent (suc n) (message_kind k) ≡ true → done (suc n) (message_kind k) ≡ false → stages (suc n) ≡ stage_due (message_kind k)
    stage_now k sent new =
        let edge = h.stands.edge n m in
        due (acks_in g (suc n)) (stages (suc n)) k (sym (edge.sent (message_kind k)) ∙ sent) (sym (edge.delivered (message_kind k)) ∙ new)

    -- kinds that are never sent
    unsent : (j : ℕ) → x.sent (suc n) j ≡ true → not (any (eqb j) (sent_at (acks_in g (suc n)) (stages (suc n)))) ≡ true → ⊥
    unsent j sent never = true≢false (sym (sym ((h.stands.edge n m).sent j) ∙ sent) ∙ not-true _ never)

    never : (i : ℕ) → get_or (never_sent (acks_in g (suc n)) (stages (suc n))) i true ≡ true
    never = every_at (never_sent (acks_in g (suc n)) (stages (suc n))) (never_sent_lem (acks_in g (suc n)) (stages (suc n)))

    pub message_next : (k : Message) → x.sent (suc n) (message_kind k) ≡ true → done (suc n) (message_kind k) ≡ false
        → (p : Plan) → plan r (delivery t (suc n) k) ≡ some p → Delivered k p
    unfolding message_kind
    message_next prepare sent new = prepare_next (stage_now prepare sent new)
    message_next vote_yes sent new = yes_next (stage_now vote_yes sent new)
    message_next vote_no sent new = absurd (unsent 2 sent (never 0))
    message_next (tell commit) sent new = commit_next (stage_now (tell commit) sent new)
    message_next (tell abort) sent new = absurd (unsent 4 sent (never 1))
    message_next (ack commit) sent new = ack_next (stage_now (ack commit) sent new)
    message_next (ack abort) sent new = absurd (unsent 6 sent (never 2))
    message_next read_only sent new = absurd (unsent 7 sent (never 3))
