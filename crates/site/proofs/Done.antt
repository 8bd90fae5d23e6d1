-- The numbers of a row tell firmware all that the row does: done in the header's order they are the row's effects, row by row. Assumes nothing.
use mathlib.Core.Path.{◌≡◌, refl, ap, sym, subst, ◌∙◌}
use mathlib.Core.Bool.{Bool, true, false, cond, not, ◌&&◌, and-eq-true_iff}
use mathlib.Core.List.{List, [], ◌∷◌, ◌++◌, map, append-nil}
use mathlib.Core.Option.{Option, none, some}
use Prim.Native.Nat.{ℕ, zero, suc, ◌<◌}
use native.Mathlib.Omega.{arith}
use lib.ListN.{get_or}
use lib.Dec.{eqb}
use Rattle.codec.specs.Lists.{only_if}
use Rattle.codec.specs.Sets.{member, empty, without, both, only}
use Rattle.codec.specs.Laws.Masks.{those-below}
use Rattle.codec.specs.Laws.Listed.{weight}
use Rattle.site.specs.Presumption.{Outcome, commit, abort, silence, same_outcome, Presumption, acks, presumption_number}
use Rattle.site.specs.Cohort.{Cohort, remaining, masks_of, writes_init, presumption_of, owing}
use Rattle.site.specs.Step.{Message, prepare, vote_yes, vote_no, read_only, tell, ack, messages, message_kind, Effect, append, force, enter, send, given, Input, begin, timer, received, Row}
use Rattle.site.specs.Coordinator.{CoordinatorPhase, Coordinator, ordered, tell_all, in_order, preparing, committing, aborting, telling, end_record, voted, counting, on_yes, on_no, taking_out, on_read_only, coordinator_timer, acked, acked_if, on_ack, on_begin, leaving, leaving_if, coordinator_step}
use Rattle.site.specs.Participant.{outcome_record, voting, promising, first_vote, on_prepare, acking, finish, acknowledging, acking_if, on_tell, participant_timer, participant_step, ParticipantPhase}
use Rattle.site.specs.Numbers.{Arguments, waiting_set, summary, fields_of, go_first, entry_of, row_values, appending, doing, row_read, done}
use Rattle.site.specs.Laws.Sets.{Numbered}
use Rattle.site.specs.Laws.Order.{ordered-none, remaining_order}
use Rattle.site.specs.Laws.Remaining.{in_set, remaining-below, remaining-stays}
use Rattle.site.proofs.Sent.{kind_known, ordered_by_turn, ordered_one}
use Rattle.site.proofs.Summed.{weight_ordered, row_of, kind_of, numbers_of, sum_row, read_back}

only_below : (p : ℕ) → only p < 256
unfolding only
only_below p = those-below (λ q. eqb q p)

without-below : (p m : ℕ) → without p m < 256
unfolding without
without-below p m = those-below (λ q. member q m && not (eqb q p))

within_without : (p q m : ℕ) → Numbered p → member p (without q m) ≡ true → member p m ≡ true
unfolding without
within_without p q m h e = ((and-eq-true_iff (member p m) (not (eqb p q))).0 (sym (in_set (λ r. member r m && not (eqb r q)) p h) ∙ e)).0

-- ---- rows

module _ (a : Arguments) (out : ℕ) where
  -- what firmware does with the values of a row is the row; phase and waiting set play no part in it
  abbrev pub Does : List Effect → Type 0
  Does es = done a (0 ∷ row_values 0 0 out es) ≡ es

  -- from its numbers, where the kind of its first record has four bits
  abbrev ByNumbers : List Effect → Type 0
  ByNumbers es = (doing a out (summary es) ≡ es) × ((summary es).first < 16)

  by_numbers : (es : List Effect) → ByNumbers es → Does es
  unfolding done row_values
  by_numbers es d = rw (read_back 0 0 out es d.1) d.0

  -- messages, by their kind and their set
  back : (m : Message) (ps : List ℕ) → ordered a.transaction (go_first a.cohort (message_kind m)) (weight ps) ≡ ps
      → map (send (get_or messages (kind_of m ps) prepare)) (ordered a.transaction (go_first a.cohort (kind_of m ps)) (weight ps)) ≡ map (send m) ps
  back m [] e = rw (ordered-none a.transaction (go_first a.cohort 0)) refl
  back m (p ∷ ps) e = rw e (ap (λ (x : Message). map (send x) (p ∷ ps)) (kind_known m).1)

  force_back : (f : Bool) → eqb (cond f 1 0) 1 ≡ f
  force_back true = refl
  force_back false = refl

  -- a row with its records' fields
  abbrev with_fields : ℕ → Bool → ℕ → Message → List ℕ → ℕ → List Effect
  with_fields k f n m ps l = row_of k (fields_of a out k) f n m ps l (fields_of a out l)

  whole : (k : ℕ) (f : Bool) (n : ℕ) (m : Message) (ps : List ℕ) (l : ℕ) → ordered a.transaction (go_first a.cohort (message_kind m)) (weight ps) ≡ ps
      → doing a out (numbers_of k l f n m ps) ≡ with_fields k f n m ps l
  unfolding doing
  whole k f n m ps l e = rw (force_back f, back m ps e)

  numbered_row : (k l : ℕ) → k < 16 → l < 16 → (f : Bool) (n : ℕ) → n < 3 → (m : Message) (ps : List ℕ)
      → ordered a.transaction (go_first a.cohort (message_kind m)) (weight ps) ≡ ps → ByNumbers (with_fields k f n m ps l)
  unfolding appending given entry_of
  numbered_row (suc k) l hk hl f n h m ps e = rw (sum_row (suc k) (fields_of a out (suc k)) f n h m ps l (fields_of a out l)) (whole (suc k) f n m ps l e, hk)
  numbered_row zero l hk hl true n h m ps e = rw (sum_row 0 (fields_of a out 0) true n h m ps l (fields_of a out l)) (whole 0 true n m ps l e, hk)
  numbered_row zero l hk hl false (suc n) h m ps e =
      rw (sum_row 0 (fields_of a out 0) false (suc n) h m ps l (fields_of a out l)) (whole 0 false (suc n) m ps l e, hk)
  numbered_row zero l hk hl false zero h m (p ∷ ps) e =
      rw (sum_row 0 (fields_of a out 0) false 0 h m (p ∷ ps) l (fields_of a out l)) (whole 0 false 0 m (p ∷ ps) l e, hk)
  numbered_row zero l hk hl false zero h m [] e =
      rw (sum_row 0 (fields_of a out 0) false 0 h m [] l (fields_of a out l))
      (whole l false 0 m [] 0 e ∙ append-nil (appending l (fields_of a out l)), hl)

  row_done : (k l : ℕ) → k < 16 → l < 16 → (f : Bool) (n : ℕ) → n < 3 → (m : Message) (ps : List ℕ)
      → ordered a.transaction (go_first a.cohort (message_kind m)) (weight ps) ≡ ps → Does (with_fields k f n m ps l)
  row_done k l hk hl f n h m ps e = by_numbers (with_fields k f n m ps l) (numbered_row k l hk hl f n h m ps e)

  -- without a last record
  bare_done : (k : ℕ) → k < 16 → (f : Bool) (n : ℕ) → n < 3 → (m : Message) (ps : List ℕ)
      → ordered a.transaction (go_first a.cohort (message_kind m)) (weight ps) ≡ ps
      → Does (appending k (fields_of a out k) ++ (given f (force ∷ []) ++ (entry_of n ++ map (send m) ps)))
  unfolding appending
  bare_done k hk f n h m ps e = rw (append-nil (map (send m) ps)) at (row_done k 0 hk (omega arith) f n h m ps e)

  -- and without messages
  alone_done : (k : ℕ) → k < 16 → (f : Bool) (n : ℕ) → n < 3 → Does (appending k (fields_of a out k) ++ (given f (force ∷ []) ++ (entry_of n ++ [])))
  alone_done k hk f n h = bare_done k hk f n h prepare [] (ordered-none a.transaction (go_first a.cohort (message_kind prepare)))

  none_done : Does []
  unfolding appending given entry_of
  none_done = alone_done 0 (omega arith) false 0 (omega arith)

  -- the messages' order: to a set, and to one
  in_turn_lem : (kind first to : ℕ) → to < 256 → ordered a.transaction (go_first a.cohort kind) to ≡ ordered a.transaction first to
      → ordered a.transaction (go_first a.cohort kind) (weight (ordered a.transaction first to)) ≡ ordered a.transaction first to
  in_turn_lem kind first to h e = rw (weight_ordered a.transaction first to h) e

  one_turn : (kind p : ℕ) → Numbered p → ordered a.transaction (go_first a.cohort kind) (weight (p ∷ [])) ≡ p ∷ []
  one_turn kind p q =
      let first = go_first a.cohort kind in
      rw (ordered_one a.transaction first p q) at (in_turn_lem kind first (only p) (only_below p) refl)

  one_done : (m : Message) (p : ℕ) → Numbered p → Does (send m p ∷ [])
  unfolding appending given entry_of
  one_done m p q = bare_done 0 (omega arith) false 0 (omega arith) m (p ∷ []) (one_turn (message_kind m) p q)

  -- the same row
  is_row : {P : Type 0} {x y : Row P} → some x ≡ some y → Does x.effects → Does y.effects
  is_row {P} {x} {y} e h = let q : x ≡ y = cc in rw q at h

  if_row : {P : Type 0} {y : Row P} (b : Bool) (x : Row P) → only_if b x ≡ some y → Does x.effects → Does y.effects
  unfolding only_if
  if_row true x e h = is_row e h
  if_row false x e h = cc

-- ---- the coordinator's

outcome-first : (g : Cohort) (o : Outcome) → go_first g (message_kind (tell o)) ≡ owing g o
unfolding go_first message_kind
outcome-first g commit = refl
outcome-first g abort = refl

module _ (a : Arguments) (out : ℕ) where
  abbrev left : Cohort
  left = remaining a.cohort out

  told_done : (o : Outcome) (to : ℕ) → to < 256 → Does a out (tell_all a.transaction a.cohort o to)
  unfolding tell_all in_order appending given entry_of
  told_done o to h =
      bare_done a out 0 (omega arith) false 0 (omega arith) (tell o) (ordered a.transaction (owing a.cohort o) to)
      (in_turn_lem a out (message_kind (tell o)) (owing a.cohort o) to h (rw (outcome-first a.cohort o)))

  -- of those that remain the order is that of the masks as passed
  left_turn : (o : Outcome) (to : ℕ) → to < 256 → ((p : ℕ) → Numbered p → member p to ≡ true → member p out ≡ false)
      → ordered a.transaction (go_first a.cohort (message_kind (tell o))) (weight (ordered a.transaction (owing left o) to)) ≡ ordered a.transaction (owing left o) to
  left_turn o to h s =
      in_turn_lem a out (message_kind (tell o)) (owing left o) to h (rw (outcome-first a.cohort o) (remaining_order a.transaction a.cohort out o to s))

  committing-done : Does a out (committing a.transaction left).effects
  unfolding committing tell_all in_order appending fields_of given entry_of
  committing-done =
      bare_done a out 2 (omega arith) true 1 (omega arith) (tell commit) (ordered a.transaction (owing left commit) left.members)
      (left_turn commit left.members (remaining-below a.cohort out).0 (remaining-stays a.cohort out))

  preparing-done : a.cohort.members < 256 → (b : Bool) → Does a out (preparing a.transaction a.cohort b).effects
  unfolding preparing appending fields_of given entry_of go_first message_kind
  preparing-done h b = rw (sym (ordered_by_turn a.transaction a.cohort.members)) (by b)
    where
      turn : ordered a.transaction (go_first a.cohort 0) (weight (ordered a.transaction 0 a.cohort.members)) ≡ ordered a.transaction 0 a.cohort.members
      turn = in_turn_lem a out 0 0 a.cohort.members h refl

      by : (b : Bool) → Does a out (given b (append 1 (masks_of a.cohort) ∷ force ∷ []) ++ map (send prepare) (ordered a.transaction 0 a.cohort.members))
      by true = bare_done a out 1 (omega arith) true 0 (omega arith) prepare (ordered a.transaction 0 a.cohort.members) turn
      by false = bare_done a out 0 (omega arith) false 0 (omega arith) prepare (ordered a.transaction 0 a.cohort.members) turn

  aborting-done : (init : Bool) (to : ℕ) → to < 256 → ((p : ℕ) → Numbered p → member p to ≡ true → member p out ≡ false)
      → Does a out (aborting a.transaction left init to).effects
  unfolding aborting tell_all in_order appending fields_of given entry_of
  aborting-done init to h s = by (empty (both to (owing left abort)) && init)
    where
      by : (b : Bool) → Does a out (enter abort ∷ map (send (tell abort)) (ordered a.transaction (owing left abort) to) ++ given b (append 4 [] ∷ []))
      by true = row_done a out 0 4 (omega arith) (omega arith) false 2 (omega arith) (tell abort) (ordered a.transaction (owing left abort) to) (left_turn abort to h s)
      by false = row_done a out 0 0 (omega arith) (omega arith) false 2 (omega arith) (tell abort) (ordered a.transaction (owing left abort) to) (left_turn abort to h s)

  end_record_done : (o : Outcome) → Does a out (append (end_record o) [] ∷ [])
  unfolding appending fields_of given entry_of end_record
  end_record_done commit = alone_done a out 3 (omega arith) false 0 (omega arith)
  end_record_done abort = alone_done a out 4 (omega arith) false 0 (omega arith)

-- a message is of a participant
abbrev pub Sender : Input → Type 0
Sender begin = Unit {0}
Sender timer = Unit {0}
Sender (received m p) = Numbered p

module _ (a : Arguments) (out : ℕ) where
  nobody_done : (b : Bool) → Does a out (given b (append 4 [] ∷ []))
  unfolding given end_record
  nobody_done true = end_record_done a out abort
  nobody_done false = none_done a out

  voted-done : (n b : Bool) (w : ℕ) → Does a out (voted a.transaction a.cohort out n b w).effects
  unfolding voted
  voted-done true b w = nobody_done (writes_init a.cohort)
  voted-done false true w = committing-done a out
  voted-done false false w = none_done a out

  yes_done : (p : ℕ) (c : CoordinatorPhase) → Numbered p → (r : Row CoordinatorPhase) → on_yes a.transaction a.cohort out p c ≡ some r → Does a out r.effects
  unfolding on_yes telling counting
  yes_done p CoordinatorPhase.initial q r e = cc
  yes_done p (CoordinatorPhase.collecting w) q r e =
      if_row a out (not (member p out)) (counting a.transaction a.cohort out (without p w)) e (voted-done (empty (remaining a.cohort out).members) (empty (without p w)) (without p w))
  yes_done p (CoordinatorPhase.awaiting_acks o w) q r e = is_row a out e (one_done a out (tell o) p q)
  yes_done p CoordinatorPhase.unknown q r e = is_row a out e (one_done a out (tell (silence (presumption_of a.cohort p))) p q)

  no_done : (p : ℕ) (c : CoordinatorPhase) (r : Row CoordinatorPhase) → on_no a.transaction a.cohort out p c ≡ some r → Does a out r.effects
  unfolding on_no
  no_done p CoordinatorPhase.initial r e = cc
  no_done p (CoordinatorPhase.collecting w) r e =
      let m = (remaining a.cohort out).members in
      if_row a out (not (member p out)) (aborting a.transaction (remaining a.cohort out) (writes_init a.cohort) (without p m)) e
      (aborting-done a out (writes_init a.cohort) (without p m) (without-below p m) (λ q n t. remaining-stays a.cohort out q n (within_without q p m n t)))
  no_done p (CoordinatorPhase.awaiting_acks o w) r e = cc
  no_done p CoordinatorPhase.unknown r e = cc

  timer_done : (c : CoordinatorPhase) → waiting_set c < 256 → (r : Row CoordinatorPhase) → coordinator_timer a.transaction a.cohort out c ≡ some r → Does a out r.effects
  unfolding coordinator_timer waiting_set
  timer_done CoordinatorPhase.initial w r e = cc
  timer_done (CoordinatorPhase.collecting m) w r e =
      is_row a out e (aborting-done a out (writes_init a.cohort) (remaining a.cohort out).members (remaining-below a.cohort out).0 (remaining-stays a.cohort out))
  timer_done (CoordinatorPhase.awaiting_acks o m) w r e = is_row a out e (told_done a out o m w)
  timer_done CoordinatorPhase.unknown w r e = cc

  acked-done : (o : Outcome) (b : Bool) (w : ℕ) → Does a out (acked o b w).effects
  unfolding acked
  acked-done o true w = end_record_done a out o
  acked-done o false w = none_done a out

  ack_if_done : (b : Bool) (o : Outcome) (w : ℕ) (r : Row CoordinatorPhase) → acked_if b o w ≡ some r → Does a out r.effects
  unfolding acked_if
  ack_if_done true o w r e = is_row a out e (acked-done o (empty w) w)
  ack_if_done false o w r e = cc

  ack_done : (o : Outcome) (p : ℕ) (c : CoordinatorPhase) (r : Row CoordinatorPhase) → on_ack o p c ≡ some r → Does a out r.effects
  unfolding on_ack
  ack_done o p CoordinatorPhase.initial r e = cc
  ack_done o p (CoordinatorPhase.collecting w) r e = cc
  ack_done o p (CoordinatorPhase.awaiting_acks d w) r e = ack_if_done (same_outcome o d) d (without p w) r e
  ack_done o p CoordinatorPhase.unknown r e = cc

  begin_done : a.cohort.members < 256 → (c : CoordinatorPhase) (r : Row CoordinatorPhase) → on_begin a.transaction a.cohort c ≡ some r → Does a out r.effects
  unfolding on_begin
  begin_done h CoordinatorPhase.initial r e = is_row a out e (preparing-done a out h (writes_init a.cohort))
  begin_done h (CoordinatorPhase.collecting w) r e = cc
  begin_done h (CoordinatorPhase.awaiting_acks o w) r e = cc
  begin_done h CoordinatorPhase.unknown r e = cc

-- a vote that takes p out: the set after it counts
read_only-done : (a : Arguments) (out p : ℕ) (c : CoordinatorPhase) (r : Row CoordinatorPhase) → on_read_only a.transaction a.cohort out p c ≡ some r
    → Does a (taking_out p out) r.effects
unfolding on_read_only counting
read_only-done a out p CoordinatorPhase.initial r e = cc
read_only-done a out p (CoordinatorPhase.collecting w) r e =
    if_row a (taking_out p out) (not (member p out)) (counting a.transaction a.cohort (taking_out p out) (without p w)) e
    (voted-done a (taking_out p out) (empty (remaining a.cohort (taking_out p out)).members) (empty (without p w)) (without p w))
read_only-done a out p (CoordinatorPhase.awaiting_acks o w) r e = cc
read_only-done a out p CoordinatorPhase.unknown r e = cc

-- with the set taken out after it
leaving-done : (a : Arguments) (out : ℕ) (x : Option (Row CoordinatorPhase)) → ((r : Row CoordinatorPhase) → x ≡ some r → Does a out r.effects)
    → (r : Row Coordinator) → leaving_if out x ≡ some r → Does a r.phase.taken_out r.effects
unfolding leaving_if leaving
leaving-done a out none h r e = cc
leaving-done a out (some x) h r e = by r e (h x refl)
  where
    by : (r : Row Coordinator) → some (record { effects = x.effects; phase = record { phase = x.phase; taken_out = out } }) ≡ some r → Does a out x.effects
        → Does a r.phase.taken_out r.effects
    by r e d = let q : record { effects = x.effects; phase = record { phase = x.phase; taken_out = out } } ≡ r = cc in
        subst (λ (s : Row Coordinator). Does a s.phase.taken_out s.effects) q d

-- each row of the coordinator
pub coordinator-done : (a : Arguments) → a.cohort.members < 256 → (i : Input) (c : Coordinator) → Sender i → waiting_set c.phase < 256
    → (r : Row Coordinator) → coordinator_step a.transaction a.cohort i c ≡ some r → Does a r.phase.taken_out r.effects
unfolding coordinator_step
coordinator-done a h begin c q w r e = leaving-done a c.taken_out (on_begin a.transaction a.cohort c.phase) (begin_done a c.taken_out h c.phase) r e
coordinator-done a h timer c q w r e =
    leaving-done a c.taken_out (coordinator_timer a.transaction a.cohort c.taken_out c.phase) (timer_done a c.taken_out c.phase w) r e
coordinator-done a h (received prepare p) c q w r e = cc
coordinator-done a h (received vote_yes p) c q w r e =
    leaving-done a c.taken_out (on_yes a.transaction a.cohort c.taken_out p c.phase) (yes_done a c.taken_out p c.phase q) r e
coordinator-done a h (received vote_no p) c q w r e = leaving-done a c.taken_out (on_no a.transaction a.cohort c.taken_out p c.phase) (no_done a c.taken_out p c.phase) r e
coordinator-done a h (received read_only p) c q w r e =
    leaving-done a (taking_out p c.taken_out) (on_read_only a.transaction a.cohort c.taken_out p c.phase) (read_only-done a c.taken_out p c.phase) r e
coordinator-done a h (received (tell o) p) c q w r e = cc
coordinator-done a h (received (ack o) p) c q w r e = leaving-done a c.taken_out (on_ack o p c.phase) (ack_done a c.taken_out o p c.phase) r e

-- ---- a participant's: it takes nobody out

module _ (a : Arguments) (presumption : Presumption) (stated : a.presumption ≡ presumption_number presumption) (p : ℕ) (q : Numbered p) where
  promising-done : Does a 0 (promising presumption p).effects
  unfolding promising appending fields_of given entry_of
  promising-done = rw (sym stated) (bare_done a 0 5 (omega arith) true 0 (omega arith) vote_yes (p ∷ []) (one_turn a 0 (message_kind vote_yes) p q))

  first_done : (mark : Bool) → Does a 0 (first_vote presumption p mark).effects
  unfolding first_vote voting
  first_done true = one_done a 0 read_only p q
  first_done false = promising-done

  acking-done : (b : Bool) (o : Outcome) → Does a 0 (given b (send (ack o) p ∷ []))
  unfolding given
  acking-done true o = one_done a 0 (ack o) p q
  acking-done false o = none_done a 0

  -- a new outcome, forced or not, acknowledged or not
  new_done : (f b : Bool) (o : Outcome) → Does a 0 (append (outcome_record o) [] ∷ given f (force ∷ []) ++ enter o ∷ given b (send (ack o) p ∷ []))
  unfolding appending fields_of given entry_of outcome_record
  new_done f true commit = bare_done a 0 6 (omega arith) f 1 (omega arith) (ack commit) (p ∷ []) (one_turn a 0 (message_kind (ack commit)) p q)
  new_done f true abort = bare_done a 0 7 (omega arith) f 2 (omega arith) (ack abort) (p ∷ []) (one_turn a 0 (message_kind (ack abort)) p q)
  new_done f false commit = alone_done a 0 6 (omega arith) f 1 (omega arith)
  new_done f false abort = alone_done a 0 7 (omega arith) f 2 (omega arith)

  prepare_done : (mark : Bool) (x : ParticipantPhase) (r : Row ParticipantPhase) → on_prepare presumption p mark x ≡ some r → Does a 0 r.effects
  unfolding on_prepare voting
  prepare_done mark ParticipantPhase.working r e = is_row a 0 e (first_done mark)
  prepare_done mark ParticipantPhase.prepared r e = is_row a 0 e (one_done a 0 vote_yes p q)
  prepare_done mark (ParticipantPhase.decided commit) r e = cc
  prepare_done mark (ParticipantPhase.decided abort) r e = is_row a 0 e (one_done a 0 vote_no p q)
  prepare_done mark ParticipantPhase.unknown r e = is_row a 0 e (one_done a 0 vote_no p q)

  again_done : (b : Bool) (o : Outcome) (r : Row ParticipantPhase) → acking_if presumption p b o ≡ some r → Does a 0 r.effects
  unfolding acking_if acknowledging acking
  again_done true o r e = is_row a 0 e (acking-done (acks presumption o) o)
  again_done false o r e = cc

  tell_done : (o : Outcome) (x : ParticipantPhase) (r : Row ParticipantPhase) → on_tell presumption p o x ≡ some r → Does a 0 r.effects
  unfolding on_tell finish acknowledging acking
  tell_done commit ParticipantPhase.working r e = cc
  tell_done abort ParticipantPhase.working r e = is_row a 0 e (new_done (acks presumption abort) (acks presumption abort) abort)
  tell_done commit ParticipantPhase.prepared r e = is_row a 0 e (new_done (acks presumption commit) (acks presumption commit) commit)
  tell_done abort ParticipantPhase.prepared r e = is_row a 0 e (new_done (acks presumption abort) (acks presumption abort) abort)
  tell_done commit (ParticipantPhase.decided d) r e = again_done (same_outcome commit d) commit r e
  tell_done abort (ParticipantPhase.decided d) r e = again_done (same_outcome abort d) abort r e
  tell_done commit ParticipantPhase.unknown r e = is_row a 0 e (acking-done (acks presumption commit) commit)
  tell_done abort ParticipantPhase.unknown r e = is_row a 0 e (acking-done (acks presumption abort) abort)

  own_timer_done : (x : ParticipantPhase) (r : Row ParticipantPhase) → participant_timer presumption p x ≡ some r → Does a 0 r.effects
  unfolding participant_timer voting appending given entry_of
  own_timer_done ParticipantPhase.working r e = is_row a 0 e (alone_done a 0 0 (omega arith) false 2 (omega arith))
  own_timer_done ParticipantPhase.prepared r e = is_row a 0 e (one_done a 0 vote_yes p q)
  own_timer_done (ParticipantPhase.decided o) r e = cc
  own_timer_done ParticipantPhase.unknown r e = cc

  -- each row of a participant
  pub participant-done : (mark : Bool) (i : Input) (x : ParticipantPhase) (r : Row ParticipantPhase) → participant_step presumption p mark i x ≡ some r
      → Does a 0 r.effects
  unfolding participant_step
  participant-done mark begin x r e = cc
  participant-done mark timer x r e = own_timer_done x r e
  participant-done mark (received prepare s) x r e = prepare_done mark x r e
  participant-done mark (received vote_yes s) x r e = cc
  participant-done mark (received vote_no s) x r e = cc
  participant-done mark (received read_only s) x r e = cc
  participant-done mark (received (tell o) s) x r e = tell_done o x r e
  participant-done mark (received (ack o) s) x r e = cc

pub values-done : (a : Arguments) (phase w out : ℕ) (es : List Effect) → Does a out es → done a (0 ∷ row_values phase w out es) ≡ es
unfolding done row_read row_values
values-done a phase w out es d = d
