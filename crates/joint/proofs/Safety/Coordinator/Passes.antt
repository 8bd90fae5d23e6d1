-- What the coordinator does, as one participant meets it: a change of stage, and a message, keep the participant's invariant. Closed tests.
use mathlib.Core.Path.{◌≡◌}
use mathlib.Core.Bool.{Bool, false, not, ◌&&◌, ◌||◌}
use lib.Dec.{T, eqb}
use borrow.Author.Tests.{not-true}
use Rattle.codec.specs.Lists.{any}
use Rattle.codec.specs.Laws.Tests.{and_left, and_right, true_of}
use Rattle.site.specs.Presumption.{Outcome, same_outcome, Presumption, acks, silence}
use Rattle.site.specs.Step.{Message, prepare, vote_yes, vote_no, read_only, ack, message_kind}
use Rattle.site.specs.Participant.{outcome_record}
use Rattle.joint.proofs.Base.Booleans.{◌⇒◌, mp, to-⇒, or-either, or_map}
use Rattle.joint.proofs.Safety.Tables.{Status, has, Stage, fresh, asking, done, fits, may, may_enter, is_counted, Fine, passes, ack_sent, may_send}
use Rattle.joint.proofs.Safety.Finite.{all_bool, at_bool, all_outcome, at_outcome, all_presumption, at_presumption, all_status, at_status, all_stage, at_stage, all_message, at_message}

-- ---- a change of stage

abbrev keeps_all : Presumption → Stage → Stage → Status → Bool → Bool → Bool
keeps_all c m m' s p r =
    fits c m' s p r
    && (all_message (λ g. may m s p g ⇒ may m' s p g) && all_outcome (λ o. may_enter m s r o ⇒ may_enter m' s r o))

abbrev pass_keeps : Presumption → Bool → Bool → Bool → Bool → Stage → Stage → Status → Bool → Bool
pass_keeps c y n a r m m' s p =
    fits c m s p r
    ⇒ (y ⇒ may m s p vote_yes)
    ⇒ (n ⇒ may m s p vote_no)
    ⇒ (a ⇒ ack_sent (may m s p) m)
    ⇒ (r ⇒ may m s p read_only)
    ⇒ keeps_all c m m' s p r

abbrev pass_test : Presumption → Stage → Stage → Bool → Bool → Bool → Bool → Bool
pass_test c m m' y n a r =
    passes c y n a r m m'
    ⇒ (is_counted m' ⇒ (is_counted m || (y || r))) && all_status (λ s. all_bool (pass_keeps c y n a r m m' s))

abbrev pass_votes : Presumption → Stage → Stage → Bool
pass_votes c m m' = all_bool (λ y. all_bool (λ n. all_bool (λ a. all_bool (pass_test c m m' y n a))))

pass_tests : T (all_presumption (λ c. all_stage (λ m. all_stage (pass_votes c m))))
unfolding any has same_outcome acks silence outcome_record
pass_tests = tt

pass_test_lem : (c : Presumption) (m m' : Stage) (y n a r : Bool) → T (pass_test c m m' y n a r)
pass_test_lem c m m' y n a r =
    at_bool (pass_test c m m' y n a)
    (at_bool (λ a. all_bool (pass_test c m m' y n a))
    (at_bool (λ n. all_bool (λ a. all_bool (pass_test c m m' y n a)))
    (at_bool (λ y. all_bool (λ n. all_bool (λ a. all_bool (pass_test c m m' y n a))))
    (at_stage (pass_votes c m) (at_stage (λ m. all_stage (pass_votes c m)) (at_presumption (λ c. all_stage (λ m. all_stage (pass_votes c m))) pass_tests c) m) m') y) n) a) r

ack_may : (m : Stage) (f g : Message → Bool) → ((k : Message) → T (f k) → T (g k)) → T (ack_sent f m) → T (ack_sent g m)
ack_may fresh f g h t = t
ack_may (asking w) f g h t = t
ack_may (done o u) f g h t = h (ack o) t

module _ {c : Presumption} {k : Bool} {m : Stage} {s : Status} {sent : Message → Bool} {entered : Outcome → Bool} {voted : Bool} (ok : Fine c k m s sent entered voted) where
  pub pass_fine : (m' : Stage) → T (passes c (sent vote_yes) (sent vote_no) (ack_sent sent m) (sent read_only) m m') → Fine c k m' s sent entered voted
  pass_fine m' t =
      record {
        shape = and_left (fits c m' s p r) _ kept;
        messages = λ g u. mp (may m s p g) (may m' s p g) (at_message (λ g. may m s p g ⇒ may m' s p g) (and_left (all_message (λ g. may m s p g ⇒ may m' s p g)) enters flags) g) (ok.messages g u);
        entries = λ o u. mp (may_enter m s r o) (may_enter m' s r o) (at_outcome (λ o. may_enter m s r o ⇒ may_enter m' s r o) (and_right (all_message (λ g. may m s p g ⇒ may m' s p g)) enters flags) o) (ok.entries o u);
        counted = λ u. or-either (is_counted m) (y || r) ok.counted (λ k. k) (mp (is_counted m') (is_counted m || (y || r)) (and_left (is_counted m' ⇒ (is_counted m || (y || r))) (all_status (λ s. all_bool (pass_keeps c y n a r m m' s))) test) u);
        honest = ok.honest;
        looked = ok.looked;
      }
    where
      p : Bool
      p = sent prepare

      y : Bool
      y = sent vote_yes

      n : Bool
      n = sent vote_no

      a : Bool
      a = ack_sent sent m

      r : Bool
      r = sent read_only

      enters : Bool
      enters = all_outcome (λ o. may_enter m s r o ⇒ may_enter m' s r o)

      test : T ((is_counted m' ⇒ (is_counted m || (y || r))) && all_status (λ s. all_bool (pass_keeps c y n a r m m' s)))
      test = mp (passes c y n a r m m') _ (pass_test_lem c m m' y n a r) t

      here : T (pass_keeps c y n a r m m' s p)
      here =
          at_bool (pass_keeps c y n a r m m' s)
          (at_status (λ s. all_bool (pass_keeps c y n a r m m' s)) (and_right (is_counted m' ⇒ (is_counted m || (y || r))) _ test) s) p

      kept : T (keeps_all c m m' s p r)
      kept =
          mp (r ⇒ may m s p read_only) _
          (mp (a ⇒ ack_sent (may m s p) m) _
          (mp (n ⇒ may m s p vote_no) _ (mp (y ⇒ may m s p vote_yes) _ (mp (fits c m s p r) _ here ok.shape) (to-⇒ y _ (ok.messages vote_yes))) (to-⇒ n _ (ok.messages vote_no)))
          (to-⇒ a _ (ack_may m sent (may m s p) ok.messages))) (to-⇒ r _ (ok.messages read_only))

      flags : T (all_message (λ g. may m s p g ⇒ may m' s p g) && all_outcome (λ o. may_enter m s r o ⇒ may_enter m' s r o))
      flags = and_right (fits c m' s p r) _ kept

-- ---- a message from the coordinator

abbrev pub also : Message → (Message → Bool) → Message → Bool
also g f k = eqb (message_kind k) (message_kind g) || f k

abbrev send_keeps : Presumption → Stage → Bool → Message → Status → Bool → Bool → Bool
send_keeps c m y g s p r =
    let p' = eqb 0 (message_kind g) || p in
    fits c m s p r ⇒ (y ⇒ may m s p vote_yes) ⇒ fits c m s p' r && all_message (λ k. (eqb (message_kind k) (message_kind g) || may m s p k) ⇒ may m s p' k)

-- it is no vote
abbrev send_test : Presumption → Stage → Bool → Message → Bool
send_test c m y g =
    may_send c m y g
    ⇒ not (eqb 1 (message_kind g)) && (not (eqb 7 (message_kind g)) && all_status (λ s. all_bool (λ p. all_bool (send_keeps c m y g s p))))

send_tests : T (all_presumption (λ c. all_stage (λ m. all_bool (λ y. all_message (send_test c m y)))))
unfolding any has same_outcome acks silence outcome_record message_kind
send_tests = tt

send_test_lem : (c : Presumption) (m : Stage) (y : Bool) (g : Message) → T (send_test c m y g)
send_test_lem c m y =
    at_message (send_test c m y)
    (at_bool (λ y. all_message (send_test c m y))
    (at_stage (λ m. all_bool (λ y. all_message (send_test c m y)))
    (at_presumption (λ c. all_stage (λ m. all_bool (λ y. all_message (send_test c m y)))) send_tests c) m) y)

module _ {c : Presumption} {k : Bool} {m : Stage} {s : Status} {sent : Message → Bool} {entered : Outcome → Bool} {voted : Bool} (ok : Fine c k m s sent entered voted) where
  -- y: whether it answers a Yes
  pub send_fine : (y : Bool) → (T y → T (sent vote_yes)) → (g : Message) → T (may_send c m y g) → Fine c k m s (also g sent) entered voted
  unfolding message_kind
  send_fine y h g t =
      record {
        shape = rw no_look (and_left (fits c m s p' r) (all_message more) kept);
        messages = λ j u. mp (eqb (message_kind j) (message_kind g) || may m s p j) (may m s p' j) (at_message more (and_right (fits c m s p' r) _ kept) j) (or_map (eqb (message_kind j) (message_kind g)) (sent j) (may m s p j) (ok.messages j) u);
        entries = rw no_look ok.entries;
        counted = λ u. rw (no_yes, no_look) (ok.counted u);
        honest = rw no_yes ok.honest;
        looked = rw (no_yes, no_look) ok.looked;
      }
    where
      p : Bool
      p = sent prepare

      p' : Bool
      p' = eqb 0 (message_kind g) || p

      r : Bool
      r = sent read_only

      more : Message → Bool
      more j = (eqb (message_kind j) (message_kind g) || may m s p j) ⇒ may m s p' j

      each : Bool
      each = all_status (λ s. all_bool (λ p. all_bool (send_keeps c m y g s p)))

      test : T (not (eqb 1 (message_kind g)) && (not (eqb 7 (message_kind g)) && each))
      test = mp (may_send c m y g) _ (send_test_lem c m y g) t

      rest : T (not (eqb 7 (message_kind g)) && each)
      rest = and_right (not (eqb 1 (message_kind g))) _ test

      no_yes : eqb 1 (message_kind g) ≡ false
      no_yes = not-true _ (true_of _ (and_left (not (eqb 1 (message_kind g))) _ test))

      no_look : eqb 7 (message_kind g) ≡ false
      no_look = not-true _ (true_of _ (and_left (not (eqb 7 (message_kind g))) each rest))

      kept : T (fits c m s p' r && all_message more)
      kept =
          mp (y ⇒ may m s p vote_yes) _
          (mp (fits c m s p r) _ (at_bool (send_keeps c m y g s p) (at_bool (λ p. all_bool (send_keeps c m y g s p)) (at_status (λ s. all_bool (λ p. all_bool (send_keeps c m y g s p))) (and_right (not (eqb 7 (message_kind g))) each rest) s) p) r) ok.shape)
          (to-⇒ y _ (λ u. ok.messages vote_yes (h u)))
