-- The arguments of the step on numbers. Assumes nothing.
use mathlib.Core.Path.{◌≡◌, refl, ap, ◌∙◌}
use mathlib.Core.Bool.{Bool, true, false, cond, not, ◌&&◌, ◌||◌, and-false}
use mathlib.Core.List.{List, [], ◌∷◌}
use mathlib.Core.Option.{Option}
use Prim.Native.Nat.{ℕ, zero, suc, ◌<◌, ◌≤◌}
use lib.ListN.{get_or}
use lib.Dec.{eqb, leb, ltb}
use native.Mathlib.Omega.{arith}
use borrow.Author.Tests.{eqb-true, le-leb, lt-leb, not-false}
use Rattle.codec.specs.Lists.{any, every}
use Rattle.codec.specs.Sets.{participants, member, empty, both, part}
use Rattle.codec.specs.Laws.Tests.{or_none, alike, alike_eq, bools_at, leb-ltb}
use Rattle.site.specs.Presumption.{presumption_number}
use Rattle.site.specs.Cohort.{Cohort, presumption_of}
use Rattle.site.specs.Step.{Row, answer_number, answered, answer_if}
use Rattle.site.specs.Coordinator.{Coordinator}
use Rattle.site.specs.Participant.{ParticipantPhase}
use Rattle.site.specs.Numbers.{Arguments, kinds_received, receives, coordinator_from, participant_from, coordinator_answer, participant_answer, waiting_in_range, taken_out_in_range, is_member, names_none, in_range_at, arguments_in_range, refusal, coordinator_values, participant_values, coordinator_result, participant_result, step_at, site_step}
use Rattle.site.specs.Inside.{coordinator_numbers, participant_numbers}

-- ---- the coordinator's

three_tests : (a b c : Bool) → ((a && b) && c) ≡ every (a ∷ b ∷ c ∷ [])
unfolding every
three_tests a b c = alike_eq _ _ (bools_at side (a ∷ b ∷ c ∷ []) tt)
  where
    side : List Bool → Bool
    side bs =
        let b : ℕ → Bool = λ i. get_or bs i false in
        alike ((b 0 && b 1) && b 2) (every (b 0 ∷ b 1 ∷ b 2 ∷ []))

-- the set taken out, as the program tests it
pub out_fits : (g : Cohort) (phase w out : ℕ)
    → ((part out g.members && eqb (both out w) 0) && (not (eqb phase 0) || eqb out 0)) ≡ taken_out_in_range g phase w out
unfolding taken_out_in_range empty
out_fits g phase w out = three_tests (part out g.members) (eqb (both out w) 0) (not (eqb phase 0) || eqb out 0)

-- r: the kind is received; w, u, z: waiting set, set taken out and mark fit; k: it is a message; n: nobody is named; m: a member; q: with its presumption
coordinator_test : (r w u z k n m q : Bool)
    → (r && every (w ∷ u ∷ z ∷ cond (not k) n (m && q) ∷ [])) ≡ ((((k && q) || (not k && n)) && ((w && u) && z)) && (r && (not k || m)))
unfolding every
coordinator_test r w u z k n m q = alike_eq _ _ (bools_at side (r ∷ w ∷ u ∷ z ∷ k ∷ n ∷ m ∷ q ∷ []) tt)
  where
    side : List Bool → Bool
    side bs =
        let b : ℕ → Bool = λ i. get_or bs i false in
        alike (b 0 && every (b 1 ∷ b 2 ∷ b 3 ∷ cond (not (b 4)) (b 5) (b 6 && b 7) ∷ []))
        ((((b 4 && b 7) || (not (b 4) && b 5)) && ((b 1 && b 2) && b 3)) && (b 0 && (not (b 4) || b 6)))

result_if : (b : Bool) (phase w out : ℕ) (o : Option (Row Coordinator))
    → cond b (coordinator_result phase w out (answered o)) refusal ≡ coordinator_result phase w out (answer_if b o)
unfolding coordinator_result coordinator_values answer_number refusal answer_if
result_if true phase w out o = refl
result_if false phase w out o = refl

module _ (a : Arguments) where
  -- as the program tests it
  abbrev pub named : Bool
  named =
      (ltb a.kind 16 && eqb a.presumption (presumption_number (presumption_of a.cohort a.participant)))
      || (not (ltb a.kind 16) && (eqb a.participant 0 && eqb a.presumption 0))

  abbrev pub fits : Bool
  fits = (waiting_in_range a.cohort a.phase a.waiting && taken_out_in_range a.cohort a.phase a.waiting a.taken_out) && eqb a.mark 0

  split : coordinator_numbers a
      ≡ cond ((named && fits) && (receives 0 a.kind && (leb 16 a.kind || member a.participant a.cohort.members))) (step_at 0 a) refusal
  unfolding coordinator_numbers in_range_at names_none is_member
  split =
      rw (leb-ltb 16 a.kind)
      (ap (λ (b : Bool). cond b (step_at 0 a) refusal)
      (coordinator_test (receives 0 a.kind) (waiting_in_range a.cohort a.phase a.waiting) (taken_out_in_range a.cohort a.phase a.waiting a.taken_out) (eqb a.mark 0) (ltb a.kind 16) (eqb a.participant 0 && eqb a.presumption 0) (member a.participant a.cohort.members) (eqb a.presumption (presumption_number (presumption_of a.cohort a.participant)))))

  pub coordinator-refused : (named && fits) ≡ false → coordinator_numbers a ≡ refusal
  coordinator-refused e = split ∙ rw e refl

  pub coordinator-taken : (named && fits) ≡ true
      → coordinator_numbers a
      ≡ coordinator_result a.phase a.waiting a.taken_out
      (coordinator_answer a.transaction a.cohort a.kind a.participant (record { phase = coordinator_from a.phase a.waiting; taken_out = a.taken_out }))
  unfolding step_at coordinator_answer
  coordinator-taken e = split ∙ rw e (result_if _ a.phase a.waiting a.taken_out _)

-- ---- a participant's

own_result_if : (b : Bool) (phase : ℕ) (o : Option (Row ParticipantPhase)) → cond b (participant_result phase (answered o)) refusal ≡ participant_result phase (answer_if b o)
unfolding participant_result participant_values answer_number refusal answer_if
own_result_if true phase o = refl
own_result_if false phase o = refl

module _ (a : Arguments) where
  pub participant-refused : is_member a ≡ false → participant_numbers a ≡ refusal
  unfolding participant_numbers
  participant-refused e = rw (e, and-false (receives 1 a.kind))

  pub participant-taken : is_member a ≡ true → any (eqb a.participant) participants ≡ true
      → participant_numbers a
      ≡ participant_result a.phase
      (participant_answer (presumption_of a.cohort a.participant) a.participant (eqb a.mark 1) a.kind (participant_from a.phase))
  unfolding participant_numbers participant_answer
  participant-taken e n = rw (e, n) (own_result_if _ a.phase _)

-- ---- the call's

-- s: the site; r: the kind is received; t, f, e: transaction, phase and members out of range; p: PC is a part; i: the rest
whole_test : (s r t f e p i : Bool)
    → every (s ∷ r ∷ not t ∷ not f ∷ not e ∷ true ∷ p ∷ i ∷ []) ≡ (not (((t || f) || e) || not p) && (s && (r && i)))
unfolding every
whole_test s r t f e p i = alike_eq _ _ (bools_at side (s ∷ r ∷ t ∷ f ∷ e ∷ p ∷ i ∷ []) tt)
  where
    side : List Bool → Bool
    side bs =
        let b : ℕ → Bool = λ i. get_or bs i false in
        alike (every (b 0 ∷ b 1 ∷ not (b 2) ∷ not (b 3) ∷ not (b 4) ∷ true ∷ b 5 ∷ b 6 ∷ []))
        (not (((b 2 || b 3) || b 4) || not (b 5)) && (b 0 && (b 1 && b 6)))

module _ (a : Arguments) where
  -- as the program tests it
  abbrev pub wrong : Bool
  wrong = ((ltb 7 a.transaction || ltb 4 a.phase) || ltb a.cohort.members 1) || not (part a.cohort.presume_commit a.cohort.members)

  whole : a.cohort.members < 256
      → site_step a ≡ cond (not wrong && (leb a.site 8 && (receives a.site a.kind && in_range_at a.site a))) (step_at a.site a) refusal
  unfolding site_step arguments_in_range
  whole h =
      rw (leb-ltb a.transaction 7, leb-ltb a.phase 4, leb-ltb 1 a.cohort.members, le-leb a.cohort.members 255 (omega arith))
      (ap (λ (b : Bool). cond b (step_at a.site a) refusal)
      (whole_test (leb a.site 8) (receives a.site a.kind) (ltb 7 a.transaction) (ltb 4 a.phase) (ltb a.cohort.members 1) (part a.cohort.presume_commit a.cohort.members) (in_range_at a.site a)))

  pub call_refused : a.cohort.members < 256 → wrong ≡ true → site_step a ≡ refusal
  call_refused h e = whole h ∙ rw e refl

  pub call_passed : a.cohort.members < 256 → wrong ≡ false
      → site_step a ≡ cond (leb a.site 8 && (receives a.site a.kind && in_range_at a.site a)) (step_at a.site a) refusal
  call_passed h e = whole h ∙ rw e refl

-- at the coordinator
pub call_coordinator : (a : Arguments) → a.cohort.members < 256 → wrong a ≡ false → a.site ≡ 0
    → site_step a ≡ coordinator_numbers a
unfolding coordinator_numbers
call_coordinator a h e z = call_passed a h e ∙ rw z refl

-- at a participant: it waits for nobody, takes nobody out, has a mark and is named itself, as the program tests it
abbrev pub foreign_at : ℕ → Arguments → Bool
foreign_at s a = ((not (eqb a.waiting 0) || not (eqb a.taken_out 0)) || ltb 1 a.mark) || not (eqb a.participant s)

abbrev pub foreign : Arguments → Bool
foreign a = foreign_at a.site a

own_test : (u o l v i : Bool) → every (u ∷ o ∷ not l ∷ v ∷ i ∷ []) ≡ (not (((not u || not o) || l) || not v) && i)
unfolding every
own_test u o l v i = alike_eq _ _ (bools_at side (u ∷ o ∷ l ∷ v ∷ i ∷ []) tt)
  where
    side : List Bool → Bool
    side bs =
        let b : ℕ → Bool = λ i. get_or bs i false in
        alike (every (b 0 ∷ b 1 ∷ not (b 2) ∷ b 3 ∷ b 4 ∷ [])) (not (((not (b 0) || not (b 1)) || b 2) || not (b 3)) && b 4)

own : (s : ℕ) (a : Arguments) → (s ≡ 0 → ⊥) → in_range_at s a ≡ (not (foreign_at s a) && is_member a)
unfolding in_range_at
own zero a z = absurd (z refl)
own (suc n) a z = rw (leb-ltb a.mark 1) (own_test (eqb a.waiting 0) (eqb a.taken_out 0) (ltb 1 a.mark) (eqb a.participant (suc n)) (is_member a))

own_step : (s : ℕ) (a : Arguments) → (s ≡ 0 → ⊥) → a.participant ≡ s → cond (receives s a.kind && is_member a) (step_at s a) refusal ≡ participant_numbers a
unfolding participant_numbers receives kinds_received step_at
own_step zero a z e = absurd (z refl)
own_step (suc n) a z e = rw e refl

pub call_foreign : (a : Arguments) → a.cohort.members < 256 → wrong a ≡ false → (a.site ≡ 0 → ⊥) → foreign a ≡ true → site_step a ≡ refusal
call_foreign a h e z f =
    call_passed a h e ∙ rw (own a.site a z, f, and-false (receives a.site a.kind), and-false (leb a.site 8)) refl

pub call_participant : (a : Arguments) → a.cohort.members < 256 → wrong a ≡ false → (a.site ≡ 0 → ⊥) → a.site < 9 → foreign a ≡ false
    → site_step a ≡ participant_numbers a
call_participant a h e z l f =
    let mine = eqb-true a.participant a.site (not-false _ (or_none ((not (eqb a.waiting 0) || not (eqb a.taken_out 0)) || ltb 1 a.mark) (not (eqb a.participant a.site)) f).1) in
    call_passed a h e ∙ rw (own a.site a z, f, le-leb a.site 8 (omega (arith, l))) (own_step a.site a z mine)

pub call_beyond : (a : Arguments) → a.cohort.members < 256 → wrong a ≡ false → 9 ≤ a.site → site_step a ≡ refusal
call_beyond a h e b = call_passed a h e ∙ rw (lt-leb a.site 8 b) refl
