-- One participant, by the kinds of its records: all that happens at it keeps the tables. By computation, over the rows of the step themselves.
use Prim.Native.Nat.{ℕ, zero, suc, ◌/◌}
use mathlib.Core.Path.{◌≡◌, refl, sym, ap, ◌∙◌}
use mathlib.Core.Bool.{Bool, true, false, cond, not, ◌&&◌, ◌||◌}
use mathlib.Core.List.{List, [], ◌∷◌, ◌++◌, map}
use mathlib.Core.Option.{Option, none, some}
use lib.ListN.{length, take, drop}
use lib.Dec.{T, eqb, leb}
use borrow.Author.Tests.{eqb-true, not-true}
use Rattle.codec.specs.Lists.{any, same}
use Rattle.codec.specs.Open.{codec_opens}
use Rattle.codec.specs.Laws.Tests.{and_left, and_right, true_of, alike, alike_eq, same_list}
use Rattle.site.specs.Open.{site_opens}
use Rattle.site.specs.Presumption.{Outcome, commit, abort, same_outcome, Presumption}
use Rattle.site.specs.Cohort.{Cohort}
use Rattle.site.specs.Step.{Message, prepare, vote_yes, read_only, message_kind, Input, begin, timer, received, Effect, append, force, enter, send, Row}
use Rattle.site.specs.Participant.{ParticipantPhase, participant_step, participant_restart}
use Rattle.site.specs.Numbers.{participant_phase, participant_from}
use Rattle.joint.specs.State.{survivors}
use Rattle.joint.specs.Plan.{closes, newest, closed}
use Rattle.joint.proofs.Base.Booleans.{◌⇒◌, mp}
use Rattle.joint.proofs.Safety.Tables.{Status, working, prepared, gone, half, lone, shut, off, off_voted, off_shut, is_up, phase_of, stable_kinds, unforced_kinds, has, Stage, fits, may, may_enter, trail}
use Rattle.joint.proofs.Safety.Finite.{all_bool, at_bool, all_outcome, all_presumption, at_presumption, all_status, at_status, all_stage, at_stage, all_message, at_message}
use Rattle.joint.proofs.Safety.Invariant.{record_for}
use Rattle.joint.proofs.Base.Lists.{any_found}
use Rattle.joint.proofs.Base.Survivors.{keeps_first}

-- ---- a participant, by kinds

-- up or down, its phase and its records; since some moment: what it sent and entered, and whether it voted Yes from a stable record
pub record Part : Type 0 where
  pub up : Bool
  pub phase : ParticipantPhase
  pub stable : List ℕ
  pub unforced : List ℕ
  pub sent : Message → Bool
  pub entered : Outcome → Bool
  pub voted : Bool

-- nothing is sent, entered or voted
abbrev pub still : Bool → ParticipantPhase → List ℕ → List ℕ → Part
still u x ks js =
    record { up = u; phase = x; stable = ks; unforced = js; sent = λ g. false; entered = λ o. false; voted = false }

abbrev pub of_status : Status → Part
of_status s = still (is_up s) (phase_of s) (stable_kinds s) (unforced_kinds s)

-- what it sent, entered and voted stays
abbrev pub moved : Bool → ParticipantPhase → List ℕ → List ℕ → Part → Part
moved u x ks js y =
    record { up = u; phase = x; stable = ks; unforced = js; sent = y.sent; entered = y.entered; voted = y.voted }

abbrev pub effect : Effect → Part → Part
effect (append k fs) y = moved y.up y.phase y.stable (y.unforced ++ (k ∷ [])) y
effect force y = moved y.up y.phase (y.stable ++ y.unforced) [] y
effect (enter o) y =
    record {
      up = y.up;
      phase = y.phase;
      stable = y.stable;
      unforced = y.unforced;
      sent = y.sent;
      entered = λ d. same_outcome d o || y.entered d;
      voted = y.voted;
    }
effect (send m q) y =
    record {
      up = y.up;
      phase = y.phase;
      stable = y.stable;
      unforced = y.unforced;
      sent = λ g. eqb (message_kind g) (message_kind m) || y.sent g;
      entered = y.entered;
      voted = (eqb (message_kind vote_yes) (message_kind m) && has 5 y.stable) || y.voted;
    }

abbrev pub effects : List Effect → Part → Part
effects [] y = y
effects (e ∷ es) y = effects es (effect e y)

-- down, with these unforced records kept
abbrev pub halted : List ℕ → Part → Part
halted ks y = moved false ParticipantPhase.unknown (y.stable ++ ks) [] y

abbrev pub settled : ParticipantPhase → Part → Part
settled x y = moved y.up x y.stable y.unforced y

-- up, in phase x
abbrev pub woken : ParticipantPhase → Part → Part
woken x y = moved true x y.stable y.unforced y

-- with no record left it is Unknown
abbrev pub phase_left : List ℕ → ParticipantPhase → ParticipantPhase
phase_left [] x = ParticipantPhase.unknown
phase_left (k ∷ ks) x = x

-- the oldest stable record is gone
abbrev pub dropped : Part → Part
dropped y = moved y.up (phase_left (drop 1 y.stable ++ y.unforced) y.phase) (drop 1 y.stable) y.unforced y

-- ---- tests

-- f passes at each first part of a list
abbrev all_first {ℓ} : {A : Type ℓ} → (List A → Bool) → List A → Bool
all_first f [] = f []
all_first f (x ∷ xs) = f [] && all_first (λ l. f (x ∷ l)) xs

at_first {ℓ} : {A : Type ℓ} (f : List A → Bool) (xs : List A) → T (all_first f xs) → (m : ℕ) → T (f (take m xs))
at_first f [] h zero = h
at_first f [] h (suc m) = h
at_first f (x ∷ xs) h zero = and_left (f []) _ h
at_first f (x ∷ xs) h (suc m) = at_first (λ l. f (x ∷ l)) xs (and_right (f []) _ h) m

-- f passes at whatever of a list survives
abbrev all_survivors {ℓ} : {A : Type ℓ} → (List A → Bool) → List A → Bool
all_survivors f [] = f []
all_survivors f (x ∷ xs) = all_survivors f xs && all_survivors (λ l. f (x ∷ l)) xs

at-survivors {ℓ} : {A : Type ℓ} (f : List A → Bool) (xs : List A) → T (all_survivors f xs) → (keep : ℕ) → T (f (survivors keep xs))
unfolding survivors
at-survivors f [] h keep = h
at-survivors f (x ∷ xs) h keep =
    go (keeps_first keep) (at-survivors (λ l. f (x ∷ l)) xs (and_right (all_survivors f xs) _ h) (keep / 2)) (at-survivors f xs (and_left (all_survivors f xs) _ h) (keep / 2))
  where
    go : (b : Bool) → T (f (x ∷ survivors (keep / 2) xs)) → T (f (survivors (keep / 2) xs)) → T (f (cond b (x ∷ survivors (keep / 2) xs) (survivors (keep / 2) xs)))
    go true kept lost = kept
    go false kept lost = lost

abbrev all_statuses : List Status
all_statuses =
    (working ∷ prepared ∷ gone ∷ lone ∷ off ∷ off_voted ∷ half commit ∷ half abort ∷ [])
    ++ (shut commit true ∷ shut commit false ∷ shut abort true ∷ shut abort false ∷ [])
    ++ (off_shut commit true ∷ off_shut commit false ∷ off_shut abort true ∷ off_shut abort false ∷ [])

-- the test that y is as in status s
abbrev is_as : Status → Part → Bool
is_as s y =
    alike (is_up s) y.up
    && eqb (participant_phase (phase_of s)) (participant_phase y.phase)
    && same (stable_kinds s) y.stable
    && same (unforced_kinds s) y.unforced

-- the message that an input brings passes f
abbrev pub heard : Input → (Message → Bool) → Bool
heard begin f = true
heard timer f = true
heard (received m q) f = f m

-- from status s, upon the input i, it came to y, which is status z: z fits, and what was allowed or is new is allowed
-- m: the coordinator's stage; p: a Prepare was sent; r: a read-only vote was
abbrev pub keeps : Presumption → Input → Status → Part → Status → Stage → Bool → Bool → Bool
keeps c i s y z m p r =
    fits c m s p r
    ⇒ heard i (may m s p)
    ⇒ (r ⇒ may m s p read_only)
    ⇒ (fits c m z p (y.sent read_only || r)
    && all_message (λ g. (y.sent g || may m s p g) ⇒ may m z p g)
    && all_outcome (λ o. (y.entered o || may_enter m s r o) ⇒ may_enter m z (y.sent read_only || r) o))

-- its votes go with its mark k: a, r: a Yes, a read-only vote was sent before
abbrev pub trails : Bool → Status → Part → Status → Bool → Bool → Bool
trails k s y z a r = trail s k a r ⇒ trail z k (y.sent vote_yes || a) (y.sent read_only || r)

abbrev keeps_all : Presumption → Bool → Input → Status → Part → Status → Bool
keeps_all c k i s y z =
    all_stage (λ m. all_bool (λ p. all_bool (keeps c i s y z m p))) && all_bool (λ a. all_bool (trails k s y z a))

-- y is a status that keeps the tables at every stage; it sent no Prepare, and a Yes only from a stable record
abbrev pub lands : Presumption → Bool → Input → Status → Part → Bool
lands c k i s y =
    not (y.sent prepare)
    && (y.sent vote_yes ⇒ y.voted)
    && any (λ z. is_as z y && keeps_all c k i s y z) all_statuses

-- at most one record is unforced
abbrev pub single : Part → Bool
single y = leb (length y.unforced) 1

-- so it is where the power is cut, whatever of what is unforced survives
abbrev cut_test : Presumption → Bool → Input → Status → Part → Bool
cut_test c k i s y = single y && all_survivors (λ ks. lands c k i s (halted ks y)) y.unforced

-- a row's effects, all and then f, or some and then a cut
abbrev pub row_test : Presumption → Bool → Input → Status → (ParticipantPhase → Part → Part) → Row ParticipantPhase → Bool
row_test c k i s f r =
    lands c k i s (f r.phase (effects r.effects (of_status s)))
    && all_first (λ es. cut_test c k i s (effects es (of_status s))) r.effects

cut_at : (c : Presumption) (k : Bool) (i : Input) (s : Status) (y : Part) → T (cut_test c k i s y) → (keep : ℕ) → T (lands c k i s (halted (survivors keep y.unforced) y))
cut_at c k i s y h = at-survivors (λ ks. lands c k i s (halted ks y)) y.unforced (and_right (single y) _ h)

module _ (c : Presumption) (k : Bool) (i : Input) (s : Status) (f : ParticipantPhase → Part → Part) (r : Row ParticipantPhase) (h : T (row_test c k i s f r)) where
  abbrev after : ℕ → Part
  after a = effects (take a r.effects) (of_status s)

  pub row-whole : T (lands c k i s (f r.phase (effects r.effects (of_status s))))
  row-whole = and_left (lands c k i s (f r.phase (effects r.effects (of_status s)))) _ h

  first_tests : T (all_first (λ es. cut_test c k i s (effects es (of_status s))) r.effects)
  first_tests = and_right (lands c k i s (f r.phase (effects r.effects (of_status s)))) _ h

  -- in front of each effect, and behind the last
  pub row-single : (a : ℕ) → T (single (after a))
  row-single a = and_left (single (after a)) _ (at_first (λ es. cut_test c k i s (effects es (of_status s))) r.effects first_tests a)

  pub row_cut : (a b : ℕ) → T (lands c k i s (halted (survivors b (after a).unforced) (after a)))
  row_cut a b =
      cut_at c k i s (after a) (at_first (λ es. cut_test c k i s (effects es (of_status s))) r.effects first_tests a) b

abbrev pub on_row : (Row ParticipantPhase → Bool) → Option (Row ParticipantPhase) → Bool
on_row f none = true
on_row f (some r) = f r

-- what holds of each presumption, mark and status
abbrev all_kinds : (Presumption → Bool → Status → Bool) → Bool
all_kinds f = all_presumption (λ c. all_bool (λ k. all_status (f c k)))

at_kind : (f : Presumption → Bool → Status → Bool) → T (all_kinds f) → (c : Presumption) (k : Bool) (s : Status) → T (f c k s)
at_kind f t c k s = at_status (f c k) (at_bool (λ k. all_status (f c k)) (at_presumption (λ c. all_bool (λ k. all_status (f c k))) t c) k) s

-- the step of participant p
abbrev step_test : Presumption → Bool → ℕ → Status → Input → Bool
step_test c k p s i = is_up s ⇒ on_row (row_test c k i s settled) (participant_step c p k i (phase_of s))

abbrev input_tests : ℕ → ℕ → Presumption → Bool → Status → Bool
input_tests p q c k s =
    step_test c k p s begin && step_test c k p s timer && all_message (λ m. step_test c k p s (received m q))

step_passes : (p q : ℕ) → T (all_kinds (input_tests p q))
unfolding codec_opens site_opens has
step_passes p q = tt

pub step_at_lem : (c : Presumption) (k : Bool) (p : ℕ) (s : Status) (i : Input) → T (step_test c k p s i)
step_at_lem c k p s i = pick i
  where
    alone : Bool
    alone = step_test c k p s begin && step_test c k p s timer

    messages : ℕ → Bool
    messages q = all_message (λ m. step_test c k p s (received m q))

    at : (q : ℕ) → T (alone && messages q)
    at q = at_kind (input_tests p q) (step_passes p q) c k s

    pick : (i : Input) → T (step_test c k p s i)
    pick begin = and_left (step_test c k p s begin) (step_test c k p s timer) (and_left alone (messages 0) (at 0))
    pick timer = and_right (step_test c k p s begin) (step_test c k p s timer) (and_left alone (messages 0) (at 0))
    pick (received m q) = at_message (λ m. step_test c k p s (received m q)) (and_right alone (messages q) (at q)) m

-- restart, by the kinds of stable records
abbrev restart_test : ℕ → Presumption → Bool → Status → Bool
restart_test p c k s = not (is_up s) ⇒ row_test c k timer s woken (participant_restart c p (λ j. has j (stable_kinds s)))

restart_passes : (p : ℕ) → T (all_kinds (restart_test p))
unfolding codec_opens site_opens has
restart_passes p = tt

pub restart_at : (c : Presumption) (k : Bool) (p : ℕ) (s : Status) → T (restart_test p c k s)
restart_at c k p s = at_kind (restart_test p) (restart_passes p) c k s

-- force, crash, discard
abbrev force_test : Presumption → Bool → Status → Bool
force_test c k s = lands c k timer s (effect force (of_status s))

force_passes : T (all_kinds force_test)
unfolding codec_opens site_opens has
force_passes = tt

pub force_at : (c : Presumption) (k : Bool) (s : Status) → T (force_test c k s)
force_at = at_kind force_test force_passes

abbrev crash_test : Presumption → Bool → Status → Bool
crash_test c k s = cut_test c k timer s (of_status s)

crash_passes : T (all_kinds crash_test)
unfolding codec_opens site_opens has
crash_passes = tt

pub crash_at : (c : Presumption) (k : Bool) (s : Status) (n : ℕ) → T (lands c k timer s (halted (survivors n (unforced_kinds s)) (of_status s)))
crash_at c k s n = cut_at c k timer s (of_status s) (at_kind crash_test crash_passes c k s) n

module _ (g : Cohort) (t p : ℕ) where
  abbrev discard_test : Presumption → Bool → Status → Bool
  discard_test c k s = is_up s ⇒ closed (map (record_for g 0 t p) (stable_kinds s)) ⇒ lands c k timer s (dropped (of_status s))

  discard_passes : T (all_kinds discard_test)
  unfolding codec_opens site_opens has closed newest closes
  discard_passes = tt

  pub discard_at : (c : Presumption) (k : Bool) (s : Status) → T (discard_test c k s)
  discard_at = at_kind discard_test discard_passes

-- one that works is marked
abbrev mark_test : Bool → Bool → Bool → Bool
mark_test k y r = trail working k y r ⇒ trail working true y r

mark_passes : T (all_bool (λ k. all_bool (λ y. all_bool (mark_test k y))))
unfolding any has
mark_passes = tt

pub mark_at : (k y r : Bool) → T (trail working k y r) → T (trail working true y r)
mark_at k y r =
    mp (trail working k y r) (trail working true y r)
    (at_bool (mark_test k y) (at_bool (λ y. all_bool (mark_test k y)) (at_bool (λ k. all_bool (λ y. all_bool (mark_test k y))) mark_passes k) y) r)

-- ---- what a passed test says

phase-number : (x : ParticipantPhase) → participant_from (participant_phase x) ≡ x
unfolding participant_from participant_phase
phase-number ParticipantPhase.working = refl
phase-number ParticipantPhase.prepared = refl
phase-number (ParticipantPhase.decided commit) = refl
phase-number (ParticipantPhase.decided abort) = refl
phase-number ParticipantPhase.unknown = refl

-- y is as in status s
pub record As (s : Status) (y : Part) : Type 0 where
  pub up : y.up ≡ is_up s
  pub phase : y.phase ≡ phase_of s
  pub stable : y.stable ≡ stable_kinds s
  pub unforced : y.unforced ≡ unforced_kinds s

is_as_lem : (s : Status) (y : Part) → T (is_as s y) → As s y
is_as_lem s y h =
    record {
      up = sym (alike_eq (is_up s) y.up (and_left a b h1));
      phase = sym (sym (phase-number (phase_of s)) ∙ ap participant_from (eqb-true _ _ (true_of _ (and_right a b h1))) ∙ phase-number y.phase);
      stable = sym (same_list _ _ (true_of _ (and_right (a && b) d h2)));
      unforced = sym (same_list _ _ (true_of _ (and_right (a && b && d) e h)));
    }
  where
    a : Bool
    a = alike (is_up s) y.up

    b : Bool
    b = eqb (participant_phase (phase_of s)) (participant_phase y.phase)

    d : Bool
    d = same (stable_kinds s) y.stable

    e : Bool
    e = same (unforced_kinds s) y.unforced

    h2 : T (a && b && d)
    h2 = and_left (a && b && d) e h

    h1 : T (a && b)
    h1 = and_left (a && b) d h2

-- the status that the participant comes to
pub record Landed (c : Presumption) (k : Bool) (i : Input) (s : Status) (y : Part) : Type 0 where
  pub status : Status
  pub reached : As status y
  pub no_prepare : y.sent prepare ≡ false
  pub honest : T (y.sent vote_yes) → T y.voted
  pub kept : (m : Stage) (p r : Bool) → T (keeps c i s y status m p r)
  pub looked : (a r : Bool) → T (trails k s y status a r)

pub landed : (c : Presumption) (k : Bool) (i : Input) (s : Status) (y : Part) → T (lands c k i s y) → Landed c k i s y
landed c k i s y h =
    record {
      status = z;
      reached = is_as_lem z y (and_left (is_as z y) (keeps_all c k i s y z) there.1);
      no_prepare = not-true (y.sent prepare) (true_of _ (and_left (not (y.sent prepare)) honestly first));
      honest = mp (y.sent vote_yes) y.voted (and_right (not (y.sent prepare)) honestly first);
      kept = λ m p r. at_bool (keeps c i s y z m p) (at_bool (λ p. all_bool (keeps c i s y z m p)) (at_stage stages (and_left (all_stage stages) votes all) m) p) r;
      looked = λ a r. at_bool (trails k s y z a) (at_bool (λ a. all_bool (trails k s y z a)) (and_right (all_stage stages) votes all) a) r;
    }
  where
    comes_to : Status → Bool
    comes_to z = is_as z y && keeps_all c k i s y z

    honestly : Bool
    honestly = y.sent vote_yes ⇒ y.voted

    first : T (not (y.sent prepare) && honestly)
    first = and_left (not (y.sent prepare) && honestly) (any comes_to all_statuses) h

    there : (z : Status) × T (comes_to z)
    there =
        let x = any_found comes_to all_statuses (and_right (not (y.sent prepare) && honestly) (any comes_to all_statuses) h) in
        (x.1, x.4)

    z : Status
    z = there.0

    stages : Stage → Bool
    stages m = all_bool (λ p. all_bool (keeps c i s y z m p))

    votes : Bool
    votes = all_bool (λ a. all_bool (trails k s y z a))

    all : T (keeps_all c k i s y z)
    all = and_right (is_as z y) (keeps_all c k i s y z) there.1
