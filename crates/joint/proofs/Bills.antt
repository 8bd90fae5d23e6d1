-- The bill of every clean run (Job 7 of 02), 02's own sentence, and the program's answers.
use Prim.Native.Nat.{ℕ, zero, suc, ◌+◌}
use mathlib.Core.Path.{◌≡◌, refl, sym, ap, ap₂, ◌∙◌, subst}
use mathlib.Core.Bool.{Bool, true, false, cond, and-true}
use mathlib.Core.List.{List, [], ◌∷◌}
use native.Mathlib.Omega.{arith}
use lib.ListN.{length}
use lib.Dec.{T, eqb}
use Rattle.codec.specs.Lists.{select, any, all}
use Rattle.codec.specs.Sets.{member}
use Rattle.codec.specs.Laws.Tests.{and_right, true_of, of_true}
use Rattle.site.specs.Presumption.{commit, abort}
use Rattle.site.specs.Cohort.{Cohort}
use Rattle.site.specs.Coordinator.{CoordinatorPhase}
use Rattle.site.specs.Participant.{ParticipantPhase}
use Rattle.joint.specs.State.{Run, Transaction, fresh, names}
use Rattle.joint.specs.Plan.{opened_as}
use Rattle.joint.specs.Run.{event, after, answers, answer_of}
use Rattle.joint.specs.Safety.{Moment, history, steps, accepts, is_entry, is_entry_at, is_sending}
use Rattle.joint.specs.Bill.{Bill, bill, is_own, own_answers, add_up, opens_with, is_delivery, whole, opening, Served, Clean, Billed, EveryBill, is_quiet, AsWritten, serving, CanServe, CanOpen}
use Rattle.joint.proofs.Base.Booleans.{is_false}
use Rattle.joint.proofs.Base.Lists.{any_found, any_middle}
use Rattle.joint.proofs.Base.History.{after-append}
use Rattle.joint.proofs.Base.Recorded.{entries-happened, messages-happened}
use Rattle.joint.proofs.Demand3.{demand3}
use Rattle.joint.proofs.Safety.Sets.{no_zero}
use Rattle.joint.proofs.Clean.Stages as stage
use Rattle.joint.proofs.Clean.Stages.{Item, records, forces, sends, of_bill, owes}
use Rattle.joint.proofs.Clean.Runs.{reached_next, add_if, Left, Ends, runs}
use Rattle.joint.proofs.Clean.Opens.{Opening, is_opening, opened_small, opened-few, opened_someone, unopened_yet, opened-transaction, start, opening-taken}
use Rattle.joint.proofs.Clean.Quiet.{quiet_undisturbed}
use Rattle.joint.proofs.Clean.Price.{working_owes}
use Rattle.joint.proofs.Clean.Serves.{serving_quiet, served}
use Rattle.joint.proofs.Clean.Before.{no_acts, free_before}

bill_path : (a b : Bill) → ((i : Item) → of_bill i a ≡ of_bill i b) → a ≡ b
bill_path a b h = λ j. record { records = h records j; forces = h forces j; sends = h sends j }

-- an entry at a site is an entry
entry_anywhere : (t s : ℕ) (ms : List Moment) → T (any (is_entry_at t s commit) ms) → T (any (is_entry t commit) ms)
unfolding is_entry_at
entry_anywhere t s ms k =
    let x = any_found (is_entry_at t s commit) ms k in
    subst (λ (l : List Moment). T (any (is_entry t commit) l)) (sym x.3) (any_middle (is_entry t commit) x.0 x.1 x.2 (and_right (eqb x.1.site s) (is_entry t commit x.1) x.4))

module _ (before : List (List ℕ)) (t : ℕ) (g : Cohort) (rest : List (List ℕ)) where
  abbrev es : List (List ℕ)
  es = whole before t g rest

  -- the run in the end
  whole-after : after fresh (whole before t g rest) ≡ after (opening before t g rest) rest
  unfolding after
  whole-after = after-append fresh before (opens_with t g ∷ rest)

  module _ (c : Clean before t g rest) where
    o : Opening (after fresh before) t g
    o = is_opening (after fresh before) t g c.served.opens

    left : Left t g (λ p k. false) (opening before t g rest) rest
    left n k m =
        c.served.delivered (suc n) k m
        ∙ ap (λ (b : Bool). cond b 1 0) (sym (messages-happened es t (suc n) k) ∙ ap (λ (r : Run). (r.transaction t).sent (suc n) k) whole-after ∙ sym (and-true _))

    ends : Ends t g (opening before t g rest) rest
    ends =
        runs t g (opened_small before t g o) (opened-few before t g o) (opened_someone before t g o) rest (opening before t g rest)
        (reached_next (after fresh before) (before, refl) (opens_with t g)) (λ _. stage.idle) (λ p k. false) (start before t g o) c.undisturbed left (λ _. c.served.begun)

    owed : (i : Item) → owes i g ((opening before t g rest).transaction t) ≡ of_bill i (bill g)
    unfolding opened_as
    owed i =
        ap (owes i g) (opened-transaction before t g o)
        ∙ working_owes g (opened-few before t g o) o.range.3 i (opened_as g ((after fresh before).transaction t)).participant
        (λ n m. ap (λ (b : Bool). cond b ParticipantPhase.working (((after fresh before).transaction t).participant (suc n))) (true_of (member (suc n) g.members) m))

    costs : (i : Item) → of_bill i (add_up (own_answers t (whole before t g rest) (answers fresh (whole before t g rest)))) ≡ of_bill i (bill g)
    unfolding after answers own_answers
    costs i =
        free_before t i before (opens_with t g ∷ rest) fresh ([], refl) (unopened_yet before t g o)
        ∙ add_if i (is_own t (opens_with t g)) (answer_of (event (after fresh before) (opens_with t g))) _
        ∙ ap₂ ◌+◌ (free (is_own t (opens_with t g))) (ends.paid i ∙ owed i) ∙ omega arith
      where
        free : (b : Bool) → cond b (stage.of_answer i (answer_of (event (after fresh before) (opens_with t g)))) 0 ≡ 0
        free true = no_acts i _ o.acts
        free false = refl

    entered : (s : ℕ) → T (names g.members s) → T (any (is_entry_at t s commit) (history fresh (whole before t g rest)))
    entered s k =
        subst T (ap (λ (r : Run). (r.transaction t).entered s commit) (sym whole-after) ∙ entries-happened es t s commit) (ends.ends.entered s k)

    pub billed : Billed before t g rest
    billed =
        record {
          commits = entered;
          unaborted = is_false (any (is_entry t abort) (history fresh es)) ((demand3 es).agreement t (entry_anywhere t 0 (history fresh es) (entered 0 tt)));
          forgets = ap (λ (r : Run). (r.transaction t).coordinator.phase) whole-after ∙ ends.ends.unknown;
          costs = bill_path _ _ costs;
        }

pub every-bill : EveryBill
every-bill before t g rest c = billed before t g rest c

-- ---- 02's own sentence

pub quiet_clean : (before : List (List ℕ)) (t : ℕ) (g : Cohort) (rest : List (List ℕ)) → Served before t g rest → T (all (is_quiet t) rest) → Clean before t g rest
quiet_clean before t g rest s q = record { served = s; undisturbed = quiet_undisturbed t g.members (opening before t g rest) rest q }

pub as_written : AsWritten
as_written before t g rest s q = every-bill before t g rest (quiet_clean before t g rest s q)

-- ---- there are such runs

module _ (before : List (List ℕ)) (t : ℕ) (g : Cohort) (k : T (accepts (after fresh before) (opens_with t g))) where
  now : Opening (after fresh before) t g
  now = is_opening (after fresh before) t g k

  abbrev first_run : Run
  first_run = (event (after fresh before) (opens_with t g)).run

  waits : ((event (after fresh before) (opens_with t g)).run.transaction t).coordinator.phase ≡ CoordinatorPhase.initial
  unfolding opened_as
  waits = ap (λ (x : Transaction). x.coordinator.phase) (opened-transaction before t g now)

  coordinated : ((event (after fresh before) (opens_with t g)).run.transaction t).cohort ≡ g
  unfolding opened_as
  coordinated = ap (λ (x : Transaction). x.cohort) (opened-transaction before t g now)

  pub can : Served before t g (serving t g) × T (all (is_quiet t) (serving t g))
  can =
      let x =
      served t (omega (arith, now.range.0)) g (opened_small before t g now) (opened-few before t g now) (opened_someone before t g now) (λ _. stage.idle) first_run
      (reached_next (after fresh before) (before, refl) (opens_with t g)) (start before t g now) waits in (
        record {
          opens = k;
          level = coordinated;
          begun = x.1;
          delivered = every-delivery x.0;
        },
        serving_quiet t g,
      )
    where
      every-delivery : Left t g (λ p j. false) first_run (serving t g) → (p j : ℕ) → T (member p g.members)
          → length (select (is_delivery t p j) (steps first_run (serving t g))) ≡ cond (any (is_sending t p j) (history fresh (whole before t g (serving t g)))) 1 0
      every-delivery left zero j m = absurd (no_zero g.members m)
      every-delivery left (suc n) j m =
          left n j m
          ∙ ap (λ (b : Bool). cond b 1 0)
          (and-true _ ∙ ap (λ (r : Run). (r.transaction t).sent (suc n) j) (sym (whole-after before t g (serving t g))) ∙ messages-happened (whole before t g (serving t g)) t (suc n) j)

pub can_serve : CanServe
can_serve before t g k = can before t g k

pub can_open : CanOpen
can_open t M C low small someone part = of_true (opening-taken t M C low small someone part)
