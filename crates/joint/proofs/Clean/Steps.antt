-- One event of a clean run: where it leaves the members and the coordinator, and what it pays.
use Prim.Native.Nat.{ℕ, ◌+◌, ◌<◌}
use mathlib.Core.Path.{◌≡◌, refl, sym, ap, ap₂, ◌∙◌, subst}
use mathlib.Core.Bool.{Bool, true, false, cond, not, ◌&&◌, ◌||◌, true≢false}
use mathlib.Core.List.{List, [], ◌∷◌}
use native.Mathlib.Omega.{arith}
use lib.ListN.{get_or}
use lib.Dec.{T, eqb}
use borrow.Author.Tests.{eqb-true}
use Rattle.codec.specs.Lists.{any, every}
use Rattle.codec.specs.Laws.Tests.{below, below_at, true_of}
use Rattle.site.specs.Presumption.{commit, abort}
use Rattle.site.specs.Cohort.{Cohort}
use Rattle.site.specs.Step.{Message, prepare, vote_yes, vote_no, read_only, tell, ack, message_kind, Effect, append, force, enter, send}
use Rattle.joint.specs.State.{Run, Site, Transaction, Act, names, at_site, at_transaction, appended, forced, perform, perform_all}
use Rattle.joint.specs.Plan.{acting}
use Rattle.joint.specs.Run.{Result, is_append, is_force, is_send, count, answer_of}
use Rattle.joint.specs.Laws.Effects.{transaction_after}
use Rattle.joint.proofs.Base.Booleans.{or_not}
use Rattle.joint.proofs.Base.Updates.{update_same, update-keeps}
use Rattle.joint.proofs.Base.Placed.{performed, acting-counted}
use Rattle.joint.proofs.Clean.Stages as stage
use Rattle.joint.proofs.Clean.Stages.{Stage, sent_at, done_at, Stands, is_open, Item, records, forces, sends, pick, of_answer, owes}
use Rattle.joint.proofs.Clean.Participants.{counts_in, Goes}

-- ---- the message that is on its way, by the stage

number_of : Stage → ℕ
number_of stage.idle = 0
number_of stage.asked = 1
number_of stage.voted = 2
number_of stage.counted = 3
number_of stage.told = 4
number_of stage.acking = 5
number_of stage.finished = 6

-- the stage with a number; a kind's stage, by its number
abbrev stage_at : ℕ → Stage
stage_at n = get_or (stage.idle ∷ stage.asked ∷ stage.voted ∷ stage.counted ∷ stage.told ∷ stage.acking ∷ []) n stage.finished

stage_again : (s : Stage) → stage_at (number_of s) ≡ s
unfolding number_of
stage_again stage.idle = refl
stage_again stage.asked = refl
stage_again stage.voted = refl
stage_again stage.counted = refl
stage_again stage.told = refl
stage_again stage.acking = refl
stage_again stage.finished = refl

abbrev due_at : ℕ → ℕ
due_at k = get_or (1 ∷ 2 ∷ 7 ∷ 4 ∷ 7 ∷ 5 ∷ 7 ∷ 7 ∷ []) k 7

-- the stage in which a message of that kind is on its way
abbrev pub stage_due : ℕ → Stage
stage_due k = stage_at (due_at k)

-- sent, and not delivered
abbrev on_its_way : Bool → Stage → ℕ → Bool
on_its_way a s k = any (eqb k) (sent_at a s) && not (any (eqb k) (done_at a s))

due_test : Bool → Stage → ℕ → Bool
due_test a s k = not (on_its_way a s k) || eqb (number_of s) (due_at k)

due_tests : (a : Bool) (s : Stage) → T (below 8 (due_test a s))
unfolding due_test any number_of
due_tests a stage.idle = tt
due_tests a stage.asked = tt
due_tests a stage.voted = tt
due_tests a stage.counted = tt
due_tests a stage.told = tt
due_tests a stage.acking = tt
due_tests true stage.finished = tt
due_tests false stage.finished = tt

pub kind_small : (m : Message) → message_kind m < 8
unfolding message_kind
kind_small prepare = omega arith
kind_small vote_yes = omega arith
kind_small vote_no = omega arith
kind_small (tell commit) = omega arith
kind_small (tell abort) = omega arith
kind_small (ack commit) = omega arith
kind_small (ack abort) = omega arith
kind_small read_only = omega arith

pub due : (a : Bool) (s : Stage) (m : Message) → any (eqb (message_kind m)) (sent_at a s) ≡ true → any (eqb (message_kind m)) (done_at a s) ≡ false
    → s ≡ stage_due (message_kind m)
unfolding due_test
due a s m sent new =
    let k = message_kind m in
    let way : on_its_way a s k ≡ true = rw (sent, new) refl in
    let number : number_of s ≡ due_at k =
    eqb-true _ _ (true_of _ (or_not (not (on_its_way a s k)) (eqb (number_of s) (due_at k)) (rw way tt) (below_at 8 (due_test a s) (due_tests a s) k (kind_small m)))) in
    sym (stage_again s) ∙ ap (λ (n : ℕ). stage_at n) number

-- No, Abort, AbortAck and a read-only vote are never sent
abbrev pub never_sent : Bool → Stage → List Bool
never_sent a s = not (any (eqb 2) (sent_at a s)) ∷ not (any (eqb 4) (sent_at a s)) ∷ not (any (eqb 6) (sent_at a s)) ∷ not (any (eqb 7) (sent_at a s)) ∷ []

pub never_sent_lem : (a : Bool) (s : Stage) → every (never_sent a s) ≡ true
unfolding any every
never_sent_lem a stage.idle = refl
never_sent_lem a stage.asked = refl
never_sent_lem a stage.voted = refl
never_sent_lem a stage.counted = refl
never_sent_lem a stage.told = refl
never_sent_lem a stage.acking = refl
never_sent_lem true stage.finished = refl
never_sent_lem false stage.finished = refl

-- ---- the run

pub record At (t : ℕ) (g : Cohort) (stages : ℕ → Stage) (done : ℕ → ℕ → Bool) (r : Run) : Type 0 where
  pub stands : Stands g stages done (r.transaction t)
  pub up : (s : ℕ) → T (names g.members s) → (r.site s).up ≡ true

-- what an event with the result z makes of it; whether it is of t, and whether it begins t
pub record Next (t : ℕ) (g : Cohort) (done : ℕ → ℕ → Bool) (own begins : Bool) (r : Run) (z : Result) : Type 0 where
  pub stages : ℕ → Stage
  pub here : At t g stages done z.run
  pub paid : (i : Item) → cond own (of_answer i (answer_of z)) 0 + owes i g (z.run.transaction t) ≡ owes i g (r.transaction t)
  -- it is not begun yet
  pub unbegun : is_open (z.run.transaction t).coordinator.phase ≡ true → (is_open (r.transaction t).coordinator.phase ≡ true) × (begins ≡ false)

-- ---- a row of t

perform-up : (s u : ℕ) (e : Effect) (y : Run) (z : ℕ) → ((perform s u e y).site z).up ≡ (y.site z).up
unfolding perform at_site at_transaction appended forced
perform-up s u (append k fs) y z = update-keeps (λ (a : Site). a.up) _ (λ a. refl) s y.site z
perform-up s u force y z = update-keeps (λ (a : Site). a.up) _ (λ a. refl) s y.site z
perform-up s u (enter o) y z = refl
perform-up s u (send m p) y z = refl

acts-up : (s : ℕ) (l : List Act) (y : Run) (z : ℕ) → ((perform_all s l y).site z).up ≡ (y.site z).up
unfolding perform_all
acts-up s [] y z = refl
acts-up s (a ∷ l) y z = acts-up s l _ z ∙ perform-up s a.transaction a.effect y z

module _ (t : ℕ) (g : Cohort) (done : ℕ → ℕ → Bool) (r : Run) (s : ℕ) (f : Transaction → Transaction) (es : List Effect) where
  -- the run that it leaves
  abbrev left : Run
  left = at_transaction t f (perform_all s (acting t es) r)

  left-transaction : left.transaction t ≡ f (transaction_after s es (r.transaction t))
  unfolding at_transaction
  left-transaction =
      update_same t f (perform_all s (acting t es) r).transaction
      ∙ ap (λ (y : Run). f (y.transaction t)) (performed s t es r)
      ∙ ap f (update_same t (λ _. transaction_after s es (r.transaction t)) r.transaction)

  left_up : (z : ℕ) → (left.site z).up ≡ (r.site z).up
  unfolding at_transaction
  left_up z = acts-up s (acting t es) r z

  pub row_next : (begins : Bool) → ((z : ℕ) → T (names g.members z) → (r.site z).up ≡ true) → Goes g done (r.transaction t) (f (transaction_after s es (r.transaction t))) es
      → Next t g done true begins r (record { answer = 0; site = s; acts = acting t es; run = left })
  unfolding answer_of
  row_next begins up x =
      record {
        stages = x.stages;
        here =
            record {
              stands = subst (Stands g x.stages done) (sym left-transaction) x.stands;
              up = λ z k. left_up z ∙ up z k;
            };
        paid = λ i.
            ap₂ (λ (k : ℕ) (y : Transaction). k + owes i g y) (counts i) left-transaction ∙ x.paid i;
        unbegun = λ h. absurd (true≢false (sym h ∙ ap (λ (y : Transaction). is_open y.coordinator.phase) left-transaction ∙ x.begun));
      }
    where
      counts : (i : Item) → pick i (count is_append (acting t es)) (count is_force (acting t es)) (count is_send (acting t es)) ≡ counts_in i es
      counts records = acting-counted t is_append es
      counts forces = acting-counted t is_force es
      counts sends = acting-counted t is_send es
