-- A restart's rows, as they stand, have few effects, write no log and set phases: what a row does may happen before the phases of others are set, or after.
use Prim.Native.Nat.{ℕ, zero, suc, ◌+◌, ◌-◌, ◌*◌, ◌≤◌}
use mathlib.Core.Path.{◌≡◌, refl, sym, ap, ◌∙◌, fun_ext}
use mathlib.Core.Bool.{Bool, true, false, cond, not}
use mathlib.Core.List.{List, [], ◌∷◌, ◌++◌}
use lib.ListN.{length, take, length-append, length-map}
use lib.Dec.{eqb}
use native.Mathlib.Omega.{arith}
use Rattle.codec.specs.Lists.{select}
use Rattle.codec.specs.Sets.{participants, member, empty, listed}
use Rattle.site.specs.Presumption.{Outcome, commit, abort, Presumption}
use Rattle.site.specs.Cohort.{Cohort, owing}
use Rattle.site.specs.Step.{message_kind, Effect, append, force, enter, send, Row, given}
use Rattle.site.specs.Coordinator.{in_order, tell_all, resuming, restart_from, leaving, coordinator_restart}
use Rattle.site.specs.Participant.{voting, restart_with, participant_restart}
use Rattle.site.specs.Laws.Lists.{take-append, select-append}
use Rattle.site.specs.Laws.Order.{order_length}
use Rattle.joint.specs.State.{Run, Transaction, Act, holds, recorded_cohort, update, at_site, at_transaction, started, with_entered, with_sent, forgotten, perform, perform_all}
use Rattle.joint.specs.Plan.{Plan, acting, row_plan, restarting, joined, restart_all}
use Rattle.joint.specs.Run.{is_append, is_force, is_send, count}
use Rattle.joint.specs.Inside.{Resumption}
use Rattle.joint.proofs.Base.Lists.{Each, each_append, each_take, select_length}
use Rattle.joint.proofs.Base.Updates.{update-keeps}
use Rattle.joint.proofs.Base.Plans.{coordinator_restarts, participant_restarts}
use Rattle.joint.proofs.Base.Placed.{run_path, Phase, coordinator-phase, participant-phase, acting-length}

-- ---- few effects

tell_few : (t : ℕ) (g : Cohort) (o : Outcome) (to : ℕ) → length (tell_all t g o to) ≤ 8
unfolding tell_all in_order listed participants
tell_few t g o to = simp length-map (omega (arith, order_length t (owing g o) to, select_length (λ p. member p to) participants))

given-few : (b : Bool) (es : List Effect) → length (given b es) ≤ length es
unfolding given
given-few true es = omega arith
given-few false es = omega arith

resuming-few : (t : ℕ) (g : Cohort) (o : Outcome) (b : Bool) → length (resuming t g o b).effects ≤ 9
unfolding resuming
resuming-few t g o b = omega (arith, given-few b (tell_all t g o g.members), tell_few t g o g.members)

from_few : (t : ℕ) (c i : Bool) (told : ℕ → Cohort) → length (restart_from t c i told).effects ≤ 9
unfolding restart_from
from_few t true i told = resuming-few t (told 2) commit (not (empty (owing (told 2) commit)))
from_few t false true told = resuming-few t (told 1) abort true
from_few t false false told = omega arith

with_few : (c : Presumption) (p : ℕ) (a b v : Bool) → length (restart_with c p a b v).effects ≤ 9
unfolding restart_with voting
with_few c p true b v = omega arith
with_few c p false true v = omega arith
with_few c p false false true = omega arith
with_few c p false false false = omega arith

-- ---- effects that write no log: the rows of a restart, as the program takes them (DECISIONS, L18)

abbrev Logless : Effect → Type 0
Logless (append k fs) = ⊥
Logless force = ⊥
Logless (enter o) = Unit {0}
Logless (send m p) = Unit {0}

abbrev pub Quiet : List Act → Type 0
Quiet l = Each (λ (a : Act). Logless a.effect) l

quiet_acting : (t : ℕ) (es : List Effect) → Each Logless es → Quiet (acting t es)
unfolding acting
quiet_acting t [] h = tt
quiet_acting t (e ∷ es) h = (h.0, quiet_acting t es h.1)

pub unlogged : (e : Effect) → Logless e → (is_append e ≡ false) × ((is_force e ≡ false) × ((s t : ℕ) (r : Run) → (perform s t e r).site ≡ r.site))
unfolding is_append is_force perform at_transaction
unlogged (append k fs) h = absurd h
unlogged force h = absurd h
unlogged (enter o) h = (refl, (refl, λ s t r. refl))
unlogged (send m p) h = (refl, (refl, λ s t r. refl))

pub quiet_count : (f : Effect → Bool) → ((e : Effect) → Logless e → f e ≡ false) → (l : List Act) → Quiet l → count f l ≡ 0
unfolding count select
quiet_count f h [] q = refl
quiet_count f h (a ∷ l) q = rw (h a.effect q.0) (quiet_count f h l q.1)

pub quiet_site : (s : ℕ) (l : List Act) → Quiet l → (r : Run) → (perform_all s l r).site ≡ r.site
unfolding perform_all
quiet_site s [] q r = refl
quiet_site s (a ∷ l) q r =
    quiet_site s l q.1 (perform s a.transaction a.effect r) ∙ (unlogged a.effect q.0).1.1 s a.transaction r

-- ---- a phase may be set before an effect or after it

module _ {s : ℕ} {g : Transaction → Transaction} (h : Phase s g) (t : ℕ) where
  crossed : (k : Transaction → Transaction) → ((x : Transaction) → g (k x) ≡ k (g x)) → (u : ℕ) (r : Run)
      → at_transaction u k (at_transaction t g r) ≡ at_transaction t g (at_transaction u k r)
  unfolding at_transaction update
  crossed k e u r = run_path refl (fun_ext (λ j. go (r.transaction j) (eqb j u) (eqb j t)))
    where
      go : (x : Transaction) (a b : Bool) → cond a (k (cond b (g x) x)) (cond b (g x) x) ≡ cond b (g (cond a (k x) x)) (cond a (k x) x)
      go x true true = sym (e x)
      go x true false = refl
      go x false true = refl
      go x false false = refl

  effect_crossed : (z u : ℕ) (e : Effect) (r : Run) → perform z u e (at_transaction t g r) ≡ at_transaction t g (perform z u e r)
  unfolding perform at_site at_transaction
  effect_crossed z u (append k fs) r = refl
  effect_crossed z u force r = refl
  effect_crossed z u (enter o) r = crossed (with_entered z o) (h.entered_later z o) u r
  effect_crossed z u (send m p) r = crossed (with_sent p (message_kind m)) (h.sent_later p (message_kind m)) u r

  acts_crossed : (z : ℕ) (l : List Act) (r : Run) → perform_all z l (at_transaction t g r) ≡ at_transaction t g (perform_all z l r)
  unfolding perform_all
  acts_crossed z [] r = refl
  acts_crossed z (a ∷ l) r =
      ap (perform_all z l) (effect_crossed z a.transaction a.effect r) ∙ acts_crossed z l (perform z a.transaction a.effect r)

-- ---- one row, and all

-- a plan of site s that sets a phase there, which goes with the power
pub record Resumes (s : ℕ) (p : Plan) : Type 0 where
  pub number : p.site ≡ s
  pub few : length p.acts ≤ 9
  pub quiet : Quiet p.acts
  pub kept : (x : Run) → (p.settle x).site ≡ x.site
  pub later : (l : List Act) (x : Run) → perform_all s l (p.settle x) ≡ p.settle (perform_all s l x)
  pub taken : (x : Run) (t : ℕ) → forgotten s ((p.settle x).transaction t) ≡ forgotten s (x.transaction t)

row_resumes : {P : Type 0} (s t : ℕ) (g : P → Transaction → Transaction) (row : Row P)
    → Phase s (g row.phase) → length row.effects ≤ 9 → Each Logless row.effects → Resumes s (row_plan s t g row)
unfolding row_plan at_transaction
row_resumes s t g row h n q =
    record {
      number = refl;
      few = omega (arith, n, acting-length t row.effects);
      quiet = quiet_acting t row.effects q;
      kept = λ x. refl;
      later = λ l x. acts_crossed h t s l x;
      taken = λ x u. update-keeps (forgotten s) (g row.phase) h.taken t x.transaction u;
    }

pub resumes : (r : Run) (s t : ℕ) → Resumes s (restarting r s t)
unfolding restarting coordinator_restart leaving participant_restart
resumes r zero t = row_resumes 0 t _ _ (coordinator-phase _) (from_few t _ _ _) (coordinator_restarts Logless (λ o. tt) (λ m p. tt) t (λ k. holds t k (r.site 0).stable) (λ k. recorded_cohort t k (r.site 0).stable))
resumes r (suc n) t = row_resumes (suc n) t _ _ (participant-phase n _) (with_few _ _ _ _ _) (participant_restarts Logless (λ o. tt) (λ m p. tt) _ (suc n) (λ k. holds t k (r.site (suc n)).stable))

-- n of them, and the site is up at the end
pub record Restarts (s n : ℕ) (p : Plan) : Type 0 where
  pub number : p.site ≡ s
  pub few : length p.acts ≤ 9 * n
  pub quiet : Quiet p.acts
  pub starts : (x : Run) → (p.settle x).site ≡ update s started x.site
  pub taken : (x : Run) (t : ℕ) → forgotten s ((p.settle x).transaction t) ≡ forgotten s (x.transaction t)

pub restarts : (r : Run) (s : ℕ) (ts : List ℕ) → Restarts s (length ts) (restart_all r s ts)
unfolding restart_all joined at_site
restarts r s [] = record { number = refl; few = omega arith; quiet = tt; starts = λ x. refl; taken = λ x t. refl }
restarts r s (t ∷ ts) =
    let a = resumes r s t in
    let b = restarts r s ts in
    record {
      number = a.number;
      few = simp length-append (omega (arith, a.few, b.few));
      quiet = each_append _ (restarting r s t).acts _ a.quiet b.quiet;
      starts = λ x. b.starts ((restarting r s t).settle x) ∙ ap (update s started) (a.kept x);
      taken = λ x u. b.taken ((restarting r s t).settle x) u ∙ a.taken x u;
    }

-- ---- a row more

performed_more : (s : ℕ) (a b : List Act) (r : Run) → perform_all s (a ++ b) r ≡ perform_all s b (perform_all s a r)
unfolding perform_all
performed_more s [] b r = refl
performed_more s (x ∷ a) b r = performed_more s a b (perform s x.transaction x.effect r)

count_more : (f : Effect → Bool) (a b : List Act) → count f (a ++ b) ≡ count f a + count f b
unfolding count
count_more f a b = rw (select-append (λ (x : Act). f x.effect) a b, length-append) refl

-- a plan in run r, with what a resumption left of it and of the cut
abbrev pub resumed_by : Run → ℕ → Plan → Resumption → Resumption
resumed_by r s p z =
    let happen = take z.left p.acts in
    record {
      transaction = (p.settle (perform_all s happen (record { site = r.site; transaction = z.transaction }))).transaction;
      left = z.left - length p.acts;
      sends = z.sends + count is_send happen;
    }

pub resumed-joined : (r : Run) (s : ℕ) (a b : Plan) → Resumes s a → (z : Resumption) → resumed_by r s (joined a b) z ≡ resumed_by r s b (resumed_by r s a z)
unfolding joined
resumed-joined r s a b h z =
    let l = take z.left a.acts in
    let m = take (z.left - length a.acts) b.acts in
    let x : Run = record { site = r.site; transaction = z.transaction } in
    let both : take z.left (a.acts ++ b.acts) ≡ l ++ m = take-append z.left a.acts b.acts in
    let site : (a.settle (perform_all s l x)).site ≡ r.site = h.kept (perform_all s l x) ∙ quiet_site s l (each_take _ z.left a.acts h.quiet) x in
    let runs : a.settle (perform_all s (take z.left (a.acts ++ b.acts)) x) ≡ perform_all s m (record { site = r.site; transaction = (a.settle (perform_all s l x)).transaction }) =
    ap (λ k. a.settle (perform_all s k x)) both
    ∙ ap a.settle (performed_more s l m x)
    ∙ sym (h.later m (perform_all s l x))
    ∙ ap (perform_all s m) (run_path site refl) in
    let left : z.left - length (a.acts ++ b.acts) ≡ z.left - length a.acts - length b.acts = simp length-append (omega arith) in
    let sends : z.sends + count is_send (take z.left (a.acts ++ b.acts)) ≡ z.sends + count is_send l + count is_send m =
    omega (arith, ap (count is_send) both ∙ count_more is_send l m) in
    λ i. record { transaction = (b.settle (runs i)).transaction; left = left i; sends = sends i }
