-- The loop of a restart: the rows of the opened transactions that are left make of the program's values what all rows make of the run.
use Prim.Native.Nat.{ℕ, suc, ◌+◌, ◌-◌, ◌*◌, ◌≤◌, ◌<◌}
use native.Mathlib.Nat.{zero-add, add-zero, sub-zero}
use native.Mathlib.Numerals.{add-one}
use native.Mathlib.Omega.{arith}
use mathlib.Core.Path.{◌≡◌, refl, sym, ap, ◌∙◌}
use mathlib.Core.Bool.{Bool, true, false, cond, not, true≢false}
use mathlib.Core.List.{List, [], ◌∷◌}
use lib.ListN.{length, take, drop, get_or, set, length-set}
use lib.Seq.{take-nil, drop-cons, get_or-set_other}
use lib.Dec.{eqb, eqb→eq}
use Rattle.codec.specs.Lists.{select}
use Rattle.codec.specs.Sets.{empty}
use Rattle.codec.specs.Records.{LogRecord}
use Rattle.codec.specs.Laws.Tests.{below_at}
use Rattle.site.specs.Step.{Effect}
use Rattle.site.specs.Answers.{effects_in, has_kind}
use Rattle.joint.specs.State as plain
use Rattle.joint.specs.State.{Act, fresh, update, opened, holds, at_site, stopped, down, perform_all}
use Rattle.joint.specs.Plan.{Plan, acting, restarting, restart_all, transactions}
use Rattle.joint.specs.Run.{is_send, count}
use Rattle.joint.specs.Answers.{transaction_in, transactions_in, no_transaction}
use Rattle.joint.specs.Inside.{transaction_after, counted, then_in, then_transaction, goes_down, plan_in, KindsOf, Resumption, resumed}
use Rattle.joint.specs.declared.transactions.Transaction.{Transaction}
use Rattle.joint.specs.declared.rows.Then.{Then}
use Rattle.joint.specs.declared.rows.Then.TheVariants as follows
use Rattle.joint.specs.declared.rows.Row.{Row}
use Rattle.joint.proofs.Base.Updates.{update_same}
use Rattle.joint.proofs.Engine.Arrays.{stored}
use Rattle.joint.proofs.Base.Placed.{acting-length, acting-take, acting-counted}
use Rattle.joint.proofs.Engine.Rows.{forgotten_if, row_happens}
use Rattle.joint.proofs.Engine.Restarts.{resumes, resumed_by, resumed-joined}

-- ---- one row

-- where what follows a row leaves the sites, the site stays up
stays_up : (s t : ℕ) (h : Then) → ((x : plain.Run) → (then_in s t h x).site ≡ x.site) → goes_down h ≡ false
unfolding then_in goes_down down stopped fresh
stays_up s t follows.Same k = refl
stays_up s t (follows.Coordinator c) k = refl
stays_up s t (follows.Participant c) k = refl
stays_up s t (follows.Opened g) k = refl
stays_up s t (follows.Discarded b) k = refl
stays_up s t (follows.Down n) k =
    absurd (true≢false (sym (ap (λ (f : ℕ → plain.Site). (f s).up) (k fresh)) ∙ ap (λ (a : plain.Site). a.up) (update_same s (stopped n) fresh.site)))
stays_up s t follows.Marked k = refl

-- a row of a restart, with hs for the effects that happened
row-resumed : (x : plain.Run) (s t : ℕ) (row : Row) → plan_in s t row ≡ restarting x s t
    → (z : Resumption) (hs : List Effect) → hs ≡ take z.left (effects_in t row.effects)
    → resumed_by x s (restarting x s t) z
    ≡ record {
      transaction = update t (λ _. then_transaction s row.then (transaction_after s hs (z.transaction t))) z.transaction;
      left = z.left - length (effects_in t row.effects);
      sends = z.sends + counted is_send hs;
    }
row-resumed x s t row e z hs h =
    let es = effects_in t row.effects in
    let r : plain.Run = record { site = x.site; transaction = z.transaction } in
    let happen : take z.left (acting t es) ≡ acting t hs = acting-take t z.left es ∙ ap (acting t) (sym h) in
    let kept : (y : plain.Run) → (then_in s t row.then y).site ≡ y.site = λ y. ap (λ (p : Plan). (p.settle y).site) e ∙ (resumes x s t).kept y in
    let changed : (then_in s t row.then (perform_all s (take z.left (acting t es)) r)).transaction ≡ update t (λ _. then_transaction s row.then (transaction_after s hs (z.transaction t))) z.transaction =
    ap (λ l. (then_in s t row.then (perform_all s l r)).transaction) happen
    ∙ ap (λ (y : plain.Run). y.transaction) (row_happens s t row.then hs r)
    ∙ ap (λ (b : Bool). forgotten_if b s (update t (λ _. then_transaction s row.then (transaction_after s hs (z.transaction t))) z.transaction)) (stays_up s t row.then kept) in
    ap (λ p. resumed_by x s p z) (sym e)
    ∙ (λ i. record {
      transaction = changed i;
      left = z.left - acting-length t es i;
      sends = z.sends + (ap (count is_send) happen ∙ acting-counted t is_send hs) i;
    })

-- ---- the transactions that are left

next_left : (f : ℕ → Bool) (i : ℕ) → i < 8
    → select f (drop i transactions) ≡ cond (f i) (i ∷ select f (drop (i + 1) transactions)) (select f (drop (i + 1) transactions))
unfolding select transactions
next_left f i h =
    let own : get_or transactions i 0 ≡ i = eqb→eq _ _ (below_at 8 (λ i. eqb (get_or transactions i 0) i) tt i h) in
    rw (add-one i) (ap (select f) (drop-cons transactions i 0 h ∙ ap (λ n. n ∷ drop (suc i) transactions) own))

none_left : (x : plain.Run) (s : ℕ) (z : Resumption) → resumed_by x s (restart_all x s []) z ≡ z
unfolding restart_all at_site perform_all count select
none_left x s z =
    let r : plain.Run = record { site = x.site; transaction = z.transaction } in
    ap (λ (l : List Act). record { transaction = (perform_all s l r).transaction; left = z.left - 0; sends = z.sends + count is_send l }) (take-nil z.left)
    ∙ (λ i. record { transaction = z.transaction; left = sub-zero z.left i; sends = add-zero z.sends i })

-- ---- the loop

abbrev pub so_far : List Transaction → ℕ → ℕ → Resumption
so_far now left sends = record { transaction = transactions_in now; left = left; sends = sends }

-- before transaction i: it and those behind it are as they were, and what is left to do leads to the whole
pub record Resuming (s cut : ℕ) (kinds : List ℕ) (log : List LogRecord) (before now : List Transaction) (left sends i : ℕ) : Type 0 where
  pub size : length now ≡ 8
  pub within : i ≤ 8
  pub few : sends ≤ 8 * i
  pub same : (j : ℕ) → i ≤ j → transactions_in now j ≡ transactions_in before j
  pub rest : (x : plain.Run) → transactions_in before ≡ x.transaction → KindsOf kinds x s → log ≡ (x.site s).stable
      → resumed_by x s (restart_all x s (select (opened x) (drop i transactions))) (so_far now left sends) ≡ resumed x s cut

module _ (s cut : ℕ) (kinds : List ℕ) (log : List LogRecord) (before : List Transaction) where
  pub resuming_starts : length before ≡ 8 → Resuming s cut kinds log before before cut 0 0
  unfolding resumed
  resuming_starts n =
      record {
        size = n;
        within = omega arith;
        few = omega arith;
        same = λ j h. refl;
        rest =
            λ x e k q.
            let p = restart_all x s (select (opened x) transactions) in
            λ i. record {
              transaction = (p.settle (perform_all s (take cut p.acts) (record { site = x.site; transaction = e i }))).transaction;
              left = cut - length p.acts;
              sends = zero-add (count is_send (take cut p.acts)) i;
            };
      }

  module _ (now : List Transaction) (left sends i : ℕ) (w : Resuming s cut kinds log before now left sends i) where
    here : (x : plain.Run) → transactions_in before ≡ x.transaction → transactions_in now i ≡ x.transaction i
    here x e = w.same i (omega arith) ∙ ap (λ (f : ℕ → plain.Transaction). f i) e

    next : i < 8 → (b : Bool) → not (empty (transactions_in now i).cohort.members) ≡ b → (x : plain.Run) → transactions_in before ≡ x.transaction
        → select (opened x) (drop i transactions) ≡ cond b (i ∷ select (opened x) (drop (i + 1) transactions)) (select (opened x) (drop (i + 1) transactions))
    unfolding opened
    next h b o x e =
        let ts = select (opened x) (drop (i + 1) transactions) in
        next_left (opened x) i h ∙ ap (λ (y : plain.Transaction). cond (not (empty y.cohort.members)) (i ∷ ts) ts) (sym (here x e)) ∙ ap (λ (b : Bool). cond b (i ∷ ts) ts) o

    -- transaction i is opened: its row, with hs for the effects that happen, and v for the transaction after it
    pub resuming-row : i < 8 → not (empty (transactions_in now i).cohort.members) ≡ true → (row : Row) (hs : List Effect) (v : Transaction) (m n : ℕ)
        → ((x : plain.Run) → transactions_in now i ≡ x.transaction i → ((k : ℕ) → k ≤ 7 → has_kind (get_or kinds i 0) k ≡ holds i k (x.site s).stable) → log ≡ (x.site s).stable → plan_in s i row ≡ restarting x s i)
        → hs ≡ take left (effects_in i row.effects) → transaction_in v ≡ then_transaction s row.then (transaction_after s hs (transactions_in now i))
        → m ≡ left - length (effects_in i row.effects) → n ≡ counted is_send hs → n ≤ 8
        → Resuming s cut kinds log before (set now i v) m (sends + n) (i + 1)
    unfolding restart_all
    resuming-row h o row hs v m n plan happen e p q small =
        record {
          size = simp length-set w.size;
          within = omega (arith, h);
          few = omega (arith, w.few, small);
          same = λ j l. ap transaction_in (get_or-set_other now i j v no_transaction (λ d. absurd (omega (arith, l, d)))) ∙ w.same j (omega (arith, l));
          rest =
              λ x b ks own.
              let z = so_far now left sends in
              let ts = select (opened x) (drop (i + 1) transactions) in
              let store = stored transaction_in (λ _. then_transaction s row.then (transaction_after s hs (transactions_in now i))) now i v no_transaction (omega (arith, h, w.size)) e in
              let done : so_far (set now i v) m (sends + n) ≡ resumed_by x s (restarting x s i) z =
              (λ j. record { transaction = store j; left = p j; sends = sends + q j })
              ∙ sym (row-resumed x s i row (plan x (here x b) (λ k. ks i k (omega (arith, h))) own) z hs happen) in
              ap (resumed_by x s (restart_all x s ts)) done
              ∙ sym (resumed-joined x s (restarting x s i) (restart_all x s ts) (resumes x s i) z)
              ∙ ap (λ (l : List ℕ). resumed_by x s (restart_all x s l) z) (sym (next h true o x b))
              ∙ w.rest x b ks own;
        }

    -- it is not
    pub resuming_passed : i < 8 → not (empty (transactions_in now i).cohort.members) ≡ false → Resuming s cut kinds log before now left sends (i + 1)
    resuming_passed h o =
        record {
          size = w.size;
          within = omega (arith, h);
          few = omega (arith, w.few);
          same = λ j l. w.same j (omega (arith, l));
          rest = λ x b ks own. ap (λ (l : List ℕ). resumed_by x s (restart_all x s l) (so_far now left sends)) (sym (next h false o x b)) ∙ w.rest x b ks own;
        }

    pub resuming_ends : 8 ≤ i → (x : plain.Run) → transactions_in before ≡ x.transaction → KindsOf kinds x s → log ≡ (x.site s).stable → so_far now left sends ≡ resumed x s cut
    unfolding select transactions
    resuming_ends h x b ks own =
        let z = so_far now left sends in
        let last : 8 ≡ i = omega (arith, h, w.within) in
        sym (none_left x s z) ∙ ap (λ (n : ℕ). resumed_by x s (restart_all x s (select (opened x) (drop n transactions))) z) last ∙ w.rest x b ks own
