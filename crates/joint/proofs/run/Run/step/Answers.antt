use Prim.Native.Nat.{ℕ}
use mathlib.Core.Path.{◌≡◌, refl, sym, ap, ◌∙◌, subst}
use mathlib.Core.Bool.{true}
use mathlib.Core.List.{List}
use mathlib.Core.Option.{none, some}
use lib.ListN.{set}
use native.Mathlib.Omega.{arith}
use Rattle.std.specs.Prelude.{Ok}
use Rattle.std.proofs.lemmas.Result.{err_from_is_err_and}
use Rattle.site.specs.Answers.{effects_in}
use Rattle.joint.specs.State as plain
use Rattle.joint.specs.State.{update, forgotten}
use Rattle.joint.specs.Event.{parse}
use Rattle.joint.specs.Plan.{plan}
use Rattle.joint.specs.Run.{event, carry}
use Rattle.joint.specs.Program.{has_room}
use Rattle.joint.specs.Answers.{transactions_in, run_in, next_in, accepted, answer_in, seen}
use Rattle.joint.specs.Inside.{step_in, change_in, taken, row_site, plan_in, Fits, then_transaction, transaction_after}
use Rattle.joint.specs.declared.run.Run.{Run}
use Rattle.joint.specs.declared.transactions.Transaction.{Transaction}
use Rattle.joint.proofs.Base.Plans.{All, plan-site}
use Rattle.joint.proofs.Engine.Arrays.{length-shown}
use Rattle.joint.proofs.Engine.Reads.{site_at, transaction_read, transactions-stored}
use Rattle.joint.proofs.Engine.Turns.{Turned, turned_at, turned_refused, parsed_seen, parsed_room, happens_seen, row_fits, log-stored, site_settled}
use Rattle.joint.proofs.Engine.Steps.{StepRead, low, few, its_site, held}
use Rattle.joint.proofs.run.Run.step.Goals as goal
use Rattle.joint.proofs.run.Run.step.Goals.{Joined-writes, then-writes, else-writes}

pub returns-in_err-row : goal.returns-in_err-row
unfolding next_in change_in
returns-in_err-row c bytes parse_is room =
    let r = c.args.self.now in
    let v = run_in r in
    let p = err_from_is_err_and c.from_residual.result c.from_residual.ensures.1 in
    rw (p.1, p.2) (turned_refused r bytes c.in_err-row.field-0.0
    (rw c.in_err-row.was at c.decide.ensures.decided (parsed_room v bytes _ parse_is room) ∙ parsed_seen v bytes _ parse_is))

-- where a row happens
module _ (c : Joined-writes) (x : List ℕ) (parse_is : parse x ≡ some (step_in c.args.step)) (room : has_room (run_in c.args.self.now) x ≡ true) where
  abbrev run : Run
  run = c.args.self.now

  abbrev number : ℕ
  number = c.index-s.result

  abbrev transaction : ℕ
  transaction = c.index-t.result

  a : StepRead c.args.self.now c.args.step c.index-s.result c.index-t.result
  a =
      record {
        full = record { nine = search length-shown; logs = search length-shown; whole = rw (c.index-s.ensures, c.site-site.ensures) c.decide.ensures.whole; eight = search length-shown; counters = search length-shown };
        site = c.index-s.ensures ∙ c.site-site.ensures;
        transaction = c.index-t.ensures ∙ c.transaction-transaction.ensures;
      }

  decided : change_in (run_in c.args.self.now) c.index-s.result c.index-t.result (Ok c.in_ok-row.row) ≡ taken (run_in c.args.self.now) (step_in c.args.step).event (step_in c.args.step).cut
  decided = rw (c.index-s.ensures, c.site-site.ensures, c.index-t.ensures, c.transaction-transaction.ensures, ← c.in_ok-row.was) (c.decide.ensures.decided (parsed_room (run_in run) x _ parse_is room))

  row_seen : seen (carry (run_in c.args.self.now) (plan_in c.index-s.result c.index-t.result c.in_ok-row.row) none) ≡ seen (event (run_in c.args.self.now) x)
  unfolding change_in
  row_seen = decided ∙ parsed_seen (run_in run) x _ parse_is

  fits : Fits (effects_in c.index-t.result c.in_ok-row.row.effects) ((run_in c.args.self.now).site c.index-s.result)
  unfolding change_in
  fits =
      let v = run_in run in
      let e = (step_in c.args.step).event in
      row_fits v number (held a) transaction c.in_ok-row.row e (step_in c.args.step).cut decided
      (subst (λ (s : ℕ). All (λ p. p.site ≡ s) (plan v e)) (sym (its_site a)) (plan-site v e)) (parsed_room v x _ parse_is room)

  abbrev put : List Transaction
  put = set c.args.self.now.transactions c.index-t.result c.settle.result

  put_stored : transactions_in put
      ≡ update c.index-t.result
      (λ _. then_transaction c.index-s.result c.in_ok-row.row.then
      (transaction_after c.index-s.result (effects_in c.index-t.result c.in_ok-row.row.effects) ((run_in c.args.self.now).transaction c.index-t.result)))
      (run_in c.args.self.now).transaction
  unfolding run_in
  put_stored =
      transactions-stored run.transactions transaction c.settle.result a.full.eight (few a)
      ∙ ap (λ (y : plain.Transaction). update transaction (λ _. y) (transactions_in run.transactions))
      ((rw (← c.index-s.ensures) at c.settle.ensures)
      ∙ ap (then_transaction number c.in_ok-row.row.then) ((rw (← c.index-s.ensures) at c.after-after.ensures transaction) ∙ ap (transaction_after number (effects_in transaction c.in_ok-row.row.effects)) (transaction_read run transaction _ a.full.eight (few a))))

  abbrev counted : List ℕ
  counted = set c.args.self.now.forces c.index-s.result c.add_held.result

  turned : (next : Run) → next.forces ≡ counted
      → record { answer = accepted c.of-counts.result; run = run_in next } ≡ seen (event (run_in c.args.self.now) x)
      → Turned c.args.self.now x (Ok c.of-counts.result) next
  unfolding answer_in
  turned next e =
      turned_at run next x (Ok c.of-counts.result) _ parse_is number (omega (arith, low a, a.full.counters)) (its_site a)
      _ _ (e ∙ ap (set run.forces number) c.add_held.ensures) refl

  transactions_put : c.if-writes.self.transactions ≡ put
  transactions_put = elim c.if-writes.branch [ then-writes w ↦ ap (λ (r : Run). r.transactions) w.self-is | else-writes w ↦ ap (λ (r : Run). r.transactions) w.self-is ]

  forces_put : c.if-writes.self.forces ≡ counted
  forces_put = elim c.if-writes.branch [ then-writes w ↦ ap (λ (r : Run). r.forces) w.self-is | else-writes w ↦ ap (λ (r : Run). r.forces) w.self-is ]

  site_put : site_at c.if-writes.self.sites c.if-writes.self.records
      ≡ update c.index-s.result (λ _. row_site c.index-t.result c.in_ok-row.row ((run_in c.args.self.now).site c.index-s.result)) (run_in c.args.self.now).site
  site_put =
      elim c.if-writes.branch [
        | then-writes w ↦ ap (λ (r : Run). site_at r.sites r.records) w.self-is ∙ log-stored run number a.full (low a) _ transaction c.in_ok-row.row _ _ (rw (← c.index-t.ensures) at w.after-log.ensures) fits
        | else-writes w ↦ ap (λ (r : Run). site_at r.sites r.records) w.self-is ∙ site_settled run number a.full (low a) _ transaction c.in_ok-row.row _ w.settle-else-writes.ensures
      ]

pub returns-then-goes_down : goal.returns-then-goes_down
unfolding next_in answer_in run_in
returns-then-goes_down c bytes parse_is room =
    let v = run_in c.args.self.now in
    let at = (goal.at.returns-then-goes_down c).Joined-writes in
    let s = c.index-s.result in
    let t = c.index-t.result in
    let row = c.in_ok-row.row in
    let forget : (ℕ → plain.Transaction) → ℕ → plain.Transaction = λ f u. forgotten s (f u) in
    turned at bytes parse_is room _ (forces_put at bytes parse_is room)
    (happens_seen v s t row c.of-counts.result _ _ (c.of-counts.ensures t) (site_put at bytes parse_is room)
    (rw (sym c.goes_down.ensures ∙ c.if-goes_down.true)
    ((rw (← c.index-s.ensures) at c.forget_all.ensures) ∙ ap forget (ap transactions_in (transactions_put at bytes parse_is room) ∙ put_stored at bytes parse_is room)))
    ∙ row_seen at bytes parse_is room)

pub returns-else-goes_down : goal.returns-else-goes_down
unfolding next_in answer_in run_in
returns-else-goes_down c bytes parse_is room =
    let v = run_in c.args.self.now in
    let at = (goal.at.returns-else-goes_down c).Joined-writes in
    let s = c.index-s.result in
    let t = c.index-t.result in
    let row = c.in_ok-row.row in
    turned at bytes parse_is room c.if-writes.self (forces_put at bytes parse_is room)
    (happens_seen v s t row c.of-counts.result _ _ (c.of-counts.ensures t) (site_put at bytes parse_is room)
    (rw (sym c.goes_down.ensures ∙ c.if-goes_down.false) (ap transactions_in (transactions_put at bytes parse_is room) ∙ put_stored at bytes parse_is room))
    ∙ row_seen at bytes parse_is room)
