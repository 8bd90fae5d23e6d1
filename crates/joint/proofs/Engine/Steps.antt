-- A step that was read: its site and transaction are the run's, and what is decided of it there.
use Prim.Native.Nat.{ℕ, ◌≤◌}
use mathlib.Core.Path.{◌≡◌, refl, ap, ◌∙◌}
use Rattle.std.specs.Prelude.{Result}
use lib.ListN.{get_or}
use native.Mathlib.Omega.{arith}
use Rattle.joint.specs.Event as events
use Rattle.joint.specs.Event.{parse}
use Rattle.joint.specs.Answers.{site_from, no_site, no_records, transaction_in, run_in}
use Rattle.joint.specs.Inside.{size, Asks, begins, delivers, times, taken, change_in, Here, step_in, step_site, step_transaction}
use Rattle.joint.specs.declared.sites.Site.{Site}
use Rattle.joint.specs.declared.records.Records.{Records}
use Rattle.joint.specs.declared.transactions.Transaction.{Transaction}
use Rattle.joint.specs.declared.answers.Refusal.{Refusal}
use Rattle.joint.specs.declared.rows.Row.{Row}
use Rattle.joint.specs.declared.events.Step.{Step}
use Rattle.joint.specs.declared.events.Step.TheVariants as steps
use Rattle.joint.specs.declared.run.Run.{Run}
use Rattle.joint.proofs.Base.Plans.{site_of}
use Rattle.joint.proofs.Engine.Reads.{site_read, transaction_read}
use Rattle.joint.proofs.Engine.Sites.{log-counted}
use Rattle.joint.proofs.Engine.Inputs.{asks_of}
use Rattle.joint.proofs.Engine.Turns.{Full}

-- ---- where an event's plan is

asked_site : {e : events.Event} {t s kind p : ℕ} → Asks e t s kind p → s ≡ site_of e
asked_site (begins t) = refl
asked_site (delivers t kind p h l) = refl
asked_site (times t s) = refl

step-site : (e : Step) → step_site e ≡ site_of (step_in e).event
unfolding step_in
step-site (steps.Open e) = refl
step-site (steps.Input e) = asked_site (asks_of e.transaction.number _ _ _ e.asked)
step-site (steps.Force s) = refl
step-site (steps.Discard e) = refl
step-site (steps.Crash e) = refl
step-site (steps.Mark e) = refl

step_low : (e : Step) → (step_site e ≤ 8) × (step_transaction e ≤ 7)
step_low (steps.Open e) = (omega arith, e.transaction.in_range)
step_low (steps.Input e) = (e.site.in_range, e.transaction.in_range)
step_low (steps.Force s) = (s.in_range, omega arith)
step_low (steps.Discard e) = (e.site.in_range, e.transaction.in_range)
step_low (steps.Crash e) = (e.site.in_range, omega arith)
step_low (steps.Mark e) = (e.participant.in_range, e.transaction.in_range)

pub site_low : (q : Step) {s : ℕ} → s ≡ step_site q → s ≤ 8
site_low q e = rw e (step_low q).0

pub transaction_few : (q : Step) {t : ℕ} → t ≡ step_transaction q → t ≤ 7
transaction_few q e = rw e (step_low q).1

-- ---- what the run holds at the step's site and transaction

pub record StepRead (r : Run) (q : Step) (s t : ℕ) : Type 0 where
  pub full : Full r s
  pub site : s ≡ step_site q
  pub transaction : t ≡ step_transaction q

module _ {r : Run} {q : Step} {s t : ℕ} (a : StepRead r q s t) where
  pub low : s ≤ 8
  low = site_low q a.site

  pub few : t ≤ 7
  few = transaction_few q a.transaction

  pub its_site : s ≡ site_of (step_in q).event
  its_site = a.site ∙ step-site q

  pub own : (d : Transaction) {p : Step} → q ≡ p → transaction_in (get_or r.transactions t d) ≡ (run_in r).transaction (step_transaction p)
  own d p = transaction_read r t d a.full.eight few ∙ ap (run_in r).transaction (a.transaction ∙ ap step_transaction p)

  pub own_site : (d : Site) (e : Records) {p : Step} → q ≡ p → site_from (get_or r.sites s d) (get_or r.records s e).of ≡ (run_in r).site (step_site p)
  own_site d e p = site_read r s d e a.full.nine a.full.logs low ∙ ap (run_in r).site (a.site ∙ ap step_site p)

  pub here : (d : Site) {p : Step} → q ≡ p → Here (get_or r.sites s d) (run_in r) (step_site p)
  here d p = ((get_or r.records s no_records).of, (a.full.whole, own_site d no_records p))

  -- its log holds 24 records
  pub held : size ((run_in r).site s) ≤ 24
  held =
      let f = a.full in
      omega (arith, ap size (site_read r s no_site no_records f.nine f.logs low), log-counted (get_or r.sites s no_site) (get_or r.records s no_records).of f.whole)

  -- decided by its kind
  pub decides : {p : Step} (c : Result Row Refusal) → q ≡ p → change_in (run_in r) (step_site p) (step_transaction p) c ≡ taken (run_in r) (step_in p).event (step_in p).cut
      → change_in (run_in r) (step_site q) (step_transaction q) c ≡ taken (run_in r) (step_in q).event (step_in q).cut
  decides c p h = rw p h
