use mathlib.Core.Path.{◌≡◌, ap, sym, ◌∙◌}
use mathlib.Core.List.{List, []}
use mathlib.Core.Bool.{false}
use Prim.Native.Nat.{ℕ}
use borrow.Author.Rules.{rules}
use lib.ListN.{length, take, get_or, length-map}
use Rattle.std.specs.Prelude.{Result}
use Rattle.std.proofs.lemmas.Result.{err_from_is_err_and}
use Rattle.codec.specs.Lists.{first}
use Rattle.codec.specs.Records.{record_refusals, bytes_of}
use Rattle.codec.specs.Image.{over_limit, log_refusals}
use Rattle.codec.specs.Answers.{log_in, no_record, record_in}
use Rattle.codec.specs.Inside.{bytes_in, answer_on}
use Rattle.codec.specs.declared.record.Record.{Record}
use Rattle.codec.specs.declared.refusal.Refusal.{Refusal}
use Rattle.codec.proofs.Passed.{passed_none, passed_all}
use Rattle.codec.proofs.Opened.{few-records}
use Rattle.codec.proofs.Held.{held-count, held_bytes}
use Rattle.codec.proofs.Checked.{answer_for, refused_limit, refused_record, log-stopped, log_next}
use Rattle.codec.proofs.log.Log.check.Goals as goal
use Rattle.codec.proofs.log.Log.check.Goals.{Else-over_limit}

limits : (c : Else-over_limit) → let l = c.args.self.now in over_limit l.site l.count ≡ false
limits c = sym c.over_limit.ensures ∙ c.if-over_limit.false

-- past the first test the records decide
whole : (c : Else-over_limit) (records : List Record) → let l = c.args.self.now in records ≡ take l.count l.records
    → first (record_refusals l.site [] (bytes_in records)) ≡ first (log_refusals l.site (log_in l))
whole c records e =
    let l = c.args.self.now in
    let fit : length l.records ≡ 24 = search rules in
    rw (e, held_bytes l (few-records l.site l.count (limits c))) (sym (refused_record l.site (log_in l) (ap (over_limit l.site) (held-count l fit) ∙ limits c)))

answered : (s : ℕ) (newest : List Record) (x y : Record) (a : Result Record Refusal) → a ≡ answer_on s (bytes_of (record_in x)) (record_in y) x → y ≡ get_or newest x.transaction no_record
    → a ≡ answer_for s newest x
answered s newest x y a e behind = e ∙ ap (λ (y : Record). answer_on s (bytes_of (record_in x)) (record_in y) x) behind

pub returns-then-over_limit : goal.returns-then-over_limit
returns-then-over_limit c =
    let l = c.args.self.now in
    sym (refused_limit l.site (log_in l) (ap (over_limit l.site) (held-count l (search rules)) ∙ sym c.over_limit.ensures ∙ c.if-over_limit.true))

pub held-record-items-requires : goal.held-record-items-requires
held-record-items-requires c = few-records _ _ (limits (goal.at.held-record-items-requires c).Else-over_limit)

pub loop-record-init : goal.loop-record-init
loop-record-init c = rw c.none-newest.ensures (passed_none _ _)

pub returns-in_err-judged : goal.returns-in_err-judged
returns-in_err-judged c =
    let same = err_from_is_err_and c.from_residual.result c.from_residual.ensures.1 in
    let stopped = log-stopped _ _ _ _ c.loop-record.invariant c.loop-record-test.true _ (sym (answered _ _ _ _ _ c.in_err-judged.ensures c.behind.ensures)) in
    rw (same.1, same.2) (stopped ∙ whole (goal.at.returns-in_err-judged c).Else-over_limit _ c.held-record-items.ensures)

pub loop-record-preserved : goal.loop-record-preserved
loop-record-preserved c =
    rw c.with-newest.ensures (log_next _ _ _ _ c.loop-record.invariant c.loop-record-test.true _ (sym (answered _ _ _ _ _ c.in_ok-judged.ensures c.behind.ensures)))

pub returns : goal.returns
returns c =
    sym (sym (whole (goal.at.returns c).Else-over_limit _ c.held-record-items.ensures) ∙ passed_all _ _ _ _ (simp length-map c.loop-record-test.false) c.loop-record.invariant)
