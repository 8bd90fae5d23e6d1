-- What the program's values stand for, and its answers in 01's numbers. Nothing here says what is right: State to Drill do.
use Rattle.std.specs.Prelude.{ℕ, Bool, true, ◌&&◌, List, map, length, take, drop, get_or, replicate, Result, Ok, Err}
use Rattle.codec.specs.Lists.{select}
use Rattle.codec.specs.Sets.{member}
use Rattle.codec.specs.Answers.{record_in, no_record}
use Rattle.site.specs.Presumption.{Outcome, commit, abort}
use Rattle.site.specs.Answers.{coordinator_state_in, cohort_in, participant_in, has_kind}
use Rattle.site.specs.declared.phases.CoordinatorPhase.TheVariants as coordinator
use Rattle.site.specs.declared.phases.ParticipantPhase.TheVariants as participant
use Rattle.joint.specs.State as plain
use Rattle.joint.specs.State.{opened, takes_part}
use Rattle.joint.specs.Plan.{transactions}
use Rattle.joint.specs.Run as run
use Rattle.joint.specs.Totals as totals
use Rattle.joint.specs.Totals.{held, totals_of}
use Rattle.joint.specs.Drill.{Replayed}
use Rattle.codec.specs.declared.record.Record.{Record}
use Rattle.joint.specs.declared.sites.Site.{Site}
use Rattle.joint.specs.declared.records.Records.{Records}
use Rattle.joint.specs.declared.transactions.Transaction.{Transaction}
use Rattle.joint.specs.declared.answers.Counts.{Counts}
use Rattle.joint.specs.declared.answers.Refusal.{Refusal}
use Rattle.joint.specs.declared.answers.Refusal.TheVariants as refusals
use Rattle.joint.specs.declared.bill.Bill.{Bill}
use Rattle.joint.specs.declared.run.Run.{Run}
use Rattle.joint.specs.declared.run.Next.{Next}
use Rattle.joint.specs.declared.replay.Ran.{Ran}
use Rattle.joint.specs.declared.totals.Totals.{Totals}

-- ---- sites

-- the counts, with the records behind them: the first `stable` are stable, and the next `unforced` are not
unfoldable pub site_from : Site → List Record → plain.Site
site_from x rs =
    let records = map record_in rs in
    record { up = x.up; stable = take x.stable records; unforced = take x.unforced (drop x.stable records) }

abbrev pub no_site : Site
no_site = record { up = true; stable = 0; unforced = 0 }

abbrev pub no_records : Records
no_records = record { of = replicate 24 no_record }

-- ---- transactions

-- the sites that entered commit, and those that entered abort, bit s for site s
unfoldable pub entered_in : ℕ → ℕ → ℕ → Outcome → Bool
entered_in committed aborted s commit = has_kind committed s
entered_in committed aborted s abort = has_kind aborted s

-- `marked` has bit p for participant p; `sent` has the participants whose message was sent, by the message's kind
unfoldable pub transaction_in : Transaction → plain.Transaction
transaction_in x =
    record {
      cohort = cohort_in x.part.cohort;
      coordinator = coordinator_state_in (record { phase = x.part.phase; taken_out = x.taken_out });
      participant = λ p. participant_in (get_or x.participants p participant.Unknown);
      marked = has_kind x.marked;
      sent = λ p k. member p (get_or x.sent k 0);
      entered = entered_in x.committed x.aborted;
    }

abbrev pub no_transaction : Transaction
no_transaction =
    record {
      part = record { phase = coordinator.Unknown; cohort = record { members = 0; presume_commit = 0 } };
      taken_out = 0;
      participants = replicate 9 participant.Unknown;
      sent = replicate 8 0;
      marked = 0;
      committed = 0;
      aborted = 0;
    }

abbrev pub transactions_in : List Transaction → ℕ → plain.Transaction
transactions_in l t = transaction_in (get_or l t no_transaction)

-- ---- the run

unfoldable pub run_in : Run → plain.Run
run_in r =
    record {
      site = λ s. site_from (get_or r.sites s no_site) (get_or r.records s no_records).of;
      transaction = transactions_in r.transactions;
    }

-- ---- totals

-- the forced writes that the run has counted at site s. (A counter has 64 bits.)
unfoldable pub forces_in : Run → ℕ → ℕ
forces_in r s = held (get_or r.forces s 0)

-- the transactions that were opened with site s
unfoldable pub handovers_in : plain.Run → ℕ → ℕ
handovers_in r s = length (select (λ t. opened r t && takes_part (r.transaction t) s) transactions)

unfoldable pub totals_in : Run → ℕ → totals.Totals
totals_in r s = totals_of (forces_in r s) (handovers_in (run_in r) s)

-- what a call gives of them
unfoldable pub totals_seen : Totals → totals.Totals
totals_seen x = record { forces = x.forces; handovers = x.handovers; quotient = x.quotient; remainder = x.remainder }

-- ---- answers

-- accepted is 0, with the counts; the others are the refusals 1 to 9
unfoldable pub refusal_number : ℕ → run.Answer
refusal_number n = record { number = n; records = 0; forces = 0; sends = 0 }

abbrev pub accepted : Counts → run.Answer
accepted c = record { number = 0; records = c.records; forces = c.forces; sends = c.sends }

unfoldable pub number_of : Refusal → ℕ
number_of refusals.Malformed = 1
number_of refusals.OpenedBefore = 2
number_of refusals.NeverOpened = 3
number_of refusals.NoMember = 4
number_of refusals.SiteDown = 5
number_of refusals.SiteUp = 6
number_of refusals.NeverSent = 7
number_of refusals.NotAllowed = 8
number_of refusals.CutTooFar = 9

abbrev pub Answer : Type 0
Answer = Result Counts Refusal

unfoldable pub answer_in : Answer → run.Answer
answer_in (Ok c) = accepted c
answer_in (Err e) = refusal_number (number_of e)

-- a bill, with its counts, or refused
unfoldable pub bill_in : Result Bill Refusal → run.Answer
bill_in (Ok b) = accepted b.costs
bill_in (Err e) = refusal_number (number_of e)

-- what an event gives: its answer with the counts, and the next run
pub record Seen : Type 0 where
  pub answer : run.Answer
  pub run : plain.Run

unfoldable pub seen : run.Result → Seen
seen x = record { answer = run.answer_of x; run = x.run }

unfoldable pub next_in : Next → Seen
next_in x = record { answer = answer_in x.answer; run = run_in x.run }

-- what a replay gives, with the lent buffer
unfoldable pub replay_in : Ran → List ℕ → Replayed
replay_in x buffer = record { count = x.count; run = run_in x.run; totals = totals_in x.run; buffer = buffer }
