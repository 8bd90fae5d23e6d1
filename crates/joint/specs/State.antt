-- The state of the plain run, and what each effect, a cut and a crash change in it.
-- The plain run is what 01's steps, events and refusals make from a list of events alone; no field of the program defines it.
use Rattle.std.specs.Prelude.{ℕ, zero, suc, ◌/◌, ◌%◌, ◌^◌, Bool, true, false, cond, not, ◌&&◌, ◌||◌, List, [], ◌∷◌, ◌++◌, length, eqb}
use Rattle.codec.specs.Lists.{any}
use Rattle.codec.specs.Sets.{member, empty}
use Rattle.codec.specs.Records.{LogRecord, of_transaction, members_in, presume_commit_in}
use Rattle.site.specs.Presumption.{Outcome, same_outcome}
use Rattle.site.specs.Cohort.{Cohort}
use Rattle.site.specs.Step.{message_kind, Effect, append, force, enter, send}
use Rattle.site.specs.Coordinator.{CoordinatorPhase, Coordinator}
use Rattle.site.specs.Participant.{ParticipantPhase}

-- a site's log: its stable part first, then the unforced records
pub record Site : Type 0 where
  pub up : Bool
  pub stable : List LogRecord
  pub unforced : List LogRecord

-- a transaction (01: handover); its members are 0 until it is opened
-- `marked p`: participant p is marked as one that only looked. `sent p k`: a message of kind k, to participant p or from it, was sent.
-- `entered s o`: site s entered outcome o
pub record Transaction : Type 0 where
  pub cohort : Cohort
  pub coordinator : Coordinator
  pub participant : ℕ → ParticipantPhase
  pub marked : ℕ → Bool
  pub sent : ℕ → ℕ → Bool
  pub entered : ℕ → Outcome → Bool

-- by number: site 0 is the coordinator, 1 to 8 are the participants; transactions are 0 to 7
pub record Run : Type 0 where
  pub site : ℕ → Site
  pub transaction : ℕ → Transaction

-- a coordinator part in Unknown: nobody is taken out
abbrev pub unknown_part : Coordinator
unknown_part = record { phase = CoordinatorPhase.unknown; taken_out = 0 }

-- A fresh run has every site up, each phase Unknown, no record and no message.
unfoldable pub fresh : Run
fresh =
    record {
      site = λ s. record { up = true; stable = []; unforced = [] };
      transaction =
          λ t. record {
            cohort = record { members = 0; presume_commit = 0 };
            coordinator = unknown_part;
            participant = λ p. ParticipantPhase.unknown;
            marked = λ p. false;
            sent = λ p k. false;
            entered = λ s o. false;
          };
    }

-- f, changed by g at i
unfoldable pub update {ℓ} : {A : Type ℓ} → ℕ → (A → A) → (ℕ → A) → ℕ → A
update i g f j = cond (eqb j i) (g (f j)) (f j)

unfoldable pub at_site : ℕ → (Site → Site) → Run → Run
at_site s g r = record { site = update s g r.site; transaction = r.transaction }

unfoldable pub at_transaction : ℕ → (Transaction → Transaction) → Run → Run
at_transaction t g r = record { site = r.site; transaction = update t g r.transaction }

unfoldable pub opened : Run → ℕ → Bool
opened r t = not (empty (r.transaction t).cohort.members)

-- members name each participant among them, and the coordinator in any case
abbrev pub names : ℕ → ℕ → Bool
names members zero = true
names members (suc n) = member (suc n) members

-- the coordinator takes part in each transaction, a participant in those that it is a member of
unfoldable pub takes_part : Transaction → ℕ → Bool
takes_part x s = names x.cohort.members s

-- A site has a participant part and a coordinator part. The cohort as opened stands in the transaction; the cohort that a site coordinates:
-- at site 0 the opened one, elsewhere nobody
abbrev pub cohort_at : Transaction → ℕ → Cohort
cohort_at x zero = x.cohort
cohort_at x (suc n) = record { members = 0; presume_commit = 0 }

-- the coordinator part of site s
abbrev pub coordinator_at : Transaction → ℕ → Coordinator
coordinator_at x zero = x.coordinator
coordinator_at x (suc n) = unknown_part

-- a log has a record of kind k of transaction t
unfoldable pub holds : ℕ → ℕ → List LogRecord → Bool
holds t k log = any (λ x. of_transaction t x && eqb x.kind k) log

-- the cohort in the oldest record of kind k of transaction t
unfoldable pub recorded_cohort : ℕ → ℕ → List LogRecord → Cohort
recorded_cohort t k [] = record { members = 0; presume_commit = 0 }
recorded_cohort t k (x ∷ xs) =
    cond (of_transaction t x && eqb x.kind k) (record { members = members_in x; presume_commit = presume_commit_in x }) (recorded_cohort t k xs)

-- ---- changes of a site

unfoldable pub appended : LogRecord → Site → Site
appended x s = record { up = s.up; stable = s.stable; unforced = s.unforced ++ (x ∷ []) }

-- all records of the log become stable
unfoldable pub forced : Site → Site
forced s = record { up = s.up; stable = s.stable ++ s.unforced; unforced = [] }

-- Which of the unforced records survive where the site goes down: keep is a mask, and bit i stands for unforced record i, oldest first. Their order stays
unfoldable pub survivors {ℓ} : {A : Type ℓ} → ℕ → List A → List A
survivors keep [] = []
survivors keep (x ∷ xs) = cond (eqb (keep % 2) 1) (x ∷ survivors (keep / 2) xs) (survivors (keep / 2) xs)

-- what keep may be then: no bit is set at or above their number
unfoldable pub may_keep : ℕ → List LogRecord → Bool
may_keep keep unforced = eqb (keep / 2 ^ length unforced) 0

-- down: the survivors become stable, the rest is lost
unfoldable pub stopped : ℕ → Site → Site
stopped keep s = record { up = false; stable = s.stable ++ survivors keep s.unforced; unforced = [] }

unfoldable pub started : Site → Site
started s = record { up = true; stable = s.stable; unforced = s.unforced }

-- ---- changes of a transaction

-- the coordinator part of site s
unfoldable pub with_coordinator : ℕ → Coordinator → Transaction → Transaction
with_coordinator zero c x =
    record {
      cohort = x.cohort;
      coordinator = c;
      participant = x.participant;
      marked = x.marked;
      sent = x.sent;
      entered = x.entered;
    }
with_coordinator (suc n) c x = x

unfoldable pub with_participant : ℕ → ParticipantPhase → Transaction → Transaction
with_participant p c x =
    record {
      cohort = x.cohort;
      coordinator = x.coordinator;
      participant = update p (λ _. c) x.participant;
      marked = x.marked;
      sent = x.sent;
      entered = x.entered;
    }

-- a mark stays; it means something while the participant is Working
unfoldable pub with_marked : ℕ → Transaction → Transaction
with_marked p x =
    record {
      cohort = x.cohort;
      coordinator = x.coordinator;
      participant = x.participant;
      marked = λ q. eqb q p || x.marked q;
      sent = x.sent;
      entered = x.entered;
    }

-- a message once sent stays sent
unfoldable pub with_sent : ℕ → ℕ → Transaction → Transaction
with_sent p k x =
    record {
      cohort = x.cohort;
      coordinator = x.coordinator;
      participant = x.participant;
      marked = x.marked;
      sent = λ q j. (eqb q p && eqb j k) || x.sent q j;
      entered = x.entered;
    }

-- an entry is never erased
unfoldable pub with_entered : ℕ → Outcome → Transaction → Transaction
with_entered s o x =
    record {
      cohort = x.cohort;
      coordinator = x.coordinator;
      participant = x.participant;
      marked = x.marked;
      sent = x.sent;
      entered = λ z d. (eqb z s && same_outcome d o) || x.entered z d;
    }

-- the phases at site s are Unknown, and the set taken out is gone with them
unfoldable pub forgotten : ℕ → Transaction → Transaction
forgotten s x = with_coordinator s unknown_part (with_participant s ParticipantPhase.unknown x)

-- ---- site s goes down: all phases there are Unknown

unfoldable pub down : ℕ → ℕ → Run → Run
down s keep r = record { site = update s (stopped keep) r.site; transaction = λ t. forgotten s (r.transaction t) }

-- ---- effects

-- an effect, with its transaction
pub record Act : Type 0 where
  pub transaction : ℕ
  pub effect : Effect

unfoldable pub perform : ℕ → ℕ → Effect → Run → Run
perform s t (append k fs) r = at_site s (appended (record { kind = k; transaction = t; fields = fs })) r
perform s t force r = at_site s forced r
perform s t (enter o) r = at_transaction t (with_entered s o) r
perform s t (send m p) r = at_transaction t (with_sent p (message_kind m)) r

-- acts in turn at site s
unfoldable pub perform_all : ℕ → List Act → Run → Run
perform_all s [] r = r
perform_all s (a ∷ rest) r = perform_all s rest (perform s a.transaction a.effect r)
