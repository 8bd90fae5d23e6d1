-- The coordinator's step (01: the hub, C1 to C4 of 002).
use Rattle.std.specs.Prelude.{ℕ, Bool, true, false, cond, not, ◌&&◌, List, [], ◌∷◌, ◌++◌, map, take, drop}
use Rattle.std.proofs.Math.Option.{Option, none, some}
use Rattle.codec.specs.Lists.{select, only_if}
use Rattle.codec.specs.Sets.{participants, member, empty, only, without, both, either}
use Rattle.site.specs.Presumption.{Outcome, commit, abort, same_outcome, silence}
use Rattle.site.specs.Cohort.{Cohort, remaining, masks_of, writes_init, presumption_of, owing}
use Rattle.site.specs.Step.{prepare, vote_yes, vote_no, read_only, tell, ack, Input, begin, timer, received, Effect, append, force, enter, send, Row, given}

-- `initial` is 01's Open, `awaiting_acks commit` its Committing, `awaiting_acks abort` its Aborting. The number is the set still waited for.
pub data CoordinatorPhase : Type 0 where
  initial : CoordinatorPhase
  collecting : ℕ → CoordinatorPhase
  awaiting_acks : Outcome → ℕ → CoordinatorPhase
  unknown : CoordinatorPhase

-- the coordinator's part of a transaction: its phase, and the participants that it has taken out, which only looked
pub record Coordinator : Type 0 where
  pub phase : CoordinatorPhase
  pub taken_out : ℕ

-- the record that ends an outcome: CommitEnd, AbortEnd
unfoldable pub end_record : Outcome → ℕ
end_record commit = 3
end_record abort = 4

-- acks of w are missing; if none is, Unknown
unfoldable pub until_acked : Outcome → ℕ → CoordinatorPhase
until_acked o w = cond (empty w) unknown (awaiting_acks o w)

-- the outcome is told to p, and the phase stays
unfoldable pub telling : Outcome → ℕ → CoordinatorPhase → Row CoordinatorPhase
telling o p c = record { effects = send (tell o) p ∷ []; phase = c }

-- 02: the order of sending among ties starts at participant t + 1 for transaction t and goes round from 8 to 1
unfoldable pub round : ℕ → List ℕ
round t = drop t participants ++ take t participants

-- those of a set, in that order
unfoldable pub in_turn : ℕ → ℕ → List ℕ
in_turn t to = select (λ p. member p to) (round t)

-- the order of sending to a set: first those that are in `first`
unfoldable pub ordered : ℕ → ℕ → ℕ → List ℕ
ordered t first to = select (λ p. member p first) (in_turn t to) ++ select (λ p. not (member p first)) (in_turn t to)

-- ---- rows from parts, of transaction t and a cohort: as opened, that remains, or that a record tells

module _ (t : ℕ) (g : Cohort) where
  -- the order of sending an outcome: first those that owe an ack for it
  unfoldable pub in_order : Outcome → ℕ → List ℕ
  in_order o to = ordered t (owing g o) to

  unfoldable pub tell_all : Outcome → ℕ → List Effect
  tell_all o to = map (send (tell o)) (in_order o to)

  -- begin; whether Init is written
  unfoldable pub preparing : Bool → Row CoordinatorPhase
  preparing init =
      record {
        effects = given init (append 1 (masks_of g) ∷ force ∷ []) ++ map (send prepare) (in_turn t g.members);
        phase = collecting g.members;
      }

  -- all have voted Yes
  unfoldable pub committing : Row CoordinatorPhase
  committing =
      record {
        effects = append 2 (masks_of g) ∷ force ∷ enter commit ∷ tell_all commit g.members;
        phase = until_acked commit (owing g commit);
      }

  -- abort, told to the set `to`. The order is enter, send, append here: AbortEnd if none is awaited and there is an Init.
  unfoldable pub aborting : Bool → ℕ → Row CoordinatorPhase
  aborting init to =
      let w = both to (owing g abort) in
      record {
        effects = enter abort ∷ tell_all abort to ++ given (empty w && init) (append 4 [] ∷ []);
        phase = until_acked abort w;
      }

  -- restart: an outcome is entered again; whether it is told to all. Acks are awaited
  unfoldable pub resuming : Outcome → Bool → Row CoordinatorPhase
  resuming o tells = record { effects = enter o ∷ given tells (tell_all o g.members); phase = until_acked o (owing g o) }

  unfoldable pub on_begin : CoordinatorPhase → Option (Row CoordinatorPhase)
  on_begin initial = some (preparing (writes_init g))
  on_begin (collecting w) = none
  on_begin (awaiting_acks o w) = none
  on_begin unknown = none

-- ---- votes and the timer: of the cohort g as opened the set `out` is taken out

module _ (t : ℕ) (g : Cohort) (out : ℕ) where
  -- ---- Yes and the read-only vote

  -- votes of w are missing. Whether nobody remains: nothing is entered, and AbortEnd is appended exactly if Init was. Else whether no vote is missing
  unfoldable pub voted : Bool → Bool → ℕ → Row CoordinatorPhase
  voted true b w = record { effects = given (writes_init g) (append 4 [] ∷ []); phase = unknown }
  voted false true w = committing t (remaining g out)
  voted false false w = record { effects = []; phase = collecting w }

  -- a vote came, and votes of w are still missing
  unfoldable pub counting : ℕ → Row CoordinatorPhase
  counting w = voted (empty (remaining g out).members) (empty w) w

  -- a participant taken out has no more rows in Collecting
  unfoldable pub on_yes : ℕ → CoordinatorPhase → Option (Row CoordinatorPhase)
  on_yes p initial = none
  on_yes p (collecting w) = only_if (not (member p out)) (counting (without p w))
  on_yes p (awaiting_acks o w) = some (telling o p (awaiting_acks o w))
  on_yes p unknown = some (telling (silence (presumption_of g p)) p unknown)

  -- ---- No, and the timer: those that remain are told

  unfoldable pub on_no : ℕ → CoordinatorPhase → Option (Row CoordinatorPhase)
  on_no p initial = none
  on_no p (collecting w) = only_if (not (member p out)) (aborting t (remaining g out) (writes_init g) (without p (remaining g out).members))
  on_no p (awaiting_acks o w) = none
  on_no p unknown = none

  unfoldable pub coordinator_timer : CoordinatorPhase → Option (Row CoordinatorPhase)
  coordinator_timer initial = none
  coordinator_timer (collecting w) = some (aborting t (remaining g out) (writes_init g) (remaining g out).members)
  coordinator_timer (awaiting_acks o w) = some (record { effects = tell_all t g o w; phase = awaiting_acks o w })
  coordinator_timer unknown = none

-- a read-only vote of p, which is taken out from now on
unfoldable pub taking_out : ℕ → ℕ → ℕ
taking_out p out = either out (only p)

unfoldable pub on_read_only : ℕ → Cohort → ℕ → ℕ → CoordinatorPhase → Option (Row CoordinatorPhase)
on_read_only t g out p initial = none
on_read_only t g out p (collecting w) = only_if (not (member p out)) (counting t g (taking_out p out) (without p w))
on_read_only t g out p (awaiting_acks o w) = none
on_read_only t g out p unknown = none

-- ---- CommitAck, AbortAck

-- acks of w are missing; whether none is
unfoldable pub acked : Outcome → Bool → ℕ → Row CoordinatorPhase
acked o true w = record { effects = append (end_record o) [] ∷ []; phase = unknown }
acked o false w = record { effects = []; phase = awaiting_acks o w }

-- an ack of the outcome that is being told, or of the other one
unfoldable pub acked_if : Bool → Outcome → ℕ → Option (Row CoordinatorPhase)
acked_if true o w = some (acked o (empty w) w)
acked_if false o w = none

unfoldable pub on_ack : Outcome → ℕ → CoordinatorPhase → Option (Row CoordinatorPhase)
on_ack a p initial = none
on_ack a p (collecting w) = none
on_ack a p (awaiting_acks o w) = acked_if (same_outcome a o) o (without p w)
on_ack a p unknown = none

-- ---- the step: `none` is no row

-- a row of the coordinator, with the set taken out after it
unfoldable pub leaving : ℕ → Row CoordinatorPhase → Row Coordinator
leaving out r = record { effects = r.effects; phase = record { phase = r.phase; taken_out = out } }

unfoldable pub leaving_if : ℕ → Option (Row CoordinatorPhase) → Option (Row Coordinator)
leaving_if out none = none
leaving_if out (some r) = some (leaving out r)

module _ (t : ℕ) (g : Cohort) where
  -- the set taken out stays as it is, but for a read-only vote
  unfoldable pub coordinator_step : Input → Coordinator → Option (Row Coordinator)
  coordinator_step begin c = leaving_if c.taken_out (on_begin t g c.phase)
  coordinator_step timer c = leaving_if c.taken_out (coordinator_timer t g c.taken_out c.phase)
  coordinator_step (received prepare p) c = none
  coordinator_step (received vote_yes p) c = leaving_if c.taken_out (on_yes t g c.taken_out p c.phase)
  coordinator_step (received vote_no p) c = leaving_if c.taken_out (on_no t g c.taken_out p c.phase)
  coordinator_step (received read_only p) c = leaving_if (taking_out p c.taken_out) (on_read_only t g c.taken_out p c.phase)
  coordinator_step (received (tell o) p) c = none
  coordinator_step (received (ack o) p) c = leaving_if c.taken_out (on_ack o p c.phase)

-- ---- restart: by the masks of the record, and nobody is taken out

-- whether Commit stands without CommitEnd; whether Init stands without 2 or 4; the cohort that the record of a kind tells
unfoldable pub restart_from : ℕ → Bool → Bool → (ℕ → Cohort) → Row CoordinatorPhase
restart_from t true i told = resuming t (told 2) commit (not (empty (owing (told 2) commit)))
restart_from t false true told = resuming t (told 1) abort true
restart_from t false false told = record { effects = []; phase = unknown }

-- by the kinds of record that the stable log has of the transaction, and the masks in them
unfoldable pub coordinator_restart : ℕ → (ℕ → Bool) → (ℕ → Cohort) → Row Coordinator
coordinator_restart t has told = leaving 0 (restart_from t (has 2 && not (has 3)) (has 1 && not (has 2) && not (has 4)) told)
