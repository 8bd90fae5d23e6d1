-- What holds in every run that events can reach: of the logs and their images, of the cohorts, of the waiting sets and the sets taken out, and of votes.
use Prim.Native.Nat.{ℕ, suc, ◌≤◌, ◌<◌}
use mathlib.Core.Path.{◌≡◌, ap, subst}
use mathlib.Core.Bool.{Bool, true, false}
use mathlib.Core.List.{List, [], ◌++◌}
use lib.ListN.{length, length-append, get_or}
use lib.Dec.{T}
use native.Mathlib.Omega.{arith}
use Rattle.codec.specs.Lists.{first}
use Rattle.codec.specs.Sets.{member}
use Rattle.codec.specs.Records.{LogRecord}
use Rattle.codec.specs.Image.{most, accepted, read_image, log_refusals}
use Rattle.codec.specs.Laws.RoundTrip.{reads_back}
use Rattle.site.specs.Step.{vote_yes, message_kind}
use Rattle.site.specs.Coordinator.{Coordinator}
use Rattle.site.specs.Numbers.{coordinator_phase, waiting_set, waiting_in_range, taken_out_in_range}
use Rattle.joint.specs.State.{Run, fresh, opened}
use Rattle.joint.specs.Run.{after, site_image}
use Rattle.joint.specs.Safety.{history}
use Rattle.joint.proofs.View.View.{view}
use Rattle.joint.proofs.Base.Lists.{Each, each_at, each_map}
use Rattle.joint.proofs.Safety.Tables.{Status, trail}
use Rattle.joint.proofs.Safety.Invariant.{Standing, never, initial, collecting, decided, phase_at, stage_of, Here, here, PhaseAs, Inv}
use Rattle.joint.proofs.Safety.Tracked.{tracked}
use Rattle.joint.proofs.Logs.Taken.{taken_in_range}
use Rattle.joint.proofs.Logs.Counts.{no_record_lem, each-transaction, counted-most}
use Rattle.joint.proofs.Logs.Orders.{Ranged, log_passes}
use Rattle.joint.proofs.Logs.Kinds.{share, Kinds, kinds_at, opened_ranged}
use Rattle.joint.proofs.Logs.Facts.{OwnRecord, few_of, halted, each_of, follows_whole, follows_stable, shares, standing_waits}

no_both : (s : Status) (m y r : Bool) → T (trail s m y r) → T y → T r → ⊥
no_both s true true true t u v = t
no_both s false true true t u v = t
no_both s m false r t u v = u
no_both s m true false t u v = v

-- the phase of a standing
phase_of_lem : (h : Standing) (c : Coordinator) → PhaseAs h c → c.phase ≡ phase_at h
phase_of_lem (never u) c e = ap (λ (z : Coordinator). z.phase) e
phase_of_lem (initial b) c e = ap (λ (z : Coordinator). z.phase) e
phase_of_lem (collecting w out b) c e = ap (λ (z : Coordinator). z.phase) e
phase_of_lem (decided o out p l) c e = e

module _ (es : List (List ℕ)) where
  abbrev r : Run
  r = after fresh es

  inv : (t : ℕ) → Inv t (tracked t es).standing (view t (history fresh es) r)
  inv t = (tracked t es).inv

  -- the kinds of the records of transaction t at site s
  kinds : (t s : ℕ) → Kinds r t s
  kinds t = kinds_at t (history fresh es) r (tracked t es).standing (inv t).mid

  -- ---- transactions

  -- an opened transaction is one of 0 to 7; its members are a byte and not 0, and PC is a part of them
  pub cohorts_in_range : (t : ℕ) → opened r t ≡ true → (t < 8) × Ranged (r.transaction t).cohort
  cohorts_in_range t = opened_ranged t (history fresh es) r (tracked t es).standing (inv t).mid

  -- opened or not
  pub waiting_in_range_lem : (t : ℕ)
      → waiting_in_range (r.transaction t).cohort (coordinator_phase (r.transaction t).coordinator.phase) (waiting_set (r.transaction t).coordinator.phase) ≡ true
  unfolding view
  waiting_in_range_lem t =
      rw (phase_of_lem (tracked t es).standing (r.transaction t).coordinator (inv t).phase)
      (standing_waits (r.transaction t).cohort (tracked t es).standing (inv t).mid.sound.byte (inv t).mid.sound.sets (inv t).whole)

  -- the set taken out is a part of the members, outside the waiting set, and empty in Open
  pub taken_out_in_range_lem : (t : ℕ)
      → taken_out_in_range (r.transaction t).cohort (coordinator_phase (r.transaction t).coordinator.phase) (waiting_set (r.transaction t).coordinator.phase) (r.transaction t).coordinator.taken_out ≡ true
  taken_out_in_range_lem t = taken_in_range t es

  -- a participant never sends both a Yes and a read-only vote
  pub one_vote : (t n : ℕ) → T ((r.transaction t).sent (suc n) 1) → T ((r.transaction t).sent (suc n) 7) → ⊥
  unfolding view message_kind
  one_vote t n y k = go (member (suc n) (r.transaction t).cohort.members) (here (inv t).mid n)
    where
      go : (b : Bool) → Here b t (stage_of (tracked t es).standing (suc n)) n (view t (history fresh es) r) → ⊥
      go true x = no_both x.status ((r.transaction t).marked (suc n)) ((r.transaction t).sent (suc n) 1) ((r.transaction t).sent (suc n) 7) (x.fine tt).looked y k
      go false x = subst T (x.stands.sent vote_yes) y

  -- ---- logs

  module _ (s : ℕ) where
    abbrev log : List LogRecord
    log = (r.site s).stable ++ (r.site s).unforced

    -- each record is its transaction's own
    pub records_own : Each (OwnRecord r s) ((r.site s).stable ++ (r.site s).unforced)
    records_own = each-transaction (OwnRecord r s) log (λ t. each_of (kinds t s))

    pub record_own : (i : ℕ) → i < length ((r.site s).stable ++ (r.site s).unforced) → (x : LogRecord)
        → OwnRecord r s (get_or ((r.site s).stable ++ (r.site s).unforced) i x)
    record_own = each_at (OwnRecord r s) log records_own

    pub records_numbered : Each (λ x. x.transaction < 8) ((r.site s).stable ++ (r.site s).unforced)
    records_numbered = each_map (OwnRecord r s) (λ x. x.transaction < 8) (λ x o. o.known.number) log records_own

    -- 24 at the coordinator, 16 at a participant
    pub logs_bounded : length ((r.site s).stable ++ (r.site s).unforced) ≤ most s
    logs_bounded = subst (λ (n : ℕ). length log ≤ n) (shares s) (counted-most 8 (share s) log records_numbered (λ t. few_of (kinds t s)))

    pub down-unforced : (r.site s).up ≡ false → (r.site s).unforced ≡ []
    down-unforced d = no_record_lem (r.site s).unforced (λ t. halted (kinds t s) d)

    -- ---- images

    module _ (small : s ≤ 8) where
      -- no refusal strikes a log, its unforced records with it
      pub logs_accepted : first (log_refusals s ((r.site s).stable ++ (r.site s).unforced)) ≡ 0
      logs_accepted = log_passes (λ t. (r.transaction t).cohort) s log small logs_bounded (λ t. follows_whole (kinds t s) (cohorts_in_range t))

      pub images_accepted : first (log_refusals s (r.site s).stable) ≡ 0
      images_accepted =
          log_passes (λ t. (r.transaction t).cohort) s (r.site s).stable small (omega (arith, rw length-append at logs_bounded))
          (λ t. follows_stable (kinds t s) (cohorts_in_range t))

      -- so its image is read, and tells the stable records
      pub images_read : read_image (site_image r s) ≡ accepted s (r.site s).stable
      unfolding site_image
      images_read = reads_back s (r.site s).stable images_accepted
