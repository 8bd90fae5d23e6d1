-- In a run that events reach, each log has room for the records that an event appends.
use Prim.Native.Nat.{ℕ, zero, suc, ◌+◌, ◌≤◌}
use mathlib.Core.Path.{◌≡◌, refl, sym, ap, ◌∙◌, subst}
use mathlib.Core.Bool.{Bool, true, false, cond, not, ◌||◌}
use mathlib.Core.List.{List, [], ◌∷◌, ◌++◌, append-nil}
use mathlib.Core.Option.{Option, none, some}
use lib.ListN.{length, get_or, length-append}
use lib.Dec.{eqb}
use native.Mathlib.Omega.{arith}
use borrow.Author.Tests.{ne_eqb, le-leb}
use Rattle.codec.specs.Lists.{select, every, only_if, first}
use Rattle.codec.specs.Records.{LogRecord}
use Rattle.codec.specs.Image.{most}
use Rattle.codec.specs.Laws.Tests.{every_at}
use Rattle.site.specs.Step.{Effect, append, force, enter, send, Input, begin, timer}
use Rattle.joint.specs.State.{Run, Site, Act, fresh, opened, appended, forced, at_site, at_transaction, with_marked, perform, perform_all}
use Rattle.joint.specs.Event.{Event, event_length, event_of, bytes_in_range, cut_in_range, cut_at, cut_of, parse}
use Rattle.joint.specs.Refusals.{refusals}
use Rattle.joint.specs.Plan.{Plan, plan, settling, step, may_discard, discard, is_working, row_plan, acting, restart_all, transactions}
use Rattle.joint.specs.Run.{is_append, count, carry, carry_plan, carry_unless, event_parsed, event, after}
use Rattle.joint.specs.Program.{room_for_plan, room_for, room_parsed, has_room}
use Rattle.joint.specs.Inside.{size, room_along}
use Rattle.joint.proofs.Base.Updates.{update_same}
use Rattle.joint.proofs.Base.Plans.{All, all_step, all_or, all_only}
use Rattle.joint.proofs.Base.History.{after_snoc}
use Rattle.joint.proofs.Reachable.{logs_bounded}
use Rattle.joint.proofs.Engine.Restarts.{unlogged, quiet_count, restarts}

-- ---- acts make a log grow by the records that they append

size-appended : (x : LogRecord) (a : Site) → size (appended x a) ≡ size a + 1
unfolding size appended
size-appended x a = simp length-append (omega arith)

size-forced : (a : Site) → size (forced a) ≡ size a
unfolding size forced
size-forced a = rw append-nil refl

count_more : (b : Bool) (a : Act) (l : List Act) → length (cond b (a ∷ l) l) ≡ cond b 1 0 + length l
count_more true a l = omega arith
count_more false a l = omega arith

size_performed : (s t : ℕ) (e : Effect) (r : Run) → size ((perform s t e r).site s) ≡ size (r.site s) + cond (is_append e) 1 0
unfolding perform at_site at_transaction is_append
size_performed s t (append k fs) r = ap size (update_same s _ r.site) ∙ size-appended _ (r.site s)
size_performed s t force r = ap size (update_same s _ r.site) ∙ size-forced (r.site s) ∙ omega arith
size_performed s t (enter o) r = omega arith
size_performed s t (send m p) r = omega arith

size_all : (s : ℕ) (acts : List Act) (r : Run) → size ((perform_all s acts r).site s) ≡ size (r.site s) + count is_append acts
unfolding perform_all count select
size_all s [] r = omega arith
size_all s (a ∷ rest) r =
    omega (arith, size_all s rest (perform s a.transaction a.effect r), size_performed s a.transaction a.effect r, count_more (is_append a.effect) a (select (λ a. is_append a.effect) rest))

-- ---- plans that leave the logs as their acts made them, and plans that append nothing

abbrev Still : Plan → Type 0
Still p = (x : Run) → (p.settle x).site ≡ x.site

abbrev Recordless : Plan → Type 0
Recordless p = count is_append p.acts ≡ 0

module _ (r : Run) where
  still_step : (t s : ℕ) (i : Input) → All Still (step r t s i)
  unfolding row_plan at_transaction
  still_step t s i = all_step Still r t s i (λ X g x r. refl)

-- room, where an event is not refused
abbrev Room : Run → Event → Type 0
Room r e = first (refusals r e) ≡ 0 → (p : Plan) → plan r e ≡ some p → size (r.site p.site) + count is_append p.acts ≤ 24

room_for_lem : (r : Run) (e : Event) → Room r e → room_for r e ≡ true
unfolding room_for room_for_plan size
room_for_lem r e h = go (first (refusals r e)) refl (plan r e) refl
  where
    go : (n : ℕ) → first (refusals r e) ≡ n → (o : Option Plan) → plan r e ≡ o → (not (eqb n 0) || room_for_plan r o) ≡ true
    go zero q none k = refl
    go zero q (some p) k = le-leb _ 24 (h q p k)
    go (suc n) q o k = rw (ne_eqb (suc n) 0 (λ z. omega (arith, z))) refl

module _ (es : List (List ℕ)) where
  abbrev r : Run
  r = after fresh es

  bounded : (es : List (List ℕ)) (s : ℕ) → size ((after fresh es).site s) ≤ 24
  unfolding size most
  bounded es zero = logs_bounded es 0
  bounded es (suc n) = omega (arith, logs_bounded es (suc n))

  recordless_room : (e : Event) → All Recordless (plan r e) → Room r e
  recordless_room e h passed p q =
      let z : Recordless p = subst (All Recordless) q h in
      omega (arith, z, bounded es p.site)

  -- the event whole
  module _ (code x y z : ℕ) (ranged : bytes_in_range code x y z ≡ true) (whole : cut_of code 255 0 ≡ none) where
    abbrev bytes : List ℕ
    bytes = code ∷ x ∷ y ∷ z ∷ 255 ∷ 0 ∷ []

    whole_run : (p : Plan) → first (refusals r (event_of code x y z)) ≡ 0 → plan r (event_of code x y z) ≡ some p
        → (event r bytes).run ≡ p.settle (perform_all p.site p.acts r)
    unfolding event parse event_length cut_in_range every only_if event_parsed carry_unless carry_plan carry
    whole_run p passed q = rw (ranged, passed, q, whole) refl

    step_room : All Still (plan r (event_of code x y z)) → Room r (event_of code x y z)
    step_room h passed p q =
        let still : Still p = subst (All Still) q h in
        let runs = after_snoc fresh es bytes ∙ whole_run p passed q in
        let grown = ap (λ (x : Run). size (x.site p.site)) runs ∙ ap (λ f. size (f p.site)) (still _) ∙ size_all p.site p.acts r in
        omega (arith, grown, bounded (es ++ (bytes ∷ [])) p.site)

  room : (code x y z : ℕ) → bytes_in_range code x y z ≡ true → Room (after fresh es) (event_of code x y z)
  unfolding event_of plan cut_of cut_at count select acting is_append
  room zero x y z h = recordless_room _ refl
  room (suc zero) x y z h = step_room 1 x y z h refl (still_step r x 0 begin)
  room (suc (suc zero)) x y z h = step_room 2 x y z h refl (all_or Still _ _ (λ r. refl) (still_step r x _ _))
  room (suc (suc (suc zero))) x y z h = step_room 3 x y z h refl (still_step r x y timer)
  room (suc (suc (suc (suc zero)))) x y z h = recordless_room _ refl
  room (suc (suc (suc (suc (suc zero))))) x y z h = recordless_room _ (all_only Recordless (may_discard r x y) (settling y (discard x y)) (λ _. refl))
  room (suc (suc (suc (suc (suc (suc zero)))))) x y z h = recordless_room _ refl
  room (suc (suc (suc (suc (suc (suc (suc zero))))))) x y z h = recordless_room _ (quiet_count is_append (λ e l. (unlogged e l).0) (restart_all r y (select (opened r) transactions)).acts (restarts r y (select (opened r) transactions)).quiet)
  room (suc (suc (suc (suc (suc (suc (suc (suc zero)))))))) x y z h = recordless_room _ (all_only Recordless (is_working ((r.transaction x).participant y)) (settling y (at_transaction x (with_marked y))) (λ _. refl))
  room (suc (suc (suc (suc (suc (suc (suc (suc (suc n))))))))) x y z h = recordless_room _ refl

  pub has_room_lem : (bytes : List ℕ) → has_room (after fresh es) bytes ≡ true
  unfolding has_room room_parsed parse only_if
  has_room_lem bytes = go _ refl
    where
      go : (b : Bool) → every (eqb (length bytes) event_length ∷ bytes_in_range (get_or bytes 0 0) (get_or bytes 1 0) (get_or bytes 2 0) (get_or bytes 3 0) ∷ cut_in_range (get_or bytes 0 0) (get_or bytes 4 0) (get_or bytes 5 0) ∷ []) ≡ b
          → room_parsed (after fresh es) (only_if b (record { event = event_of (get_or bytes 0 0) (get_or bytes 1 0) (get_or bytes 2 0) (get_or bytes 3 0); cut = cut_of (get_or bytes 0 0) (get_or bytes 4 0) (get_or bytes 5 0) })) ≡ true
      go true q = room_for_lem (after fresh es) _ (room (get_or bytes 0 0) (get_or bytes 1 0) (get_or bytes 2 0) (get_or bytes 3 0) (every_at _ q 1))
      go false q = refl

-- so along every list
pub rooms : (done es : List (List ℕ)) → room_along (after fresh done) es ≡ true
unfolding room_along
rooms done [] = refl
rooms done (e ∷ es) = rw (has_room_lem done e) (ap (λ (r : Run). room_along r es) (sym (after_snoc fresh done e)) ∙ rooms (done ++ (e ∷ [])) es)
