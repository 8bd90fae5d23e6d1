-- The coordinator's rows that begin, and that commit, effect by effect.
use Prim.Native.Nat.{ℕ, zero, suc}
use mathlib.Core.Path.{◌≡◌, refl, subst}
use mathlib.Core.Bool.{Bool, true, false, not}
use mathlib.Core.List.{List, [], ◌∷◌, ◌++◌, map, append-nil, map-append}
use lib.Dec.{T}
use Rattle.codec.specs.Sets.{member, empty}
use Rattle.site.specs.Presumption.{Outcome, commit, same_outcome}
use Rattle.site.specs.Cohort.{Cohort, remaining, masks_of, owing, writes_init}
use Rattle.site.specs.Step.{prepare, tell, Effect, append, force, enter, send, given}
use Rattle.site.specs.Coordinator.{in_turn, in_order, tell_all, preparing, committing}
use Rattle.joint.specs.State.{appended, forced}
use Rattle.joint.proofs.Base.Booleans.{or_left}
use Rattle.joint.proofs.View.View.{View, view_at, view_perform}
use Rattle.joint.proofs.Safety.Invariant.{Log, kinds_in, waiting, Pace, Standing, initial, collecting, decided, init_log, site_with, cohort_of}
use Rattle.joint.proofs.Safety.Sets.{no_zero, remains_member}
use Rattle.joint.proofs.Safety.Coordinator.Logs.{commit_log, end_unwritten, commit_kinds}
use Rattle.joint.proofs.Safety.Coordinator.Shifts.{writes, begins, marks, commits, ends, settled_as}
use Rattle.joint.proofs.Safety.Coordinator.Runs.{Addressee, Node, Runs, node_stay, append-run, force-run, enter-run, sends_run, each_in_turn, each-ordered}
use Rattle.joint.proofs.Safety.Outcomes.{refl-outcome}
use Rattle.joint.proofs.Base.Lists.{Each}
use Rattle.codec.specs.Laws.Tests.{of_true}

-- ---- begin

-- each member is asked
asked : (t : ℕ) (g : Cohort) (w out : ℕ) → Each (Addressee g (collecting w out false) prepare) (in_turn t g.members)
asked t g w out = each_in_turn (Addressee g (collecting w out false) prepare) t g.members (λ n m. (m, tt))

module _ (t : ℕ) (h0 : Standing) where
  asks : (v : View) (w out : ℕ) → Node t h0 v (collecting w out false)
      → Runs t h0 v (map (send prepare) (in_turn t (cohort_of v).members)) (collecting w out false)
  asks v w out x =
      subst (λ (es : List Effect). Runs t h0 v es (collecting w out false)) (append-nil (map (send prepare) (in_turn t (cohort_of v).members)))
      (sends_run t h0 [] (collecting w out false) prepare (in_turn t (cohort_of v).members) v (asked t (cohort_of v) w out) x (λ u e y. y))

  module _ (v : View) where
    abbrev g : Cohort
    g = cohort_of v

    abbrev begun : View
    begun = view_perform 0 t (append 1 (masks_of g)) v

    -- b: record 1 is written
    begin_if : (b : Bool) → writes_init g ≡ b → Node t h0 v (initial false)
        → Runs t h0 v (given b (append 1 (masks_of g) ∷ force ∷ []) ++ map (send prepare) (in_turn t g.members)) (collecting g.members 0 false)
    unfolding given view_perform view_at appended forced
    begin_if true e x =
        append-run t h0 (force ∷ map (send prepare) (in_turn t g.members)) (collecting g.members 0 false) 1 (masks_of g) x
        (writes v (of_true e)) refl
        (λ y.
        force-run t h0 (map (send prepare) (in_turn t g.members)) (collecting g.members 0 false) y (begins begun true x.mid.sound.byte) (rw e refl)
        (λ z. asks (view_perform 0 t force begun) g.members 0 z))
    begin_if false e x = asks v g.members 0 (node_stay t h0 x (begins v false x.mid.sound.byte) (rw e refl))

    pub begin_run : Node t h0 v (initial false) → Runs t h0 v (preparing t g (writes_init g)).effects (collecting g.members 0 false)
    unfolding preparing
    begin_run x = begin_if (writes_init g) refl x

-- ---- the outcome is entered and told

-- to members, in the order of a cohort k: as opened, or as it remains
pub told : (t : ℕ) (g k : Cohort) (o : Outcome) (out : ℕ) (p : Pace) (l : Log) (to : ℕ) → ((q : ℕ) → T (member q to) → T (member q g.members))
    → Each (Addressee g (decided o out p l) (tell o)) (in_order t k o to)
unfolding in_order
told t g k o out p l to f =
    each-ordered (Addressee g (decided o out p l) (tell o)) t (owing k o) to (λ n m. (f (suc n) m, or_left (same_outcome o o) _ (refl-outcome o)))

module _ (t : ℕ) (h0 : Standing) where
  pub enter_tell : {v : View} (k : Cohort) (o : Outcome) (out : ℕ) (p : Pace) (l : Log) (to : ℕ) → ((q : ℕ) → T (member q to) → T (member q (cohort_of v).members))
      → (es : List Effect) (h' : Standing)
      → Node t h0 v (decided o out p l) → ((w : View) → cohort_of w ≡ cohort_of v → Node t h0 w (decided o out p l) → Runs t h0 w es h')
      → Runs t h0 v (enter o ∷ (tell_all t k o to ++ es)) h'
  unfolding view_perform tell_all
  enter_tell {v} k o out p l to f es h' x r =
      enter-run t h0 (tell_all t k o to ++ es) h' o x (refl-outcome o)
      (λ y. sends_run t h0 es h' (tell o) (in_order t k o to) (view_perform 0 t (enter o) v) (told t (cohort_of v) k o out p l to f) y r)

  -- where nobody is waited for, and no record ends it, the coordinator is in Unknown
  pub settle_node : (v : View) (b : Bool) (o : Outcome) (out w : ℕ) (l : Log) → empty w ≡ b → Node t h0 v (decided o out (waiting w) l)
      → Node t h0 v (settled_as b false o out w l)
  settle_node v true o out w l e x =
      node_stay t h0 x (ends v o out l false w x.mid (of_true e) (end_unwritten (writes_init (cohort_of v)) o l w x.mid.sound.fit) tt) refl
  settle_node v false o out w l e x = x

-- ---- commit

pub forced_kinds : (g : Cohort) (out t : ℕ) (u : Bool) (ks js ms : List ℕ) → ms ≡ ks ++ js → forced (site_with g out t 0 u ks js) ≡ site_with g out t 0 u ms []
unfolding forced
forced_kinds g out t u ks js ms e = rw (e, map-append) refl

module _ (t : ℕ) (h0 : Standing) (v : View) (out : ℕ) where
  -- those that remain
  abbrev rest : Cohort
  rest = remaining (cohort_of v) out

  abbrev final : Bool → Standing
  final b = settled_as b false commit out (owing rest commit) (commit_log (writes_init (cohort_of v)))

  abbrev written : View
  written = view_perform 0 t (append 2 (masks_of rest)) v

  -- no vote of w is missing; b: nobody owes an ack
  pub commit_run : (w : ℕ) → T (empty w) → T (not (empty rest.members)) → (b : Bool) → empty (owing rest commit) ≡ b → Node t h0 v (collecting w out false)
      → Runs t h0 v (committing t rest).effects (final b)
  unfolding committing view_perform view_at appended
  commit_run w e left b q x =
      append-run t h0 (force ∷ enter commit ∷ tells) (final b) 2 (masks_of rest) x (marks v w out x.mid e left) refl
      (λ y.
      force-run t h0 (enter commit ∷ tells) (final b) y (commits written w out y.mid)
      (forced_kinds (cohort_of v) out t true (kinds_in (init_log i)) (2 ∷ []) (kinds_in (commit_log i)) (commit_kinds i))
      (λ z.
      subst (λ (l : List Effect). Runs t h0 (view_perform 0 t force written) (enter commit ∷ l) (final b)) (append-nil tells)
      (enter_tell t h0 {v = view_perform 0 t force written} rest commit out (waiting (owing rest commit)) (commit_log i) rest.members members []
      (final b) z (λ u f n. settle_node t h0 u b commit out (owing rest commit) (commit_log i) q n))))
    where
      i : Bool
      i = writes_init (cohort_of v)

      tells : List Effect
      tells = tell_all t rest commit rest.members

      members : (q : ℕ) → T (member q rest.members) → T (member q (cohort_of v).members)
      members zero k = absurd (no_zero rest.members k)
      members (suc n) k = remains_member (cohort_of v) out n k
