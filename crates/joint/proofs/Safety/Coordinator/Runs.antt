-- The coordinator's rows, effect by effect: in front of each effect the invariant holds with some standing, so that a power cut there is a crash from it.
use Prim.Native.Nat.{ℕ, zero, suc}
use mathlib.Core.Path.{◌≡◌, refl}
use mathlib.Core.Bool.{Bool, false, not}
use mathlib.Core.List.{List, [], ◌∷◌, ◌++◌, map}
use lib.ListN.{take}
use lib.Dec.{T}
use Rattle.codec.specs.Lists.{select}
use Rattle.codec.specs.Sets.{member}
use Rattle.site.specs.Presumption.{Outcome}
use Rattle.site.specs.Cohort.{Cohort, presumption_of, writes_init}
use Rattle.site.specs.Step.{Message, vote_yes, Effect, append, force, enter, send}
use Rattle.site.specs.Coordinator.{Coordinator, round, in_turn, ordered}
use Rattle.joint.specs.State.{Site, appended, forced, with_coordinator, with_sent, forgotten, with_participant}
use Rattle.joint.proofs.View.View.{View, view_at, view_settle, view_perform, view_effects, view_down}
use Rattle.joint.proofs.View.Turn.{Carried, whole, cut_after}
use Rattle.joint.proofs.Safety.Tables.{may_send}
use Rattle.joint.proofs.Safety.Sets.{no_zero}
use Rattle.joint.proofs.Safety.Invariant.{Standing, stage_of, has_decided, between, sent_in, Mid, PhaseAs, cohort_of}
use Rattle.joint.proofs.Safety.Coordinator.Steps.{From, Shift, shift_keeps, stands_as, stay, stand, settle_mid, enter_mid, send_mid}
use Rattle.joint.proofs.Safety.Coordinator.Crashes.{Next, crash_next}
use Rattle.joint.proofs.Base.Lists.{Each, each_append, each_chosen, each_kept}

-- ---- addressees

-- a member that may be sent a message
abbrev pub Addressee : Cohort → Standing → Message → ℕ → Type 0
Addressee g h m zero = ⊥
Addressee g h m (suc n) = T (member (suc n) g.members) × T (may_send (presumption_of g (suc n)) (stage_of h (suc n)) false m)

-- ---- runs

-- in front of an effect of a row that began with the standing h0: the invariant holds, with the standing h
pub record Node (t : ℕ) (h0 : Standing) (v : View) (h : Standing) : Type 0 where
  pub mid : Mid t h v
  pub from : (x : Standing) → From (writes_init (cohort_of v)) x h0 → From (writes_init (cohort_of v)) x h

pub node_start : {t : ℕ} {h : Standing} {v : View} → Mid t h v → Node t h v h
node_start mid = record { mid = mid; from = λ x f. f }

-- what a row of the coordinator with these effects, behind which f settles, leads to: in front of each effect and behind the last the invariant holds, and
-- so it does where the row is whole or cut
pub record Leads (t : ℕ) (h0 : Standing) (v : View) (es : List Effect) (f : View → View) : Type 0 where
  pub middle : (m : ℕ) → (h : Standing) × Mid t h (view_effects 0 t (take m es) v)
  pub next : {w : View} → Carried t 0 es f v w → Next t h0 w

module _ (t : ℕ) (h0 : Standing) where
  -- from the standing h0, through the effects, to the standing h'
  abbrev pub Runs : View → List Effect → Standing → Type 0
  Runs v [] h' = Node t h0 v h'
  Runs v (e ∷ es) h' = ((h : Standing) × Node t h0 v h) × Runs (view_perform 0 t e v) es h'

  runs_at : (v : View) (es : List Effect) (h' : Standing) → Runs v es h' → (m : ℕ) → (h : Standing) × Node t h0 (view_effects 0 t (take m es) v) h
  unfolding view_effects
  runs_at v [] h' x zero = (h', x)
  runs_at v [] h' x (suc m) = (h', x)
  runs_at v (e ∷ es) h' x zero = x.0
  runs_at v (e ∷ es) h' x (suc m) = runs_at (view_perform 0 t e v) es h' x.1 m

  pub runs_end : (v : View) (es : List Effect) (h' : Standing) → Runs v es h' → Node t h0 (view_effects 0 t es v) h'
  unfolding view_effects
  runs_end v [] h' x = x
  runs_end v (e ∷ es) h' x = runs_end (view_perform 0 t e v) es h' x.1

  -- a cut: a crash from the standing that the effects have led to
  cut_next : (v : View) (h : Standing) → Node t h0 v h → (n : ℕ) → Next t h0 (view_down 0 n v)
  unfolding view_down with_coordinator forgotten with_participant
  cut_next v h x n =
      let y = crash_next t v h x.mid n in
      record { standing = y.standing; inv = y.inv; from = λ z f. y.from z (x.from z f) }

  -- a row with these effects, by where it ends
  pub leads : {f : View → View} (v : View) (es : List Effect) (h' : Standing) → Runs v es h' → Next t h0 (f (view_effects 0 t es v)) → Leads t h0 v es f
  leads {f} v es h' x end = record { middle = λ m. let y = runs_at v es h' x m in (y.0, y.1.mid); next = go }
    where
      go : {w : View} → Carried t 0 es f v w → Next t h0 w
      go whole = end
      go (cut_after m n) =
          let y = runs_at v es h' x m in
          cut_next (view_effects 0 t (take m es) v) y.0 y.1 n

  pub row_leads : {v : View} (es : List Effect) (h' : Standing) (c : Coordinator) → Runs v es h' → PhaseAs h' c → T (between h')
      → Leads t h0 v es (view_settle (with_coordinator 0 c))
  unfolding view_settle with_coordinator
  row_leads {v} es h' c x e b =
      let y = runs_end v es h' x in
      leads v es h' x (record { standing = h'; inv = record { mid = settle_mid y.mid c; phase = e; whole = b }; from = y.from })

  -- ---- a change of standing, without an effect and with one on the log

  pub node_stay : {v : View} {h h' : Standing} → Node t h0 v h → Shift v h h' → stands_as t v h ≡ stands_as t v h' → Node t h0 v h'
  node_stay x s e = record { mid = stay x.mid s.move (shift_keeps s) e; from = λ y f. s.from y (x.from y f) }

  node_stand : {v : View} {h h' : Standing} → Node t h0 v h → Shift v h h' → (k : Site → Site) → k (stands_as t v h) ≡ stands_as t v h'
      → Node t h0 (view_at 0 k v) h'
  unfolding view_at
  node_stand x s k e = record { mid = stand x.mid s.move (shift_keeps s) k e; from = λ y f. s.from y (x.from y f) }

  pub append-run : {v : View} {h h1 : Standing} (es : List Effect) (h' : Standing) (k : ℕ) (fs : List ℕ) → Node t h0 v h → Shift v h h1
      → appended (record { kind = k; transaction = t; fields = fs }) (stands_as t v h) ≡ stands_as t v h1
      → (Node t h0 (view_perform 0 t (append k fs) v) h1 → Runs (view_perform 0 t (append k fs) v) es h') → Runs v (append k fs ∷ es) h'
  unfolding view_perform
  append-run {h} es h' k fs x s e r = ((h, x), r (node_stand x s (appended (record { kind = k; transaction = t; fields = fs })) e))

  pub force-run : {v : View} {h h1 : Standing} (es : List Effect) (h' : Standing) → Node t h0 v h → Shift v h h1
      → forced (stands_as t v h) ≡ stands_as t v h1
      → (Node t h0 (view_perform 0 t force v) h1 → Runs (view_perform 0 t force v) es h') → Runs v (force ∷ es) h'
  unfolding view_perform
  force-run {h} es h' x s e r = ((h, x), r (node_stand x s forced e))

  -- ---- entries and messages

  pub enter-run : {v : View} {h : Standing} (es : List Effect) (h' : Standing) (o : Outcome) → Node t h0 v h → T (has_decided h o)
      → (Node t h0 (view_perform 0 t (enter o) v) h → Runs (view_perform 0 t (enter o) v) es h') → Runs v (enter o ∷ es) h'
  unfolding view_perform
  enter-run {h} es h' o x d k = ((h, x), k (record { mid = enter_mid x.mid o d; from = x.from }))

  pub send-run : {v : View} {h : Standing} (es : List Effect) (h' : Standing) → Node t h0 v h → (y : Bool) (n : ℕ)
      → T (member (suc n) (cohort_of v).members)
      → (T y → T (sent_in v (suc n) vote_yes)) → (g : Message) → T (may_send (presumption_of (cohort_of v) (suc n)) (stage_of h (suc n)) y g)
      → (Node t h0 (view_perform 0 t (send g (suc n)) v) h → Runs (view_perform 0 t (send g (suc n)) v) es h') → Runs v (send g (suc n) ∷ es) h'
  unfolding view_perform with_sent
  send-run {h} es h' x y n m a g s k = ((h, x), k (record { mid = send_mid x.mid y n m a g s; from = x.from }))

  pub sends_run : {h : Standing} (es : List Effect) (h' : Standing) (g : Message) (ps : List ℕ) (v : View) → Each (Addressee (cohort_of v) h g) ps
      → Node t h0 v h
      → ((w : View) → cohort_of w ≡ cohort_of v → Node t h0 w h → Runs w es h') → Runs v (map (send g) ps ++ es) h'
  unfolding view_perform with_sent
  sends_run es h' g [] v a x k = k v refl x
  sends_run es h' g (zero ∷ ps) v a x k = absurd a.0
  sends_run es h' g (suc n ∷ ps) v a x k =
      send-run (map (send g) ps ++ es) h' x false n a.0.0 (λ f. absurd f) g a.0.1 (λ y. sends_run es h' g ps (view_perform 0 t (send g (suc n)) v) a.1 y k)

-- ---- the order of sending

module _ (P : ℕ → Type 0) (t : ℕ) where
  -- those of a set, in turn, and in the order of sending
  pub each_in_turn : (to : ℕ) → ((n : ℕ) → T (member (suc n) to) → P (suc n)) → Each P (in_turn t to)
  unfolding in_turn
  each_in_turn to h = each_chosen P (λ p. member p to) go (round t)
    where
      go : (p : ℕ) → T (member p to) → P p
      go zero m = absurd (no_zero to m)
      go (suc n) m = h n m

  pub each-ordered : (first to : ℕ) → ((n : ℕ) → T (member (suc n) to) → P (suc n)) → Each P (ordered t first to)
  unfolding ordered
  each-ordered first to h =
      let a = each_in_turn to h in
      each_append P (select (λ p. member p first) (in_turn t to)) (select (λ p. not (member p first)) (in_turn t to))
      (each_kept P (λ p. member p first) (in_turn t to) a) (each_kept P (λ p. not (member p first)) (in_turn t to) a)
