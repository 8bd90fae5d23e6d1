-- What happens at one participant: the view follows the kinds of its records, and elsewhere stays as it is.
use Prim.Native.Nat.{ℕ, suc}
use mathlib.Core.Path.{◌≡◌, refl, sym, ap, ap₂, subst, ◌∙◌, fun_ext}
use mathlib.Core.Logic.{◌≢◌}
use mathlib.Core.Bool.{Bool, true, false, not, ◌&&◌, ◌||◌, and-true, or-false, or_assoc, or_comm}
use mathlib.Core.List.{List, [], ◌∷◌, ◌++◌, map, map-append}
use lib.ListN.{drop}
use lib.Dec.{T, eqb, eqb-suc-zero}
use borrow.Author.Tests.{eq-eqb, ne_eqb}
use Rattle.codec.specs.Records.{LogRecord}
use Rattle.site.specs.Presumption.{Outcome, same_outcome}
use Rattle.site.specs.Cohort.{Cohort}
use Rattle.site.specs.Step.{Message, vote_yes, message_kind, Effect, append, force, enter, send}
use Rattle.site.specs.Participant.{ParticipantPhase}
use Rattle.joint.specs.State.{Site, holds, appended, forced, survivors, stopped, started, with_sent, with_participant, forgotten, with_coordinator}
use Rattle.joint.specs.Safety.{sends}
use Rattle.joint.proofs.Base.Booleans.{or_right}
use Rattle.joint.proofs.Base.Updates.{update_same, update_other}
use Rattle.joint.proofs.View.View.{View, view_at, view_settle, view_perform, view_effects, view_down}
use Rattle.joint.proofs.View.Turn.{view_start, view_discard, view_forget, trimmed_view, no_record, is_nil}
use Rattle.joint.proofs.Safety.Tables.{has}
use Rattle.joint.proofs.Base.Lists.{Each, drop-map}
use Rattle.joint.proofs.Base.Survivors.{map-survivors}
use Rattle.joint.proofs.Safety.Invariant.{fields_at, record_for, site_with, sent_in}
use Rattle.joint.proofs.Safety.Holds.{holds_at}
use Rattle.joint.proofs.Safety.Participant.Rows.{Part, moved, effect, effects, halted, settled, woken, dropped, phase_left}

-- ---- one site, and all others

-- what a view tells of one site
pub record Local : Type 0 where
  pub site : Site
  pub participant : ParticipantPhase
  pub sent : ℕ → Bool
  pub entered : Outcome → Bool
  pub voted : Bool

-- of site s
abbrev pub local : ℕ → View → Local
local s v =
    record {
      site = v.site s;
      participant = v.transaction.participant s;
      sent = v.transaction.sent s;
      entered = v.entered s;
      voted = v.voted s;
    }

-- w is as v, but perhaps at site p
pub record Elsewhere (p : ℕ) (v w : View) : Type 0 where
  pub cohort : w.transaction.cohort ≡ v.transaction.cohort
  pub coordinator : w.transaction.coordinator ≡ v.transaction.coordinator
  pub marked : w.transaction.marked ≡ v.transaction.marked
  -- what was sent stays sent
  pub sent : (s k : ℕ) → T (v.transaction.sent s k) → T (w.transaction.sent s k)
  pub rest : (s : ℕ) → s ≢ p → local s w ≡ local s v

-- nothing changed
pub elsewhere_none : {p : ℕ} {v : View} → Elsewhere p v v
elsewhere_none = record { cohort = refl; coordinator = refl; marked = refl; sent = λ s k u. u; rest = λ s h. refl }

-- one change at p after another
elsewhere_then : {p : ℕ} {u v w : View} → Elsewhere p u v → Elsewhere p v w → Elsewhere p u w
elsewhere_then a b =
    record {
      cohort = b.cohort ∙ a.cohort;
      coordinator = b.coordinator ∙ a.coordinator;
      marked = b.marked ∙ a.marked;
      sent = λ s k u. b.sent s k (a.sent s k u);
      rest = λ s h. b.rest s h ∙ a.rest s h;
    }

-- field by field
local_same : {x y : Local} → x.site ≡ y.site → x.participant ≡ y.participant → x.sent ≡ y.sent → x.entered ≡ y.entered → x.voted ≡ y.voted → x ≡ y
local_same a b c d e = λ i. record { site = a i; participant = b i; sent = c i; entered = d i; voted = e i }

-- ---- what happens at participant p

-- w is v after what took p to y; what y sent, entered and voted comes to what v tells of p
pub record Reached (t p : ℕ) (v : View) (y : Part) (w : View) : Type 0 where
  pub site : w.site p ≡ site_with v.transaction.cohort 0 t p y.up y.stable y.unforced
  pub phase : w.transaction.participant p ≡ y.phase
  pub sent : (m : Message) → sent_in w p m ≡ (y.sent m || sent_in v p m)
  pub entered : (o : Outcome) → w.entered p o ≡ (y.entered o || v.entered p o)
  pub voted : w.voted p ≡ (y.voted || v.voted p)
  pub elsewhere : Elsewhere p v w

or_last : (a b c : Bool) → ((a || b) || c) ≡ ((c || a) || b)
or_last a b c = or_comm (a || b) c ∙ sym (or_assoc c a b)

module _ (t p : ℕ) (v : View) where
  -- the site of p with records of these kinds
  abbrev here : Bool → List ℕ → List ℕ → Site
  here u ks js = site_with v.transaction.cohort 0 t p u ks js

  -- its record of kind k
  abbrev put : ℕ → LogRecord
  put k = record_for v.transaction.cohort 0 t p k

  -- the site changes
  reach_site : (f : Site → Site) (u : Bool) (ks js : List ℕ) {y : Part} {w : View}
      → f (here y.up y.stable y.unforced) ≡ here u ks js
      → Reached t p v y w → Reached t p v (moved u y.phase ks js y) (view_at p f w)
  unfolding view_at
  reach_site f u ks js {y} {w} e r =
      record {
        site = update_same p f w.site ∙ ap f r.site ∙ e;
        phase = r.phase;
        sent = r.sent;
        entered = r.entered;
        voted = r.voted;
        elsewhere =
            elsewhere_then r.elsewhere (record { cohort = refl; coordinator = refl; marked = refl; sent = λ s k u. u; rest = λ s h. local_same (update_other p s f w.site h) refl refl refl refl });
      }

  -- the phase changes
  pub reach_phase : (x : ParticipantPhase) {y : Part} {w : View} → Reached t p v y w → Reached t p v (settled x y) (view_settle (with_participant p x) w)
  unfolding view_settle with_participant
  reach_phase x {y} {w} r =
      record {
        site = r.site;
        phase = update_same p (λ _. x) w.transaction.participant;
        sent = r.sent;
        entered = r.entered;
        voted = r.voted;
        elsewhere =
            elsewhere_then r.elsewhere (record { cohort = refl; coordinator = refl; marked = refl; sent = λ s k u. u; rest = λ s h. local_same refl (update_other p s (λ _. x) w.transaction.participant h) refl refl refl });
      }

  -- ---- effects

  reach_append : (k : ℕ) {y : Part} {w : View} → Reached t p v y w
      → Reached t p v (effect (append k (fields_at v.transaction.cohort 0 p k)) y) (view_at p (appended (put k)) w)
  unfolding appended
  reach_append k {y} r =
      reach_site (appended (put k)) _ _ _
      (ap (λ (l : List LogRecord). record { up = y.up; stable = map put y.stable; unforced = l }) (sym (map-append put y.unforced (k ∷ [])))) r

  pub reach_force : {y : Part} {w : View} → Reached t p v y w → Reached t p v (effect force y) (view_at p forced w)
  unfolding forced
  reach_force {y} r =
      reach_site forced _ _ _
      (ap (λ (l : List LogRecord). record { up = y.up; stable = l; unforced = [] }) (sym (map-append put y.stable y.unforced))) r

  reach_enter : (o : Outcome) {y : Part} {w : View} → Reached t p v y w → Reached t p v (effect (enter o) y) (view_perform p t (enter o) w)
  unfolding view_perform
  reach_enter o {y} {w} r =
      record {
        site = r.site;
        phase = r.phase;
        sent = r.sent;
        entered = λ d. rw (eq-eqb p p refl, r.entered d) (or_last (y.entered d) (v.entered p d) (same_outcome d o));
        voted = r.voted;
        elsewhere =
            elsewhere_then r.elsewhere (record { cohort = refl; coordinator = refl; marked = refl; sent = λ s k u. u; rest = λ s h. local_same refl refl refl (fun_ext (entered_there s h)) refl });
      }
    where
      entered_there : (s : ℕ) → s ≢ p → (d : Outcome) → (w.entered s d || (eqb p s && same_outcome d o)) ≡ w.entered s d
      entered_there s h d = rw (ne_eqb p s (λ e. h (sym e))) (or-false (w.entered s d))

  reach_send : (m : Message) {y : Part} {w : View} → Reached t p v y w → Reached t p v (effect (send m p) y) (view_perform p t (send m p) w)
  unfolding view_perform with_sent sends
  reach_send m {y} {w} r =
      record {
        site = r.site;
        phase = r.phase;
        sent = λ g. rw (eq-eqb p p refl, r.sent g) (sym (or_assoc (eqb (message_kind g) (message_kind m)) (y.sent g) (sent_in v p g)));
        entered = r.entered;
        voted = voted_here;
        elsewhere =
            elsewhere_then r.elsewhere (record { cohort = refl; coordinator = refl; marked = refl; sent = λ s k u. or_right (eqb s p && eqb k (message_kind m)) (w.transaction.sent s k) u; rest = λ s h. local_same refl refl (fun_ext (sent_there s h)) refl (voted_there s h) });
      }
    where
      is_yes : Bool
      is_yes = eqb (message_kind vote_yes) (message_kind m)

      voted_here : (w.voted p || (eqb p p && (is_yes && eqb p p) && holds t 5 (w.site p).stable)) ≡ (((is_yes && has 5 y.stable) || y.voted) || v.voted p)
      voted_here = rw (eq-eqb p p refl, holds_at v.transaction.cohort 0 t p y.stable r.site 5, r.voted, and-true is_yes) (or_last y.voted (v.voted p) (is_yes && has 5 y.stable))

      sent_there : (s : ℕ) → s ≢ p → (j : ℕ) → ((eqb s p && eqb j (message_kind m)) || w.transaction.sent s j) ≡ w.transaction.sent s j
      sent_there s h j = rw (ne_eqb s p h) refl

      voted_there : (s : ℕ) → s ≢ p → (w.voted s || (eqb p s && (is_yes && eqb s p) && holds t 5 (w.site s).stable)) ≡ w.voted s
      voted_there s h = rw (ne_eqb p s (λ e. h (sym e))) (or-false (w.voted s))

-- the fields are those of the participant's records, and its messages bear its own number
abbrev pub Proper : Cohort → ℕ → Effect → Type 0
Proper g p (append k fs) = fs ≡ fields_at g 0 p k
Proper g p force = Unit {0}
Proper g p (enter o) = Unit {0}
Proper g p (send m q) = q ≡ p

-- each of these effects is proper
abbrev pub AllProper : Cohort → ℕ → List Effect → Type 0
AllProper g p = Each (Proper g p)

module _ (t p : ℕ) (v : View) where
  reach_effect : (e : Effect) {y : Part} {w : View} → Proper v.transaction.cohort p e → Reached t p v y w
      → Reached t p v (effect e y) (view_perform p t e w)
  unfolding view_perform
  reach_effect (append k fs) {y} {w} h r =
      subst (λ (l : List ℕ). Reached t p v (effect (append k l) y) (view_at p (appended (record { kind = k; transaction = t; fields = l })) w))
      (sym h) (reach_append t p v k r)
  reach_effect force h r = reach_force t p v r
  reach_effect (enter o) h r = reach_enter t p v o r
  reach_effect (send m q) {y} {w} h r =
      subst (λ (z : ℕ). Reached t p v (effect (send m z) y) (view_perform p t (send m z) w)) (sym h) (reach_send t p v m r)

  pub reach_effects : (es : List Effect) {y : Part} {w : View} → AllProper v.transaction.cohort p es → Reached t p v y w
      → Reached t p v (effects es y) (view_effects p t es w)
  unfolding view_effects
  reach_effects [] h r = r
  reach_effects (e ∷ es) h r = reach_effects es h.1 (reach_effect e h.0 r)

-- ---- a crash, a start, discard

module _ (t n : ℕ) (v : View) where
  -- the records of these kinds
  abbrev written : List ℕ → List LogRecord
  written ks = map (record_for v.transaction.cohort 0 t (suc n)) ks

  pub reach_down : (k : ℕ) {y : Part} {w : View} → Reached t (suc n) v y w
      → Reached t (suc n) v (halted (survivors k y.unforced) y) (view_down (suc n) k w)
  unfolding view_down view_at view_settle forgotten stopped with_coordinator with_participant
  reach_down k {y} r =
      reach_site t (suc n) v (stopped k) false _ []
      (ap (λ (l : List LogRecord). record { up = false; stable = l; unforced = [] })
      (ap (λ (l : List LogRecord). written y.stable ++ l) (sym (map-survivors _ k y.unforced)) ∙ sym (map-append _ y.stable (survivors k y.unforced))))
      (reach_phase t (suc n) v ParticipantPhase.unknown r)

  pub reach_started : {y : Part} {w : View} → Reached t (suc n) v y w → Reached t (suc n) v (woken y.phase y) (view_at (suc n) started w)
  unfolding started
  reach_started {y} r = reach_site t (suc n) v started true y.stable y.unforced refl r

  pub reach_woken : (x : ParticipantPhase) {y : Part} {w : View} → Reached t (suc n) v y w
      → Reached t (suc n) v (woken x y) (view_start (suc n) (with_participant (suc n) x) w)
  unfolding view_start
  reach_woken x r = reach_started (reach_phase t (suc n) v x r)

  -- the participant with these records left
  reach_forget : (ks : List ℕ) {y : Part} {w : View} → Reached t (suc n) v y w
      → Reached t (suc n) v (settled (phase_left ks y.phase) y) (view_forget (not (is_nil (written ks))) (suc n) w)
  unfolding view_forget is_nil
  reach_forget [] r = reach_phase t (suc n) v ParticipantPhase.unknown r
  reach_forget (k ∷ ks) r = r

  reach_trimmed : {y : Part} {w : View} → Reached t (suc n) v y w
      → Reached t (suc n) v (moved y.up y.phase (drop 1 y.stable) y.unforced y) (view_at (suc n) trimmed_view w)
  unfolding trimmed_view
  reach_trimmed {y} r =
      reach_site t (suc n) v trimmed_view y.up (drop 1 y.stable) y.unforced
      (ap (λ (l : List LogRecord). record { up = y.up; stable = l; unforced = written y.unforced }) (drop-map _ y.stable)) r

  pub reach_dropped : {y : Part} {w : View} → Reached t (suc n) v y w → Reached t (suc n) v (dropped y) (view_discard (suc n) w)
  unfolding view_discard no_record
  reach_dropped {y} {w} r =
      subst (λ (b : Bool). Reached t (suc n) v (dropped y) (view_forget b (suc n) (view_at (suc n) trimmed_view w)))
      (sym (ap₂ (λ (a b : Bool). a || not b) (eqb-suc-zero n) (ap no_record trim.site ∙ ap is_nil (sym (map-append _ (drop 1 y.stable) y.unforced)))))
      (reach_forget (drop 1 y.stable ++ y.unforced) trim)
    where
      trim : Reached t (suc n) v (moved y.up y.phase (drop 1 y.stable) y.unforced y) (view_at (suc n) trimmed_view w)
      trim = reach_trimmed r
