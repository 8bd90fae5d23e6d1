-- Where a moment of the history lies: in which event, and after which acts of it.
use Prim.Native.Nat.{ℕ}
use mathlib.Core.Path.{◌≡◌, refl, sym, ap, ◌∙◌}
use mathlib.Core.Logic.{⊎_elim}
use mathlib.Core.Bool.{Bool}
use mathlib.Core.List.{List, [], ◌∷◌, ◌++◌, append_assoc}
use lib.Dec.{T}
use Rattle.codec.specs.Lists.{any}
use Rattle.site.specs.Step.{Effect, append, force, enter, send}
use Rattle.joint.specs.State.{Run, Act, fresh, at_site, at_transaction, with_sent, with_entered, perform, perform_all}
use Rattle.joint.specs.Run.{event, after}
use Rattle.joint.specs.Safety.{Moment, moments, happened, history, Happens}
use Rattle.joint.proofs.Base.Lists.{not-empty, append_split, any_found}
use Rattle.joint.proofs.Base.Updates.{update-keeps}
use Rattle.joint.proofs.Base.History.{by_events, history_snoc}

-- ---- in which event

-- m is of one event of the list: `seen` are the moments before it in that event, `rest` those behind it
pub record Placed (es : List (List ℕ)) (earlier : List Moment) (m : Moment) : Type 0 where
  pub before : List (List ℕ)
  pub event : List ℕ
  pub later : List (List ℕ)
  pub seen : List Moment
  pub rest : List Moment
  pub list : es ≡ before ++ (event ∷ later)
  pub moments : happened (after fresh before) event ≡ seen ++ (m ∷ rest)
  pub earlier_is : earlier ≡ history fresh before ++ seen

placed_more : (es : List (List ℕ)) (e : List ℕ) (earlier : List Moment) (m : Moment) → Placed es earlier m → Placed (es ++ (e ∷ [])) earlier m
placed_more es e earlier m p =
    record {
      before = p.before;
      event = p.event;
      later = p.later ++ (e ∷ []);
      seen = p.seen;
      rest = p.rest;
      list = ap (λ (l : List (List ℕ)). l ++ (e ∷ [])) p.list ∙ append_assoc p.before (p.event ∷ p.later) (e ∷ []);
      moments = p.moments;
      earlier_is = p.earlier_is;
    }

pub placed : (es : List (List ℕ)) (earlier : List Moment) (m : Moment) → Happens es earlier m → Placed es earlier m
unfolding Happens
placed =
    by_events (λ es. (earlier : List Moment) (m : Moment) → Happens es earlier m → Placed es earlier m)
    (λ earlier m d. absurd (not-empty earlier m d.0 (unfold history in d.1)))
    (λ es e h earlier m d.
    ⊎_elim (λ c. placed_more es e earlier m (h earlier m c))
    (λ c. record { before = es; event = e; later = []; seen = c.0; rest = d.0; list = refl; moments = c.2; earlier_is = c.1 })
    (append_split (history fresh es) (happened (after fresh es) e) earlier m d.0 (rw history_snoc at d.1)))

-- a test that the history passes is passed by one of its moments
pub any_placed : (f : Moment → Bool) (es : List (List ℕ)) → T (any f (history fresh es))
    → (earlier : List Moment) × (m : Moment) × Happens es earlier m × T (f m)
unfolding Happens
any_placed f es h =
    let d = any_found f (history fresh es) h in
    (d.0, d.1, (d.2, d.3), d.4)

-- ---- after which acts

-- m is the moment of an act of the list l, performed in turn at site s from the run x, in the event e from the run r
pub record Within (e : List ℕ) (r : Run) (s : ℕ) (l : List Act) (x : Run) (m : Moment) : Type 0 where
  pub first : List Act
  pub next : List Act
  pub acts : l ≡ first ++ (m.act ∷ next)
  pub event_is : m.event ≡ e
  pub start_is : m.start ≡ r
  pub site_is : m.site ≡ s
  pub before_is : m.before ≡ perform_all s first x

within_first : (e : List ℕ) (r : Run) (s : ℕ) (a : Act) (l : List Act) (x : Run) (m : Moment)
    → record { event = e; start = r; before = x; site = s; act = a } ≡ m → Within e r s (a ∷ l) x m
unfolding perform_all
within_first e r s a l x m q =
    record {
      first = [];
      next = l;
      acts = ap (λ (n : Moment). n.act ∷ l) q;
      event_is = ap (λ (n : Moment). n.event) (sym q);
      start_is = ap (λ (n : Moment). n.start) (sym q);
      site_is = ap (λ (n : Moment). n.site) (sym q);
      before_is = ap (λ (n : Moment). n.before) (sym q);
    }

within_next : (e : List ℕ) (r : Run) (s : ℕ) (a : Act) (l : List Act) (x : Run) (m : Moment)
    → Within e r s l (perform s a.transaction a.effect x) m → Within e r s (a ∷ l) x m
unfolding perform_all
within_next e r s a l x m w =
    record {
      first = a ∷ w.first;
      next = w.next;
      acts = ap (λ (k : List Act). a ∷ k) w.acts;
      event_is = w.event_is;
      start_is = w.start_is;
      site_is = w.site_is;
      before_is = w.before_is;
    }

pub within : (e : List ℕ) (r : Run) (s : ℕ) (l : List Act) (x : Run) (seen : List Moment) (m : Moment) (rest : List Moment)
    → moments e r s l x ≡ seen ++ (m ∷ rest) → Within e r s l x m
unfolding moments
within e r s [] x seen m rest h = absurd (not-empty seen m rest h)
within e r s (a ∷ l) x [] m rest h = within_first e r s a l x m (cc)
within e r s (a ∷ l) x (n ∷ seen) m rest h = within_next e r s a l x m (within e r s l _ seen m rest (cc))

-- an act changes no cohort
perform-cohort : (s t : ℕ) (e : Effect) (x : Run) (u : ℕ) → ((perform s t e x).transaction u).cohort ≡ (x.transaction u).cohort
unfolding perform at_site at_transaction with_sent with_entered
perform-cohort s t (append k fs) x u = refl
perform-cohort s t force x u = refl
perform-cohort s t (enter o) x u = update-keeps (λ y. y.cohort) (with_entered s o) (λ y. refl) t x.transaction u
perform-cohort s t (send m p) x u = update-keeps (λ y. y.cohort) (with_sent _ _) (λ y. refl) t x.transaction u

pub acts-cohort : (s : ℕ) (l : List Act) (x : Run) (u : ℕ) → ((perform_all s l x).transaction u).cohort ≡ (x.transaction u).cohort
unfolding perform_all
acts-cohort s [] x u = refl
acts-cohort s (a ∷ l) x u = acts-cohort s l _ u ∙ perform-cohort s a.transaction a.effect x u

-- of one event
module _ (r : Run) (e : List ℕ) (seen : List Moment) (m : Moment) (rest : List Moment) (h : happened r e ≡ seen ++ (m ∷ rest)) where
  pub moment_within : Within e r (event r e).site (event r e).acts r m
  unfolding happened
  moment_within = within e r (event r e).site (event r e).acts r seen m rest h

  pub moment_start : m.start ≡ r
  moment_start = moment_within.start_is

  pub moment_cohort : (t : ℕ) → (m.before.transaction t).cohort ≡ (r.transaction t).cohort
  moment_cohort t = rw moment_within.before_is (acts-cohort _ _ r t)
