-- What follows the acts of an event, in the view of one transaction: its own is seen, another transaction's is not.
use Prim.Native.Nat.{ℕ}
use mathlib.Core.Path.{◌≡◌, refl, sym, ap, ◌∙◌}
use mathlib.Core.Logic.{◌≢◌}
use mathlib.Core.Bool.{Bool, true, false, cond, not, ◌||◌}
use mathlib.Core.List.{List, [], ◌∷◌, ◌++◌}
use lib.ListN.{drop}
use lib.Dec.{eqb}
use borrow.Author.Tests.{ne_eqb, eqb-true}
use Rattle.codec.specs.Lists.{select, any}
use Rattle.codec.specs.Records.{LogRecord, of_transaction}
use Rattle.site.specs.Cohort.{Cohort}
use Rattle.site.specs.Coordinator.{Coordinator}
use Rattle.site.specs.Participant.{ParticipantPhase}
use Rattle.joint.specs.State.{Run, Site, Transaction, at_site, at_transaction, started, with_coordinator, with_participant, with_marked}
use Rattle.joint.specs.Plan.{opened_as, drop_oldest, trimmed, remembers, forgotten_unless, discard}
use Rattle.joint.specs.Safety.{Moment}
use Rattle.site.specs.Laws.Lists.{select-append}
use Rattle.joint.proofs.Base.Updates.{update-at, update-keeps, update_same, update_other}
use Rattle.joint.proofs.View.View.{View, site_view, without_entries, view, view_path, view_at, view_settle}
use Rattle.joint.proofs.View.Turn.{trimmed_view, is_nil, no_record, view_forget, view_discard}

-- ---- a transaction changes

-- a change that does not touch the entries
abbrev pub Bare : (Transaction → Transaction) → Type 0
Bare g = (x : Transaction) → without_entries (g x) ≡ g (without_entries x)

pub coordinator_bare : (c : Coordinator) → Bare (with_coordinator 0 c)
unfolding with_coordinator
coordinator_bare c x = refl

pub participant_bare : (p : ℕ) (c : ParticipantPhase) → Bare (with_participant p c)
unfolding with_participant
participant_bare p c x = refl

pub marked_bare : (p : ℕ) → Bare (with_marked p)
unfolding with_marked
marked_bare p x = refl

pub opened_bare : (g : Cohort) → Bare (opened_as g)
unfolding opened_as
opened_bare g x = refl

pub settle_own : (t : ℕ) (g : Transaction → Transaction) → Bare g → (ms : List Moment) (r : Run)
    → view t ms (at_transaction t g r) ≡ view_settle g (view t ms r)
unfolding view at_transaction view_settle
settle_own t g bare ms r =
    view_path (ap without_entries (update_same t g r.transaction) ∙ bare (r.transaction t)) (λ s. refl) (λ p. refl) (λ s o. refl)

pub settle_other : (t u : ℕ) (g : Transaction → Transaction) → u ≢ t → (ms : List Moment) (r : Run)
    → view t ms (at_transaction u g r) ≡ view t ms r
unfolding view at_transaction
settle_other t u g h ms r =
    view_path (ap without_entries (update_other u t g r.transaction (λ e. h (sym e)))) (λ s. refl) (λ p. refl) (λ s o. refl)

-- ---- a site starts

pub start_view : (t s : ℕ) (ms : List Moment) (r : Run) → view t ms (at_site s started r) ≡ view_at s started (view t ms r)
unfolding view at_site view_at
start_view t s ms r =
    view_path refl (update-at (site_view t) started started s r.site (unfold site_view started in refl)) (λ p. refl) (λ z o. refl)

-- ---- discard

drop_own : {A : Type 0} (f : A → Bool) (b : Bool) (x : A) (xs ys : List A) → f x ≡ b → select f ys ≡ drop 1 (select f xs)
    → select f (cond b xs (x ∷ ys)) ≡ drop 1 (cond b (x ∷ select f xs) (select f xs))
drop_own f true x xs ys e h = refl
drop_own f false x xs ys e h = unfold select in (rw e h)

dropped_own : (f : LogRecord → Bool) (xs : List LogRecord) → select f (drop_oldest f xs) ≡ drop 1 (select f xs)
unfolding select drop_oldest
dropped_own f [] = refl
dropped_own f (x ∷ xs) = drop_own f (f x) x xs (drop_oldest f xs) refl (dropped_own f xs)

dropped_other : (t u : ℕ) → u ≢ t → (xs : List LogRecord)
    → select (of_transaction t) (drop_oldest (of_transaction u) xs) ≡ select (of_transaction t) xs
unfolding select drop_oldest
dropped_other t u h [] = refl
dropped_other t u h (x ∷ xs) = go (of_transaction u x) refl (dropped_other t u h xs)
  where
    own : List LogRecord → List LogRecord
    own = select (of_transaction t)

    not_own : of_transaction u x ≡ true → of_transaction t x ≡ false
    not_own e = unfold of_transaction in ne_eqb x.transaction t (λ c. h (sym (eqb-true x.transaction u (unfold of_transaction in e)) ∙ c))

    go : (b : Bool) → of_transaction u x ≡ b → own (drop_oldest (of_transaction u) xs) ≡ own xs
        → own (cond b xs (x ∷ drop_oldest (of_transaction u) xs)) ≡ cond (of_transaction t x) (x ∷ own xs) (own xs)
    go true e k = rw (not_own e)
    go false e k = unfold select in (rw k)

trim_own : (t s : ℕ) (ms : List Moment) (r : Run) → view t ms (at_site s (trimmed t) r) ≡ view_at s trimmed_view (view t ms r)
unfolding view at_site view_at
trim_own t s ms r =
    view_path refl
    (update-at (site_view t) (trimmed t) trimmed_view s r.site (unfold site_view trimmed trimmed_view in (rw (dropped_own (of_transaction t) (r.site s).stable))))
    (λ p. refl) (λ z o. refl)

trim_other : (t u s : ℕ) → u ≢ t → (ms : List Moment) (r : Run) → view t ms (at_site s (trimmed u) r) ≡ view t ms r
unfolding view at_site
trim_other t u s h ms r =
    view_path refl
    (update-keeps (site_view t) (trimmed u) (λ x. unfold site_view trimmed in (rw (dropped_other t u h x.stable))) s r.site)
    (λ p. refl) (λ z o. refl)

any_select : (f : LogRecord → Bool) (xs : List LogRecord) → any f xs ≡ not (is_nil (select f xs))
unfolding any select is_nil
any_select f [] = refl
any_select f (x ∷ xs) = go (f x) (any_select f xs)
  where
    go : (b : Bool) → any f xs ≡ not (is_nil (select f xs)) → (b || any f xs) ≡ not (is_nil (cond b (x ∷ select f xs) (select f xs)))
    go true k = unfold is_nil in refl
    go false k = k

remembers_view : (t : ℕ) (x : Site) → remembers t x ≡ not (no_record (site_view t x))
unfolding remembers no_record site_view
remembers_view t x = any_select (of_transaction t) (x.stable ++ x.unforced) ∙ rw select-append

forget_own : (b : Bool) (t s : ℕ) (ms : List Moment) (r : Run) → view t ms (forgotten_unless b t s r) ≡ view_forget b s (view t ms r)
unfolding forgotten_unless view_forget
forget_own true t s ms r = refl
forget_own false t s ms r = settle_own t (with_participant s ParticipantPhase.unknown) (participant_bare s ParticipantPhase.unknown) ms r

forget_other : (b : Bool) (t u s : ℕ) → u ≢ t → (ms : List Moment) (r : Run) → view t ms (forgotten_unless b u s r) ≡ view t ms r
unfolding forgotten_unless
forget_other true t u s h ms r = refl
forget_other false t u s h ms r = settle_other t u _ h ms r

pub discard_own : (t s : ℕ) (ms : List Moment) (r : Run) → view t ms (discard t s r) ≡ view_discard s (view t ms r)
unfolding discard view_discard
discard_own t s ms r =
    let x = at_site s (trimmed t) r in
    forget_own (eqb s 0 || remembers t (x.site s)) t s ms x
    ∙ ap (λ (b : Bool). view_forget (eqb s 0 || b) s (view t ms x)) (remembers_view t (x.site s))
    ∙ (unfold view in ap (λ (w : View). view_forget (eqb s 0 || not (no_record (w.site s))) s w) (trim_own t s ms r))

pub discard_other : (t u s : ℕ) → u ≢ t → (ms : List Moment) (r : Run) → view t ms (discard u s r) ≡ view t ms r
unfolding discard
discard_other t u s h ms r = forget_other _ t u s h ms (at_site s (trimmed u) r) ∙ trim_other t u s h ms r
