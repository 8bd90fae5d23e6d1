-- Acts in the view of one transaction: it sees its own, and of another transaction's only the forces.
use Prim.Native.Nat.{ℕ, zero, suc}
use mathlib.Core.Path.{◌≡◌, refl, sym, ap, ◌∙◌}
use mathlib.Core.Logic.{◌≢◌}
use mathlib.Core.Bool.{Bool, true, false, cond, ◌&&◌, ◌||◌, or-false, and-false}
use mathlib.Core.List.{List, [], ◌∷◌, ◌++◌, map, append-nil, append_assoc}
use lib.Dec.{eqb}
use borrow.Author.Tests.{eq-eqb, ne_eqb, eqb-true, eqb-false}
use Rattle.codec.specs.Lists.{select, any, every}
use Rattle.codec.specs.Records.{LogRecord, of_transaction, members_in, presume_commit_in}
use Rattle.site.specs.Presumption.{Outcome}
use Rattle.site.specs.Cohort.{Cohort}
use Rattle.site.specs.Step.{vote_yes, message_kind, Effect, append, force, enter, send}
use Rattle.joint.specs.State.{Run, Site, Transaction, Act, holds, recorded_cohort, at_site, at_transaction, appended, forced, stopped, with_coordinator, with_participant, with_sent, with_entered, forgotten, down, perform, perform_all}
use Rattle.joint.specs.Run.{is_force}
use Rattle.joint.specs.Safety.{Moment, moments, enters, sends, is_entry, is_entry_at, is_vote}
use Rattle.site.specs.Laws.Lists.{select-append}
use Rattle.joint.proofs.Base.Lists.{any_append}
use Rattle.joint.proofs.Base.Survivors.{mask_of, select-survivors}
use Rattle.joint.proofs.Base.Updates.{update-at, update-keeps, update_same, update_other}
use Rattle.joint.proofs.View.View.{site_view, without_entries, view, view_path, view_at, view_perform, view_effects, view_down}

-- ---- sites

-- a record of another transaction is not in the view
appended_other : (t : ℕ) (k : LogRecord) → k.transaction ≢ t → (x : Site) → site_view t (appended k x) ≡ site_view t x
unfolding site_view appended select of_transaction
appended_other t k h x = simp (select-append, ne_eqb k.transaction t h, append-nil)

appended-same : (t : ℕ) (k : LogRecord) → k.transaction ≡ t → (x : Site) → site_view t (appended k x) ≡ appended k (site_view t x)
unfolding site_view appended select of_transaction
appended-same t k e x = simp (select-append, eq-eqb k.transaction t e)

forced_view : (t : ℕ) (x : Site) → site_view t (forced x) ≡ forced (site_view t x)
unfolding site_view forced select
forced_view t x = simp select-append

-- a crash keeps, of the view's unforced records, those that its own bits name
stopped_view : (t n : ℕ) (x : Site) → site_view t (stopped n x) ≡ stopped (mask_of (of_transaction t) n x.unforced) (site_view t x)
unfolding site_view stopped select
stopped_view t n x = simp (select-append, select-survivors)

-- the kinds of a transaction's records are those in its own part of the log
pub holds_select : (t k : ℕ) (log : List LogRecord) → holds t k (select (of_transaction t) log) ≡ holds t k log
unfolding holds any select
holds_select t k [] = refl
holds_select t k (x ∷ xs) = go (of_transaction t x) refl (holds_select t k xs)
  where
    f : LogRecord → Bool
    f y = of_transaction t y && eqb y.kind k

    own : List LogRecord
    own = select (of_transaction t) xs

    go : (b : Bool) → of_transaction t x ≡ b → any f own ≡ any f xs → any f (cond b (x ∷ own) own) ≡ (b && eqb x.kind k || any f xs)
    go true e h = unfold any in rw (e, h)
    go false e h = h

-- and so is the cohort that a record tells
pub recorded_select : (t k : ℕ) (log : List LogRecord) → recorded_cohort t k (select (of_transaction t) log) ≡ recorded_cohort t k log
unfolding recorded_cohort select
recorded_select t k [] = refl
recorded_select t k (x ∷ xs) = go (of_transaction t x) refl (recorded_select t k xs)
  where
    own : List LogRecord
    own = select (of_transaction t) xs

    told : Cohort
    told = record { members = members_in x; presume_commit = presume_commit_in x }

    go : (b : Bool) → of_transaction t x ≡ b → recorded_cohort t k own ≡ recorded_cohort t k xs
        → recorded_cohort t k (cond b (x ∷ own) own) ≡ cond (b && eqb x.kind k) told (recorded_cohort t k xs)
    go true e h = unfold recorded_cohort in (rw (e, h))
    go false e h = h

-- ---- one act

any_snoc : (f : Moment → Bool) (ms : List Moment) (m : Moment) → any f (ms ++ (m ∷ [])) ≡ (any f ms || f m)
any_snoc f ms m = any_append f ms (m ∷ []) ∙ ap (λ (b : Bool). any f ms || b) (unfold any in or-false (f m))

any_still : (f : Moment → Bool) (ms : List Moment) (m : Moment) → f m ≡ false → any f (ms ++ (m ∷ [])) ≡ any f ms
any_still f ms m e = any_snoc f ms m ∙ ap (λ (b : Bool). any f ms || b) e ∙ or-false (any f ms)

module _ (bytes : List ℕ) (start : Run) where
  abbrev moment : ℕ → ℕ → Effect → Run → Moment
  moment s u e r = record { event = bytes; start = start; before = r; site = s; act = record { transaction = u; effect = e } }

  vote_own : (t s p : ℕ) (e : Effect) (r : Run)
      → is_vote t p (moment s t e r) ≡ (eqb s p && sends (message_kind vote_yes) p e && holds t 5 (site_view t (r.site p)).stable)
  unfolding is_vote every site_view
  vote_own t s p e r = rw (eq-eqb t t refl, holds_select) (go (eqb s p) (sends (message_kind vote_yes) p e) (holds t 5 (r.site p).stable))
    where
      go : (a b c : Bool) → (a && (true && (b && (c && true)))) ≡ (a && b && c)
      go true true true = refl
      go true true false = refl
      go true false c = refl
      go false b c = refl

  vote_other : (t u s p : ℕ) (e : Effect) (r : Run) → u ≢ t → is_vote t p (moment s u e r) ≡ false
  unfolding is_vote every
  vote_other t u s p e r h = rw (ne_eqb u t h) (and-false (eqb s p))

  entry_own : (t s z : ℕ) (o : Outcome) (e : Effect) (r : Run) → is_entry_at t z o (moment s t e r) ≡ (eqb s z && enters o e)
  unfolding is_entry_at is_entry every
  entry_own t s z o e r = rw (eq-eqb t t refl) (go (eqb s z) (enters o e))
    where
      go : (a b : Bool) → (a && (true && (b && true))) ≡ (a && b)
      go true true = refl
      go true false = refl
      go false b = refl

  entry_other : (t u s z : ℕ) (o : Outcome) (e : Effect) (r : Run) → u ≢ t → is_entry_at t z o (moment s u e r) ≡ false
  unfolding is_entry_at is_entry every
  entry_other t u s z o e r h = rw (ne_eqb u t h) (and-false (eqb s z))

  -- neither a vote nor an entry
  no_vote : (t s p : ℕ) (e : Effect) (r : Run) → sends (message_kind vote_yes) p e ≡ false → is_vote t p (moment s t e r) ≡ false
  no_vote t s p e r h = vote_own t s p e r ∙ rw (h, and-false (eqb s p))

  no_entry : (t s z : ℕ) (o : Outcome) (e : Effect) (r : Run) → enters o e ≡ false → is_entry_at t z o (moment s t e r) ≡ false
  no_entry t s z o e r h = entry_own t s z o e r ∙ rw (h, and-false (eqb s z))

  -- a force is seen, whichever transaction it is of
  force_view : (t u s : ℕ) (ms : List Moment) (r : Run) → ((p : ℕ) → is_vote t p (moment s u force r) ≡ false)
      → ((z : ℕ) (o : Outcome) → is_entry_at t z o (moment s u force r) ≡ false)
      → view t (ms ++ (moment s u force r ∷ [])) (perform s u force r) ≡ view_at s forced (view t ms r)
  unfolding view perform at_site view_at
  force_view t u s ms r f g =
      view_path refl (update-at (site_view t) forced forced s r.site (forced_view t (r.site s)))
      (λ p. any_still (is_vote t p) ms _ (f p)) (λ z o. any_still (is_entry_at t z o) ms _ (g z o))

  perform_view : (t s : ℕ) (e : Effect) (ms : List Moment) (r : Run)
      → view t (ms ++ (moment s t e r ∷ [])) (perform s t e r) ≡ view_perform s t e (view t ms r)
  unfolding view perform at_site at_transaction view_at view_perform with_entered with_sent
  perform_view t s (append k fs) ms r =
      view_path refl (update-at (site_view t) _ (appended _) s r.site (appended-same t _ refl (r.site s)))
      (λ p. any_still (is_vote t p) ms _ (no_vote t s p (append k fs) r (unfold sends in refl)))
      (λ z o. any_still (is_entry_at t z o) ms _ (no_entry t s z o (append k fs) r (unfold enters in refl)))
  perform_view t s force ms r =
      force_view t t s ms r (λ p. no_vote t s p force r (unfold sends in refl)) (λ z o. no_entry t s z o force r (unfold enters in refl))
  perform_view t s (enter d) ms r =
      view_path (ap without_entries (update_same t (with_entered s d) r.transaction)) (λ z. refl)
      (λ p. any_still (is_vote t p) ms _ (no_vote t s p (enter d) r (unfold sends in refl)))
      (λ z o. any_snoc (is_entry_at t z o) ms _ ∙ ap (λ (b : Bool). any (is_entry_at t z o) ms || b) (entry_own t s z o (enter d) r ∙ (unfold enters in refl)))
  perform_view t s (send m p) ms r =
      view_path (ap without_entries (update_same t (with_sent p (message_kind m)) r.transaction)) (λ z. refl)
      (λ q. any_snoc (is_vote t q) ms _ ∙ ap (λ (b : Bool). any (is_vote t q) ms || b) (vote_own t s q (send m p) r))
      (λ z o. any_still (is_entry_at t z o) ms _ (no_entry t s z o (send m p) r (unfold enters in refl)))

  perform_other : (t u s : ℕ) (e : Effect) (ms : List Moment) (r : Run) → u ≢ t
      → view t (ms ++ (moment s u e r ∷ [])) (perform s u e r) ≡ cond (is_force e) (view_perform s t e (view t ms r)) (view t ms r)
  unfolding view perform at_site at_transaction view_at view_perform is_force
  perform_other t u s (append k fs) ms r h =
      view_path refl (update-keeps (site_view t) _ (appended_other t _ h) s r.site)
      (λ p. any_still (is_vote t p) ms _ (vote_other t u s p (append k fs) r h)) (λ z o. any_still (is_entry_at t z o) ms _ (entry_other t u s z o (append k fs) r h))
  perform_other t u s force ms r h = force_view t u s ms r (λ p. vote_other t u s p force r h) (λ z o. entry_other t u s z o force r h)
  perform_other t u s (enter d) ms r h =
      view_path (ap without_entries (update_other u t _ r.transaction (λ e. h (sym e)))) (λ z. refl)
      (λ p. any_still (is_vote t p) ms _ (vote_other t u s p (enter d) r h)) (λ z o. any_still (is_entry_at t z o) ms _ (entry_other t u s z o (enter d) r h))
  perform_other t u s (send m p) ms r h =
      view_path (ap without_entries (update_other u t _ r.transaction (λ e. h (sym e)))) (λ z. refl)
      (λ q. any_still (is_vote t q) ms _ (vote_other t u s q (send m p) r h)) (λ z o. any_still (is_entry_at t z o) ms _ (entry_other t u s z o (send m p) r h))

-- ---- acts in turn

-- what the view of t sees of an act
unfoldable pub seen : ℕ → Act → Bool
seen t a = eqb a.transaction t || is_force a.effect

unfoldable pub effects_of : List Act → List Effect
effects_of l = map (λ a. a.effect) l

-- the effects that the view of t sees
unfoldable pub seen_effects : ℕ → List Act → List Effect
seen_effects t l = effects_of (select (seen t) l)

pub acts_view : (bytes : List ℕ) (start : Run) (t s : ℕ) (l : List Act) (ms : List Moment) (r : Run)
    → view t (ms ++ moments bytes start s l r) (perform_all s l r) ≡ view_effects s t (seen_effects t l) (view t ms r)
unfolding moments perform_all view_effects seen_effects effects_of select seen
acts_view bytes start t s [] ms r = rw append-nil
acts_view bytes start t s (a ∷ l) ms r =
    let m = moment bytes start s a.transaction a.effect r in
    let x = perform s a.transaction a.effect r in
    ap (λ (ns : List Moment). view t ns (perform_all s l x)) (sym (append_assoc ms (m ∷ []) (moments bytes start s l x)))
    ∙ acts_view bytes start t s l (ms ++ (m ∷ [])) x
    ∙ go (eqb a.transaction t) refl (is_force a.effect) refl
  where
    rest : List Act
    rest = select (seen t) l

    go : (b : Bool) → eqb a.transaction t ≡ b → (f : Bool) → is_force a.effect ≡ f
        → view_effects s t (effects_of rest) (view t (ms ++ (moment bytes start s a.transaction a.effect r ∷ [])) (perform s a.transaction a.effect r))
        ≡ view_effects s t (effects_of (cond (b || f) (a ∷ rest) rest)) (view t ms r)
    go true e f g = unfold view_effects effects_of in (rw (eqb-true a.transaction t e, perform_view bytes start t s a.effect ms r))
    go false e true g =
        unfold view_effects effects_of in (rw (perform_other bytes start t a.transaction s a.effect ms r (eqb-false a.transaction t e), g))
    go false e false g = rw (perform_other bytes start t a.transaction s a.effect ms r (eqb-false a.transaction t e), g)

-- ---- a crash, or a cut

forgotten_bare : (s : ℕ) (x : Transaction) → without_entries (forgotten s x) ≡ forgotten s (without_entries x)
unfolding forgotten with_coordinator with_participant
forgotten_bare zero x = refl
forgotten_bare (suc n) x = refl

pub down_view : (t s n : ℕ) (ms : List Moment) (r : Run)
    → view t ms (down s n r) ≡ view_down s (mask_of (of_transaction t) n (r.site s).unforced) (view t ms r)
unfolding view down view_down
down_view t s n ms r =
    view_path (forgotten_bare s (r.transaction t)) (update-at (site_view t) (stopped n) _ s r.site (stopped_view t n (r.site s))) (λ p. refl) (λ z o. refl)
