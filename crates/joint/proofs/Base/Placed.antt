-- Effects of one transaction at one site, in the whole run: they change that site and that transaction alone.
use Prim.Native.Nat.{ℕ, zero, suc, ◌+◌}
use mathlib.Core.Path.{◌≡◌, refl, sym, ap, ◌∙◌, fun_ext}
use mathlib.Core.Bool.{Bool, true, false, cond}
use mathlib.Core.List.{List, [], ◌∷◌, ◌++◌}
use lib.ListN.{length, take, length-append, length-map}
use lib.Dec.{eqb}
use borrow.Author.Tests.{eqb-true}
use Rattle.codec.specs.Lists.{select}
use Rattle.codec.specs.Records.{LogRecord}
use Rattle.site.specs.Presumption.{Outcome}
use Rattle.site.specs.Step.{message_kind, Effect, append, force, enter, send}
use Rattle.site.specs.Coordinator.{Coordinator}
use Rattle.site.specs.Laws.Lists.{select-append}
use Rattle.site.specs.Participant.{ParticipantPhase}
use Rattle.joint.specs.State.{Run, Site, Transaction, Act, update, at_site, at_transaction, appended, forced, with_coordinator, with_participant, with_sent, with_entered, forgotten, perform, perform_all}
use Rattle.joint.specs.Plan.{acting}
use Rattle.joint.specs.Run.{count}
use Rattle.joint.specs.Laws.Effects.{site_after, transaction_after, counted}
use Rattle.joint.proofs.Base.Updates.{update_same}

-- ---- one index

-- what stands there already
pub update-own {ℓ} : {A : Type ℓ} (i : ℕ) (f : ℕ → A) → update i (λ _. f i) f ≡ f
unfolding update
update-own {A} i f = fun_ext (λ j. go j (eqb j i) refl)
  where
    go : (j : ℕ) (b : Bool) → eqb j i ≡ b → cond b (f i) (f j) ≡ f j
    go j true q = ap f (sym (eqb-true j i q))
    go j false q = refl

-- changed twice at one index
pub update_twice {ℓ} : {A : Type ℓ} (i : ℕ) (g h : A → A) (f : ℕ → A) → update i g (update i h f) ≡ update i (λ x. g (h x)) f
unfolding update
update_twice {A} i g h f = fun_ext (λ j. go j (eqb j i))
  where
    go : (j : ℕ) (b : Bool) → cond b (g (cond b (h (f j)) (f j))) (cond b (h (f j)) (f j)) ≡ cond b (g (h (f j))) (f j)
    go j true = refl
    go j false = refl

-- ---- a site and a transaction put in their places

abbrev pub placed_as : ℕ → ℕ → Site → Transaction → Run → Run
placed_as s t a x r = record { site = update s (λ _. a) r.site; transaction = update t (λ _. x) r.transaction }

pub run_path : {a b : ℕ → Site} {x y : ℕ → Transaction} → a ≡ b → x ≡ y
    → ◌≡◌ {A = Run} (record { site = a; transaction = x }) (record { site = b; transaction = y })
run_path p q = λ i. record { site = p i; transaction = q i }

module _ (s t : ℕ) where
  placed_own : (r : Run) → placed_as s t (r.site s) (r.transaction t) r ≡ r
  placed_own r = run_path (update-own s r.site) (update-own t r.transaction)

  -- over a change of that site, or of that transaction
  over_site : (g : Site → Site) (a : Site) (x : Transaction) (r : Run) → placed_as s t a x (at_site s g r) ≡ placed_as s t a x r
  unfolding at_site
  over_site g a x r = run_path (update_twice s (λ _. a) g r.site) refl

  over_transaction : (g : Transaction → Transaction) (a : Site) (x : Transaction) (r : Run) → placed_as s t a x (at_transaction t g r) ≡ placed_as s t a x r
  unfolding at_transaction
  over_transaction g a x r = run_path refl (update_twice t (λ _. x) g r.transaction)

  pub at_site_lem : (g : Site → Site) (r : Run) → (at_site s g r).site s ≡ g (r.site s)
  unfolding at_site
  at_site_lem g r = update_same s g r.site

  at_transaction_lem : (g : Transaction → Transaction) (r : Run) → (at_transaction t g r).transaction t ≡ g (r.transaction t)
  unfolding at_transaction
  at_transaction_lem g r = update_same t g r.transaction

  -- the transaction is changed once more
  pub placed_changed : (g : Transaction → Transaction) (a : Site) (x : Transaction) (r : Run) → at_transaction t g (placed_as s t a x r) ≡ placed_as s t a (g x) r
  unfolding at_transaction
  placed_changed g a x r = run_path refl (update_twice t g (λ _. x) r.transaction)

  pub performed : (es : List Effect) (r : Run)
      → perform_all s (acting t es) r ≡ placed_as s t (site_after t es (r.site s)) (transaction_after s es (r.transaction t)) r
  unfolding perform_all acting perform site_after transaction_after at_site at_transaction
  performed [] r = sym (placed_own r)
  performed (append k fs ∷ es) r =
      let x : LogRecord = record { kind = k; transaction = t; fields = fs } in
      performed es (at_site s (appended x) r)
      ∙ over_site (appended x) _ _ r
      ∙ ap (λ (a : Site). placed_as s t (site_after t es a) (transaction_after s es (r.transaction t)) r) (at_site_lem (appended x) r)
  performed (force ∷ es) r =
      performed es (at_site s forced r)
      ∙ over_site forced _ _ r
      ∙ ap (λ (a : Site). placed_as s t (site_after t es a) (transaction_after s es (r.transaction t)) r) (at_site_lem forced r)
  performed (enter o ∷ es) r =
      performed es (at_transaction t (with_entered s o) r)
      ∙ over_transaction (with_entered s o) _ _ r
      ∙ ap (λ (x : Transaction). placed_as s t (site_after t es (r.site s)) (transaction_after s es x) r) (at_transaction_lem (with_entered s o) r)
  performed (send m p ∷ es) r =
      performed es (at_transaction t (with_sent p (message_kind m)) r)
      ∙ over_transaction (with_sent p (message_kind m)) _ _ r
      ∙ ap (λ (x : Transaction). placed_as s t (site_after t es (r.site s)) (transaction_after s es x) r) (at_transaction_lem (with_sent p (message_kind m)) r)

-- ---- counts, and the first effects

pub counted-append : (f : Effect → Bool) (es fs : List Effect) → counted f (es ++ fs) ≡ counted f es + counted f fs
unfolding counted
counted-append f es fs = rw (select-append, length-append)

pub acting-length : (t : ℕ) (es : List Effect) → length (acting t es) ≡ length es
unfolding acting
acting-length t es = length-map es _

pub acting-take : (t n : ℕ) (es : List Effect) → take n (acting t es) ≡ acting t (take n es)
unfolding acting
acting-take t zero es = refl
acting-take t (suc n) [] = refl
acting-take t (suc n) (e ∷ es) = ap (λ l. record { transaction = t; effect = e } ∷ l) (acting-take t n es)

pub acting-counted : (t : ℕ) (f : Effect → Bool) (es : List Effect) → count f (acting t es) ≡ counted f es
unfolding count counted acting select
acting-counted t f [] = refl
acting-counted t f (e ∷ es) = go (f e) _ _ (acting-counted t f es)
  where
    go : (b : Bool) (a : Act) (l : List Act) → length l ≡ length (select f es) → length (cond b (a ∷ l) l) ≡ length (cond b (e ∷ select f es) (select f es))
    go true a l h = ap (λ n. suc n) h
    go false a l h = h

-- ---- phases: effects change none, and power that goes takes them all at its site

-- a change that sets a phase at site s
pub record Phase (s : ℕ) (g : Transaction → Transaction) : Type 0 where
  pub entered_later : (z : ℕ) (o : Outcome) (x : Transaction) → g (with_entered z o x) ≡ with_entered z o (g x)
  pub sent_later : (p k : ℕ) (x : Transaction) → g (with_sent p k x) ≡ with_sent p k (g x)
  pub taken : (x : Transaction) → forgotten s (g x) ≡ forgotten s x

pub coordinator-phase : (c : Coordinator) → Phase 0 (with_coordinator 0 c)
unfolding with_coordinator with_entered with_sent forgotten with_participant
coordinator-phase c = record { entered_later = λ z o x. refl; sent_later = λ p k x. refl; taken = λ x. refl }

pub participant-phase : (n : ℕ) (c : ParticipantPhase) → Phase (suc n) (with_participant (suc n) c)
unfolding with_participant with_entered with_sent forgotten with_coordinator
participant-phase n c =
    record {
      entered_later = λ z o x. refl;
      sent_later = λ p k x. refl;
      taken =
          λ x i. record {
            cohort = x.cohort;
            coordinator = x.coordinator;
            participant = update_twice (suc n) (λ _. ParticipantPhase.unknown) (λ _. c) x.participant i;
            marked = x.marked;
            sent = x.sent;
            entered = x.entered;
          };
    }
