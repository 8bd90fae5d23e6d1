-- The view of one transaction: all that the safety proof looks at.
-- It is the transaction itself, of each log its records, and what the history tells of its votes and entries; the entries that the run stores are not read.
use Prim.Native.Nat.{ℕ}
use mathlib.Core.Path.{◌≡◌, refl, fun_ext}
use mathlib.Core.Bool.{Bool, true, false, ◌&&◌, ◌||◌}
use mathlib.Core.List.{List, [], ◌∷◌}
use lib.Dec.{eqb}
use borrow.Author.Tests.{not-true, not-false}
use Rattle.codec.specs.Lists.{select, any}
use Rattle.codec.specs.Sets.{empty}
use Rattle.codec.specs.Records.{of_transaction}
use Rattle.site.specs.Presumption.{Outcome, same_outcome}
use Rattle.site.specs.Step.{vote_yes, message_kind, Effect, append, force, enter, send}
use Rattle.joint.specs.State.{Run, Site, Transaction, opened, holds, update, appended, forced, stopped, with_sent, forgotten}
use Rattle.joint.specs.Safety.{Moment, sends, is_entry_at, is_vote}

unfoldable pub site_view : ℕ → Site → Site
site_view t x = record { up = x.up; stable = select (of_transaction t) x.stable; unforced = select (of_transaction t) x.unforced }

-- `voted p`: p has voted Yes from a stable record. `entered s o`: at site s an entry of o happened
pub record View : Type 0 where
  pub transaction : Transaction
  pub site : ℕ → Site
  pub voted : ℕ → Bool
  pub entered : ℕ → Outcome → Bool

-- a transaction without the entries that the run stores
abbrev pub without_entries : Transaction → Transaction
without_entries x =
    record {
      cohort = x.cohort;
      coordinator = x.coordinator;
      participant = x.participant;
      marked = x.marked;
      sent = x.sent;
      entered = λ s o. false;
    }

-- of transaction t in the run r, when the moments ms have happened
unfoldable pub view : ℕ → List Moment → Run → View
view t ms r =
    record {
      transaction = without_entries (r.transaction t);
      site = λ s. site_view t (r.site s);
      voted = λ p. any (is_vote t p) ms;
      entered = λ s o. any (is_entry_at t s o) ms;
    }

pub view_path : {v w : View} → v.transaction ≡ w.transaction → ((s : ℕ) → v.site s ≡ w.site s)
    → ((p : ℕ) → v.voted p ≡ w.voted p) → ((s : ℕ) (o : Outcome) → v.entered s o ≡ w.entered s o) → v ≡ w
view_path p q f g =
    λ i. record { transaction = p i; site = fun_ext q i; voted = fun_ext f i; entered = λ s o. g s o i }

-- ---- what the view tells of the run

module _ (t : ℕ) (ms : List Moment) (r : Run) where
  pub not_opened : opened r t ≡ false → empty (view t ms r).transaction.cohort.members ≡ true
  unfolding view opened
  not_opened e = not-false _ e

  pub is_opened : opened r t ≡ true → empty (view t ms r).transaction.cohort.members ≡ false
  unfolding view opened
  is_opened e = not-true _ e

  pub site-up : (s : ℕ) → ((view t ms r).site s).up ≡ (r.site s).up
  unfolding view site_view
  site-up s = refl

-- ---- changes of a view

unfoldable pub view_at : ℕ → (Site → Site) → View → View
view_at s g v = record { transaction = v.transaction; site = update s g v.site; voted = v.voted; entered = v.entered }

unfoldable pub view_settle : (Transaction → Transaction) → View → View
view_settle g v = record { transaction = g v.transaction; site = v.site; voted = v.voted; entered = v.entered }

-- an effect on transaction t at site s
unfoldable pub view_perform : ℕ → ℕ → Effect → View → View
view_perform s t (append k fs) v = view_at s (appended (record { kind = k; transaction = t; fields = fs })) v
view_perform s t force v = view_at s forced v
view_perform s t (enter o) v =
    record {
      transaction = v.transaction;
      site = v.site;
      voted = v.voted;
      entered = λ z d. v.entered z d || (eqb s z && same_outcome d o);
    }
view_perform s t (send m p) v =
    record {
      transaction = with_sent p (message_kind m) v.transaction;
      site = v.site;
      voted = λ q. v.voted q || (eqb s q && sends (message_kind vote_yes) q (send m p) && holds t 5 (v.site q).stable);
      entered = v.entered;
    }

unfoldable pub view_effects : ℕ → ℕ → List Effect → View → View
view_effects s t [] v = v
view_effects s t (e ∷ es) v = view_effects s t es (view_perform s t e v)

-- site s goes down; of the transaction's unforced records those that the mask n names are kept
unfoldable pub view_down : ℕ → ℕ → View → View
view_down s n v = record { transaction = forgotten s v.transaction; site = update s (stopped n) v.site; voted = v.voted; entered = v.entered }
