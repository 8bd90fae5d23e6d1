-- What the kinds of each transaction's records tell of a log, and what the coordinator's standing tells of its waiting set.
use Prim.Native.Nat.{ℕ, zero, suc, ◌≤◌, ◌<◌}
use mathlib.Core.Path.{◌≡◌, refl, sym, ap, ap₂, ◌∙◌, subst}
use mathlib.Core.Logic.{◌⊎◌, inl, inr}
use mathlib.Core.Bool.{Bool, true, false, not, ◌&&◌}
use mathlib.Core.List.{List, [], ◌∷◌, ◌++◌, map, map-append}
use lib.ListN.{length, length-map}
use lib.Dec.{T}
use native.Mathlib.Omega.{arith}
use borrow.Author.Tests.{eq-eqb, leb-true}
use Rattle.codec.specs.Lists.{select}
use Rattle.codec.specs.Sets.{member, empty, both, part}
use Rattle.codec.specs.Records.{LogRecord, record_kind_at, of_transaction}
use Rattle.codec.specs.Image.{most}
use Rattle.codec.specs.Laws.Tests.{and_left, and_right, true_of}
use Rattle.codec.specs.Laws.Masks.{those_alike, those-members}
use Rattle.site.specs.Presumption.{commit, abort}
use Rattle.site.specs.Cohort.{Cohort, remaining, owing, writes_init}
use Rattle.site.specs.Numbers.{coordinator_phase, waiting_set, waiting_in_range}
use Rattle.joint.specs.State.{Run, opened}
use Rattle.site.specs.Laws.Lists.{select-append}
use Rattle.joint.proofs.Base.Lists.{Each}
use Rattle.joint.proofs.Safety.Sets.{no_zero, owing-remaining}
use Rattle.joint.proofs.Safety.Invariant.{waiting, resting, down, Standing, never, initial, collecting, decided, SetsFit, phase_at, between, record_for}
use Rattle.joint.proofs.Logs.Counts.{records_of, sum_below}
use Rattle.joint.proofs.Logs.Orders.{may_stand, orderly, order_front, owes, Ranged, Follows}
use Rattle.joint.proofs.Logs.Kinds.{share, has_front, cohort_in, Known, Kinds}

-- a record of a log at site s: its transaction is opened, s takes part in it, and it is the transaction's record of its kind;
-- record 2 leaves out the set that was taken out
pub record OwnRecord (r : Run) (s : ℕ) (x : LogRecord) : Type 0 where
  pub known : Known r x.transaction s
  pub kind : record_kind_at s x.kind ≡ true
  pub out : ℕ
  pub is : x ≡ record_for (cohort_in r x.transaction) out x.transaction s x.kind

-- ---- the records of transaction t at site s

front_nil : (ks js : List ℕ) → ks ++ js ≡ [] → ks ≡ []
front_nil [] js e = refl
front_nil (k ∷ ks) js e = absurd (omega (arith, ap length e))

module _ {r : Run} {t s : ℕ} (x : Kinds r t s) where
  -- its record of a kind
  abbrev put : ℕ → LogRecord
  put = record_for (cohort_in r t) x.out t s

  -- record 1 is written at begin
  abbrev i : Bool
  i = writes_init (cohort_in r t)

  -- acks are owed for a commit
  abbrev a : Bool
  a = owes (cohort_in r t) x.out

  -- the kinds of all its records
  abbrev whole : List ℕ
  whole = x.stable ++ x.unforced

  is_whole : records_of t ((r.site s).stable ++ (r.site s).unforced) ≡ map put whole
  is_whole =
      select-append (of_transaction t) (r.site s).stable (r.site s).unforced ∙ ap₂ ◌++◌ x.is_stable x.is_unforced
      ∙ sym (map-append put x.stable x.unforced)

  ordered : T (orderly s i a [] whole)
  ordered = and_left (orderly s i a [] whole) _ x.fits

  pub few_of : length (records_of t ((r.site s).stable ++ (r.site s).unforced)) ≤ share s
  few_of = rw (is_whole, length-map) (leb-true (length whole) (share s) (true_of _ (and_right (orderly s i a [] whole) _ x.fits)))

  pub halted : (r.site s).up ≡ false → records_of t (r.site s).unforced ≡ []
  halted d = x.is_unforced ∙ ap (map put) (x.halts d)

  each-kind : Known r t s → (ks js : List ℕ) → T (orderly s i a ks js) → Each (OwnRecord r s) (map put js)
  each-kind k ks [] o = tt
  each-kind k ks (j ∷ js) o =
      let stands = and_left (may_stand s i a ks j) _ o in
      let kind = true_of (record_kind_at s j) (and_left (record_kind_at s j) _ stands) in
      (record { known = k; kind = kind; out = x.out; is = refl }, each-kind k (ks ++ (j ∷ [])) js (and_right (may_stand s i a ks j) _ o))

  pub each_of : Each (OwnRecord r s) (records_of t ((r.site s).stable ++ (r.site s).unforced))
  each_of = subst (Each (OwnRecord r s)) (sym is_whole) (go x.known)
    where
      go : (whole ≡ []) ⊎ Known r t s → Each (OwnRecord r s) (map put whole)
      go (inl e) = subst (λ (l : List ℕ). Each (OwnRecord r s) (map put l)) (sym e) tt
      go (inr k) = each-kind k [] whole ordered

  module _ (ranged : opened r t ≡ true → (t < 8) × Ranged (cohort_in r t)) where
    -- kinds that are none where there is no record
    none_or_ranged : (ks : List ℕ) → (whole ≡ [] → ks ≡ []) → (ks ≡ []) ⊎ ((t < 8) × Ranged (cohort_in r t))
    none_or_ranged ks f = go x.known
      where
        go : (whole ≡ []) ⊎ Known r t s → (ks ≡ []) ⊎ ((t < 8) × Ranged (cohort_in r t))
        go (inl e) = inl (f e)
        go (inr k) = inr (ranged k.opens)

    pub follows_whole : Follows (cohort_in r) s t [] ((r.site s).stable ++ (r.site s).unforced)
    unfolding select
    follows_whole =
        record {
          out = x.out;
          earlier = [];
          later = whole;
          is_earlier = refl;
          is_later = is_whole;
          order = ordered;
          ranged = none_or_ranged whole (λ e. e);
          left = x.left;
        }

    pub follows_stable : Follows (cohort_in r) s t [] (r.site s).stable
    unfolding select
    follows_stable =
        record {
          out = x.out;
          earlier = [];
          later = x.stable;
          is_earlier = refl;
          is_later = x.is_stable;
          order = order_front s i a [] x.stable x.unforced ordered;
          ranged = none_or_ranged x.stable (front_nil x.stable x.unforced);
          left = λ u. x.left (has_front 2 x.stable x.unforced u);
        }

-- eight transactions' shares are the most records of a log
pub shares : (s : ℕ) → sum_below 8 (λ t. share s) ≡ most s
unfolding most
shares zero = refl
shares (suc n) = refl

-- ---- waiting sets

-- w is a part of m if each of its members is in m
pub part_of : (w m : ℕ) → w < 256 → ((p : ℕ) → T (member p w) → T (member p m)) → part w m ≡ true
unfolding part both
part_of w m h f =
    eq-eqb (both w m) w
    (those_alike (λ p. member p w && member p m) (λ p. member p w) (λ i k. go (member (suc i) w) (member (suc i) m) (f (suc i))) ∙ those-members w h)
  where
    go : (b c : Bool) → (T b → T c) → (b && c) ≡ b
    go true c k = true_of c (k tt)
    go false c k = refl

-- what is awaited is not empty, and a part of those that it may be awaited of
pub standing_waits : (g : Cohort) (h : Standing) → g.members < 256 → SetsFit g h → T (between h)
    → waiting_in_range g (coordinator_phase (phase_at h)) (waiting_set (phase_at h)) ≡ true
unfolding waiting_in_range coordinator_phase waiting_set empty
standing_waits g (never u) byte e b = refl
standing_waits g (initial j) byte e b = refl
standing_waits g (collecting w out true) byte e b = absurd b
standing_waits g (collecting w out false) byte e b = rw (true_of (not (empty w)) b, part_of w g.members e.0 e.1)
standing_waits g (decided commit out (waiting w) l) byte e b = rw (true_of (not (empty w)) b, part_of w (owing g commit) e.0 (λ p k. waits_of p k (e.1 p k)))
  where
    waits_of : (p : ℕ) → T (member p w) → T (member p (owing (remaining g out) commit)) → T (member p (owing g commit))
    waits_of zero k u = absurd (no_zero w k)
    waits_of (suc n) k u = (owing-remaining g out commit n u).1
standing_waits g (decided abort out (waiting w) l) byte e b = rw (true_of (not (empty w)) b, part_of w (owing g abort) e.0 e.1)
standing_waits g (decided o out (resting j) l) byte e b = refl
standing_waits g (decided o out down l) byte e b = refl
