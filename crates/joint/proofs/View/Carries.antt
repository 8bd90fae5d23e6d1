-- A plan that is carried out, whole or cut, in the view of one transaction; another transaction's row shows its forces alone.
use Prim.Native.Nat.{ℕ, zero, suc}
use mathlib.Core.Path.{◌≡◌, refl, ap, ◌∙◌}
use mathlib.Core.Logic.{◌≢◌}
use mathlib.Core.Bool.{Bool, true, false, cond}
use mathlib.Core.List.{List, [], ◌∷◌, ◌++◌, map-append}
use mathlib.Core.Option.{none}
use lib.ListN.{take}
use lib.Dec.{T}
use borrow.Author.Tests.{eq-eqb, ne_eqb}
use Rattle.codec.specs.Lists.{select}
use Rattle.codec.specs.Records.{of_transaction}
use Rattle.site.specs.Step.{Effect, append, force, enter, send}
use Rattle.joint.specs.State.{Run, Act, forced}
use Rattle.joint.specs.Plan.{Plan, acting}
use Rattle.joint.specs.Run.{Result, partly, cut_short, carry, is_force}
use Rattle.joint.specs.Safety.{Moment, moments}
use Rattle.site.specs.Laws.Lists.{select-append}
use Rattle.joint.proofs.Base.Lists.{Each, each_take, each_chosen, map-take, among, select-take}
use Rattle.joint.proofs.Base.Survivors.{mask_of}
use Rattle.joint.proofs.View.View.{View, view, view_at, view_perform, view_effects}
use Rattle.joint.proofs.View.Turn.{Carried, whole, cut_after, forces, crashes, carries, Turns, still, turn, SeenRow, own, others, bare}
use Rattle.joint.proofs.View.Acts.{seen, effects_of, seen_effects, acts_view, down_view}

-- ---- the effects that are seen

seen-take : (t n : ℕ) (l : List Act) → seen_effects t (take n l) ≡ take (among (seen t) n l) (seen_effects t l)
unfolding seen_effects effects_of
seen-take t n l = rw (select-take (seen t) n l, map-take)

pub seen-append : (t : ℕ) (a b : List Act) → seen_effects t (a ++ b) ≡ seen_effects t a ++ seen_effects t b
unfolding seen_effects effects_of
seen-append t a b = rw (select-append, map-append)

-- a row of t is seen whole
pub seen_own : (t : ℕ) (es : List Effect) → seen_effects t (acting t es) ≡ es
unfolding seen_effects effects_of select seen acting
seen_own t [] = refl
seen_own t (e ∷ es) = rw (eq-eqb t t refl, seen_own t es)

pub seen_other : (t u : ℕ) → u ≢ t → (es : List Effect) → seen_effects t (acting u es) ≡ select is_force es
unfolding seen_effects effects_of select seen acting
seen_other t u h [] = refl
seen_other t u h (e ∷ es) = rw (ne_eqb u t h) (go (is_force e) (seen_other t u h es))
  where
    rest : List Act
    rest = select (seen t) (acting u es)

    go : (b : Bool) → effects_of rest ≡ select is_force es
        → effects_of (cond b (record { transaction = u; effect = e } ∷ rest) rest) ≡ cond b (e ∷ select is_force es) (select is_force es)
    go true k = unfold effects_of in ap (λ (l : List Effect). e ∷ l) k
    go false k = k

-- ---- the turns: t's own row; no effect, or forces; and a crash after them

abbrev Forces : List Effect → Type 0
Forces es = Each (λ e. T (is_force e)) es

-- what another transaction's row shows
pub all_forces : (es : List Effect) → Forces (select is_force es)
all_forces es = each_chosen (λ e. T (is_force e)) is_force (λ e k. k) es

-- what a force keeps, forces keep
pub after-forces : (P : View → Type 0) (s t : ℕ) → ((u : View) → P u → P (view_at s forced u)) → (es : List Effect) → Forces es → (v : View) → P v → P (view_effects s t es v)
unfolding view_effects view_perform is_force
after-forces P s t k [] h v x = x
after-forces P s t k (append j fs ∷ es) h v x = absurd h.0
after-forces P s t k (force ∷ es) h v x = after-forces P s t k es h.1 (view_at s forced v) (k v x)
after-forces P s t k (enter o ∷ es) h v x = absurd h.0
after-forces P s t k (send m p ∷ es) h v x = absurd h.0

forces_then : (t : ℕ) (Out : ℕ → Type 0) (s : ℕ) (es : List Effect) → Forces es → (v x : View) → Turns t Out (view_effects s t es v) x → Turns t Out v x
forces_then t Out s es h v x = after-forces (λ u. Turns t Out u x → Turns t Out v x) s t (λ u f k. f (forces s k)) es h v (λ k. k)

pub row_turns : {t : ℕ} {Out : ℕ → Type 0} {s : ℕ} {es : List Effect} {f : View → View} {v w : View} → SeenRow t Out v s es f → Carried t s es f v w → Turns t Out v w
unfolding view_effects
row_turns (own x) c = turn (carries x c)
row_turns {t} {Out} {s} {es} {f} {v} (others h) whole = forces_then t Out s es h v _ still
row_turns {t} {Out} {s} {es} {f} {v} (others h) (cut_after m n) = forces_then t Out s (take m es) (each_take _ m es h) v _ (turn (crashes s n))
row_turns (bare h) whole = h
row_turns {s} (bare h) (cut_after zero n) = turn (crashes s n)
row_turns {s} (bare h) (cut_after (suc m) n) = turn (crashes s n)

-- ---- a plan carried out

-- what the view of t sees of the plan p in r; after: what settles there; Out: whom the event takes out
pub record Shown (t : ℕ) (Out : ℕ → Type 0) (r : Run) (p : Plan) : Type 0 where
  pub after : View → View
  pub settles : (ms : List Moment) (x : Run) → view t ms (p.settle x) ≡ after (view t ms x)
  pub row : (ms : List Moment) → SeenRow t Out (view t ms r) p.site (seen_effects t p.acts) after

module _ (bytes : List ℕ) (t : ℕ) (Out : ℕ → Type 0) (ms : List Moment) (r : Run) (p : Plan) (h : Shown t Out r p) where
  -- the view that a result leaves
  abbrev Left : Result → View
  Left x = view t (ms ++ moments bytes r x.site x.acts r) x.run

  -- the view after the first acts
  pub middle_view : (n : ℕ) → view t (ms ++ moments bytes r p.site (take n p.acts) r) (partly r p n)
      ≡ view_effects p.site t (take (among (seen t) n p.acts) (seen_effects t p.acts)) (view t ms r)
  unfolding partly
  middle_view n = acts_view bytes r t p.site (take n p.acts) ms r ∙ rw seen-take refl

  pub whole_turns : Turns t Out (view t ms r) (Left (carry r p none))
  unfolding carry
  whole_turns = row_turns (h.row ms) (rw (h.settles, acts_view bytes r t p.site p.acts ms r) whole)

  pub cut_turns : (n k : ℕ) → Turns t Out (view t ms r) (Left (cut_short true r p n k))
  unfolding cut_short partly
  cut_turns n k =
      row_turns (h.row ms)
      (rw (down_view, acts_view bytes r t p.site (take n p.acts) ms r, seen-take)
      (cut_after (among (seen t) n p.acts) (mask_of (of_transaction t) k ((partly r p n).site p.site).unforced)))
