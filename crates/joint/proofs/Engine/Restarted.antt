-- A restart as an event: refused where the site is up, whole, or cut.
use Prim.Native.Nat.{ℕ, ◌-◌}
use native.Mathlib.Omega.{arith}
use mathlib.Core.Path.{◌≡◌, refl, sym, ap, ap₂, ◌∙◌, fun_ext}
use mathlib.Core.Bool.{Bool, true, false, not, ◌&&◌, ◌||◌, and-true}
use mathlib.Core.List.{List, [], ◌∷◌}
use mathlib.Core.Option.{Option, none, some}
use lib.ListN.{length, take}
use lib.Seq.{take_all}
use lib.Dec.{eqb, leb}
use borrow.Author.Tests.{eqb-true, eqb-false, le-leb, lt-leb}
use Rattle.codec.specs.Lists.{select, every, first}
use Rattle.joint.specs.State.{Run, Site, Transaction, Act, may_keep, update, opened, started, stopped, forgotten, down, perform_all}
use Rattle.joint.specs.Event.{restart}
use Rattle.joint.specs.Refusals.{refusals}
use Rattle.joint.specs.Plan.{Plan, restart_all, transactions, plan}
use Rattle.joint.specs.Run.{Answer, is_append, is_force, is_send, count, answer_of, partly, can_cut, cut_short, carry, carry_plan, carry_unless, event_parsed}
use Rattle.joint.specs.Answers.{Seen, seen}
use Rattle.joint.specs.Inside.{taken, Resumption, resumed}
use Rattle.joint.proofs.Base.Lists.{each_take, select_length}
use Rattle.joint.proofs.Engine.Refused.{refused_by, refuse-seen}
use Rattle.joint.proofs.Engine.InputEvents.{not-not}
use Rattle.joint.proofs.Base.Placed.{update-own, update_twice}
use Rattle.joint.proofs.Engine.Restarts.{Quiet, unlogged, quiet_count, quiet_site, Restarts, restarts}

-- an answer, and run r with a for site s and with these transactions
abbrev pub leaves : Run → ℕ → Answer → Site → (ℕ → Transaction) → Seen
leaves r s n a f = record { answer = n; run = record { site = update s (λ _. a) r.site; transaction = f } }

-- accepted, with so many sends
abbrev pub sent : ℕ → Answer
sent n = record { number = 0; records = 0; forces = 0; sends = n }

update_here {ℓ} : {A : Type ℓ} (i : ℕ) (g : A → A) (f : ℕ → A) → update i (λ _. g (f i)) f ≡ update i g f
update_here i g f = sym (update_twice i g (λ _. f i) f) ∙ ap (update i g) (update-own i f)

can_cut_lem : (m l : ℕ) (k : Bool) → every (leb m l ∷ k ∷ []) ≡ not (not (eqb (m - l) 0) || not k)
unfolding every
can_cut_lem m l k = go (eqb (m - l) 0) refl
  where
    go : (b : Bool) → eqb (m - l) 0 ≡ b → (leb m l && (k && true)) ≡ not (not b || not k)
    go true q = rw (le-leb m l (omega (arith, eqb-true (m - l) 0 q))) (and-true k ∙ sym (not-not k))
    go false q = rw (lt-leb m l (omega (arith, eqb-false (m - l) 0 q))) refl

module _ (x : Run) (s cut : ℕ) (a : Site) (e : a ≡ x.site s) where
  pub restart-up : a.up ≡ true → (c : Option (ℕ × ℕ)) → refused_by 6 x ≡ taken x (restart s) c
  unfolding taken event_parsed refusals first carry_unless
  restart-up h c = let up : (x.site s).up ≡ true = sym (ap (λ (a : Site). a.up) e) ∙ h in sym (refuse-seen x 6) ∙ rw up refl

  -- the site is down: z is the resumption up to the cut
  module _ (is_down : a.up ≡ false) (z : Resumption) (own : z ≡ resumed x s cut) where
    abbrev ts : List ℕ
    ts = select (opened x) transactions

    abbrev p : Plan
    p = restart_all x s ts

    abbrev h : Restarts s (length ts) p
    h = restarts x s ts

    carried : (c : Option (ℕ × ℕ)) → seen (carry x p c) ≡ taken x (restart s) c
    unfolding taken event_parsed refusals first carry_unless plan carry_plan
    carried c = let d : (x.site s).up ≡ false = sym (ap (λ (a : Site). a.up) e) ∙ is_down in rw d refl

    -- the effects that happen, and the run after them
    abbrev happen : List Act
    happen = take cut p.acts

    abbrev y : Run
    y = perform_all s happen x

    quiet : Quiet happen
    quiet = each_take _ cut p.acts h.quiet

    -- they append and force nothing, and leave the sites; then site s is changed by g
    accepted : (g : Site → Site) (b : Site) → b ≡ g a → (f : ℕ → Transaction)
        → leaves x s (sent (count is_send happen)) b f ≡ seen (record { answer = 0; site = p.site; acts = happen; run = record { site = update s g y.site; transaction = f } })
    unfolding seen answer_of
    accepted g b q f =
        let records = quiet_count is_append (λ e h. (unlogged e h).0) happen quiet in
        let forces = quiet_count is_force (λ e h. (unlogged e h).1.0) happen quiet in
        let site = ap (λ (c : Site). update s (λ _. c) x.site) (q ∙ ap g e) ∙ update_here s g x.site ∙ ap (update s g) (sym (quiet_site s happen quiet x)) in
        λ i. record {
          answer = record { number = 0; records = sym records i; forces = sym forces i; sends = count is_send happen };
          run = record { site = site i; transaction = f };
        }

    pub restart-whole : cut ≡ 255 → (b : Site) → b ≡ started a → leaves x s (sent z.sends) b z.transaction ≡ taken x (restart s) none
    unfolding resumed carry transactions
    restart-whole w b q =
        let all : happen ≡ p.acts = take_all cut p.acts (omega (arith, w, h.few, select_length (opened x) transactions)) in
        let result : List Act → Run → Seen = λ l r. seen (record { answer = 0; site = p.site; acts = l; run = r }) in
        ap (λ (z : Resumption). leaves x s (sent z.sends) b z.transaction) own
        ∙ accepted started b q (p.settle y).transaction
        ∙ ap (λ (f : ℕ → Site). result happen (record { site = f; transaction = (p.settle y).transaction })) (sym (h.starts y))
        ∙ ap (λ (l : List Act). result l (p.settle (perform_all s l x))) all
        ∙ ap (λ (n : ℕ). result p.acts (p.settle (perform_all n p.acts x))) (sym h.number)
        ∙ carried none

    -- it is cut: n is whether the keep is allowed, and the program's test is whether the cut is too far
    module _ (keep : ℕ) (n : Bool) (u : n ≡ may_keep keep a.unforced) where
      cut_carried : (b : Bool) → (not (eqb z.left 0) || not n) ≡ b → seen (cut_short (not b) x p cut keep) ≡ taken x (restart s) (some (cut, keep))
      unfolding resumed can_cut partly carry
      cut_carried b t =
          let left : cut - length p.acts ≡ z.left = sym (ap (λ (z : Resumption). z.left) own) in
          let kept : may_keep keep ((perform_all p.site happen x).site p.site).unforced ≡ n =
          ap (λ (k : ℕ). may_keep keep ((perform_all k happen x).site k).unforced) h.number
          ∙ ap (λ (f : ℕ → Site). may_keep keep (f s).unforced) (quiet_site s happen quiet x)
          ∙ ap (λ (a : Site). may_keep keep a.unforced) (sym e)
          ∙ sym u in
          let test = can_cut_lem cut (length p.acts) (may_keep keep ((perform_all p.site happen x).site p.site).unforced) ∙ ap₂ (λ (m : ℕ) (k : Bool). not (not (eqb m 0) || not k)) left kept ∙ ap not t in
          ap (λ (c : Bool). seen (cut_short c x p cut keep)) (sym test) ∙ carried (some (cut, keep))

      pub restart_too_far : (not (eqb z.left 0) || not n) ≡ true → refused_by 9 x ≡ taken x (restart s) (some (cut, keep))
      unfolding cut_short
      restart_too_far t = sym (refuse-seen x 9) ∙ cut_carried true t

      pub restart-cut : (not (eqb z.left 0) || not n) ≡ false → (b : Site) → b ≡ stopped keep a
          → (f : ℕ → Transaction) → f ≡ (λ t. forgotten s (z.transaction t)) → leaves x s (sent z.sends) b f ≡ taken x (restart s) (some (cut, keep))
      unfolding resumed cut_short down partly
      restart-cut t b q f k =
          let result : Run → Seen = λ r. seen (record { answer = 0; site = p.site; acts = happen; run = r }) in
          ap (leaves x s (sent z.sends) b) k
          ∙ ap (λ (z : Resumption). leaves x s (sent z.sends) b (λ t. forgotten s (z.transaction t))) own
          ∙ accepted (stopped keep) b q (λ t. forgotten s ((p.settle y).transaction t))
          ∙ ap (λ (f : ℕ → Transaction). result (record { site = update s (stopped keep) y.site; transaction = f })) (fun_ext (h.taken y))
          ∙ ap (λ (n : ℕ). result (down n keep (perform_all n happen x))) (sym h.number)
          ∙ cut_carried false t
