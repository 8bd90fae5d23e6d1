-- Each event of a clean run, of any bytes.
use Prim.Native.Nat.{ℕ, zero, suc, ◌+◌, ◌<◌}
use mathlib.Core.Path.{◌≡◌, refl, sym, ap, ap₂, ◌∙◌, subst, fun_ext}
use mathlib.Core.Bool.{Bool, true, false, cond, not, ◌&&◌, ◌||◌, and-true, and-false, true≢false}
use mathlib.Core.List.{List, [], ◌∷◌}
use mathlib.Core.Option.{none, some}
use native.Mathlib.Omega.{arith}
use lib.ListN.{take}
use lib.Dec.{T, eqb}
use borrow.Author.Tests.{eq-eqb, ne_eqb, eqb-true, not-false}
use Rattle.codec.specs.Lists.{select, any, every, first, same}
use Rattle.codec.specs.Sets.{participants, member, empty, listed}
use Rattle.codec.specs.Laws.Tests.{of_true, or_none}
use Rattle.site.specs.Cohort.{Cohort}
use Rattle.site.specs.Coordinator.{Coordinator}
use Rattle.site.specs.Presumption.{commit}
use Rattle.site.specs.Step.{Message, receiver, message_kind}
use Rattle.joint.specs.State.{Run, Act, names, opened, takes_part, holds, down, perform_all}
use Rattle.joint.specs.Event.{Event, opening, beginning, delivery, timeout, forcing, discarding, crash, restart, marking, Parsed, parse}
use Rattle.joint.specs.Refusals.{refusals}
use Rattle.joint.specs.Plan.{Plan, plan}
use Rattle.joint.specs.Run.{Result, refuse, partly, cut_short, carry, event, count, answer_of}
use Rattle.joint.specs.Safety.{accepts}
use Rattle.joint.specs.Bill.{is_own, is_begin, is_delivery, loses_power, disturbs}
use Rattle.joint.proofs.Base.Lists.{Each}
use Rattle.joint.proofs.Base.Sums.{sum_alike}
use Rattle.joint.proofs.Base.Ranges.{InRange, parse_range}
use Rattle.joint.proofs.Base.Bytes.{bytes_of}
use Rattle.joint.proofs.Base.History.{EventCase, refused, whole, cut, event_case}
use Rattle.joint.proofs.Base.Plans.{not_struck, All, site_of, plan-site}
use Rattle.joint.proofs.View.Rows.{own_or_other}
use Rattle.joint.proofs.View.Events.{is_part, receiver-part}
use Rattle.joint.proofs.Safety.Sets.{no_zero}
use Rattle.joint.proofs.Clean.Others.{concerns, Kept, Apart, Leaves, plan-leaves, whole-leaves, cut-leaves}
use Rattle.joint.proofs.Clean.Stages.{Stage, IsMember, Leads, is_open, Stands, Item, pick, records, forces, sends, acks_in, member_owes, coordinator_owes, owes}
use Rattle.joint.proofs.Clean.OwnBytes.{own_bytes, begins_it, begin_bytes, delivers_it, deliver_bytes, other_begins, other_delivers, strays, stray_bytes, cut_bytes}
use Rattle.joint.proofs.Clean.Steps.{At, Next}
use Rattle.joint.proofs.Clean.Own.{begin_next, message_next}

module _ (t : ℕ) (g : Cohort) where
  -- what was delivered is told in other words
  at_alike : {stages : ℕ → Stage} {r : Run} (done ready : ℕ → ℕ → Bool) → ((q j : ℕ) → ready q j ≡ done q j) → At t g stages done r → At t g stages ready r
  at_alike done ready same h =
      record {
        stands =
            record {
              cohort = h.stands.cohort;
              leads = h.stands.leads;
              out = h.stands.out;
              edge = λ n m.
                  let e = h.stands.edge n m in
                  record { phase = e.phase; unmarked = e.unmarked; sent = e.sent; delivered = λ k. same (suc n) k ∙ e.delivered k; entered = e.entered };
            };
        up = h.up;
      }

  -- ---- an event that leaves t

  kept_stands : (stages : ℕ → Stage) (done : ℕ → ℕ → Bool) (r y : Run) → Kept t g.members r y → Stands g stages done (r.transaction t) → Stands g stages done (y.transaction t)
  kept_stands stages done r y k s =
      record {
        cohort = k.cohort ∙ s.cohort;
        leads =
            subst (λ (b : Bool). Leads g stages b (y.transaction t).coordinator.phase) (ap (λ f. f 0 commit) (sym k.entered))
            (subst (λ (c : Coordinator). Leads g stages ((r.transaction t).entered 0 commit) c.phase) (sym k.coordinator) s.leads);
        out = ap (λ (c : Coordinator). c.taken_out) k.coordinator ∙ s.out;
        edge = λ n m.
            let e = s.edge n m in
            record {
              phase = k.participant n m ∙ e.phase;
              unmarked = ap (λ f. f (suc n)) k.marked ∙ e.unmarked;
              sent = λ j. ap (λ f. f (suc n) j) k.sent ∙ e.sent j;
              delivered = e.delivered;
              entered = λ i. subst T (ap (λ f. f (suc n) commit) (sym k.entered)) (e.entered i);
            };
      }

  kept_owes : (i : Item) (r y : Run) → Kept t g.members r y → owes i g (y.transaction t) ≡ owes i g (r.transaction t)
  unfolding listed
  kept_owes i r y k =
      ap₂ ◌+◌ (ap (λ (c : Coordinator). coordinator_owes i g c.phase) k.coordinator)
      (sum_alike (λ p. member p g.members) _ _ same participants)
    where
      same : (p : ℕ) → T (member p g.members)
          → member_owes i (acks_in g p) ((y.transaction t).participant p) ≡ member_owes i (acks_in g p) ((r.transaction t).participant p)
      same zero m = absurd (no_zero g.members m)
      same (suc n) m = ap (member_owes i (acks_in g (suc n))) (k.participant n m)

  kept_next : (stages : ℕ → Stage) (done : ℕ → ℕ → Bool) (r : Run) (z : Result) → Kept t g.members r z.run → At t g stages done r → Next t g done false false r z
  kept_next stages done r z k h =
      record {
        stages = stages;
        here = record { stands = kept_stands stages done r z.run k h.stands; up = λ s m. k.up s m ∙ h.up s m };
        paid = λ i. omega (arith, kept_owes i r z.run k);
        unbegun = λ e. (ap (λ (c : Coordinator). is_open c.phase) (sym k.coordinator) ∙ e, refl);
      }

  -- ---- a refused event

  refused_next : (stages : ℕ → Stage) (done : ℕ → ℕ → Bool) (r : Run) (n : ℕ) (own : Bool) → At t g stages done r → Next t g done own false r (refuse r (suc n))
  unfolding refuse answer_of count select
  refused_next stages done r n own h =
      record { stages = stages; here = h; paid = λ i. nothing_paid i own; unbegun = λ e. (e, refl) }
    where
      nothing_paid : (i : Item) (own : Bool) → cond own (pick i 0 0 0) 0 + owes i g (r.transaction t) ≡ owes i g (r.transaction t)
      nothing_paid records true = omega arith
      nothing_paid forces true = omega arith
      nothing_paid sends true = omega arith
      nothing_paid i false = omega arith

  module _ (small : g.members < 256) (few : g.presume_commit < 256) (someone : empty g.members ≡ false) (stages : ℕ → Stage) (done : ℕ → ℕ → Bool) (r : Run) (h : At t g stages done r)
      (idle : (n : ℕ) → member (suc n) g.members ≡ false → (k : ℕ) → holds t k (r.site (suc n)).stable ≡ false) where
    -- ---- an event that is carried out

    abbrev Whole : Event → Type 0
    Whole e =
        first (refusals r e) ≡ 0 → strays t e ≡ false → InRange e → ((n j : ℕ) → IsMember g n → T (delivers_it t (suc n) j e) → done (suc n) j ≡ false)
        → (p : Plan) → plan r e ≡ some p → Next t g (λ q j. delivers_it t q j e || done q j) (concerns t e) (begins_it t e) r (carry r p none)

    other_whole : (e : Event) → concerns t e ≡ false → Whole e
    unfolding carry
    other_whole e other passed steady range new p planned =
        rw (other, other_begins t e other)
        (kept_next stages (λ q j. delivers_it t q j e || done q j) r _
        (whole-leaves t g.members p (subst (All (Leaves t g.members)) planned (plan-leaves t g.members r h.up idle e other passed)) r)
        (at_alike done (λ q j. delivers_it t q j e || done q j) (λ q j. ap (◌|| done q j) (other_delivers t q j e other)) h))

    other_of : (e : ℕ → Event) → ((u : ℕ) → concerns t (e u) ≡ eqb u t) → Whole (e t) → (u : ℕ) → Whole (e u)
    other_of e same own u = own_or_other t (λ u. Whole (e u)) own (λ u n. other_whole (e u) (same u ∙ ne_eqb u t n)) u

    begin_whole : Whole (beginning t)
    begin_whole passed steady range new p planned = rw (eq-eqb t t refl) (begin_next t g small few someone stages done r h p planned)

    open_whole : (M C : ℕ) → Whole (opening t M C)
    unfolding refusals opened
    open_whole M C passed steady range new p planned =
        absurd (true≢false (sym (ap not (ap (λ (y : Cohort). empty y.members) h.stands.cohort ∙ someone)) ∙ (not_struck 1 _ _ passed).0))

    delivery-whole : (p : ℕ) (m : Message) → Whole (delivery t p m)
    unfolding refusals takes_part
    delivery-whole zero m passed steady range new q planned = absurd (omega (arith, range))
    delivery-whole (suc n) m passed steady range new q planned =
        let a = (not_struck 2 _ _ passed).1 in
        let mine : IsMember g n = subst (λ (y : Cohort). T (member (suc n) y.members)) h.stands.cohort (of_true (is_part r t (suc n) _ a)) in
        let sent : (r.transaction t).sent (suc n) (message_kind m) ≡ true = not-false _ (not_struck 6 _ _ (not_struck 4 _ _ (not_struck 3 _ _ a).1).1).0 in
        let fresh = new n (message_kind m) mine (rw (eq-eqb t t refl, eq-eqb (suc n) (suc n) refl, eq-eqb (message_kind m) (message_kind m) refl) tt) in
        rw (eq-eqb t t refl) (message_next t g small few someone stages done r h n mine m sent fresh q planned)

    stray : (e : Event) → strays t e ≡ true → Whole e
    stray e own passed steady range new p planned = absurd (true≢false (sym own ∙ steady))

    whole_next : (e : Event) → Whole e
    whole_next (opening u M C) = other_of (λ u. opening u M C) (λ u. refl) (open_whole M C) u
    whole_next (beginning u) = other_of beginning (λ u. refl) begin_whole u
    whole_next (delivery u p m) = other_of (λ u. delivery u p m) (λ u. refl) (delivery-whole p m) u
    whole_next (timeout u s) = other_of (λ u. timeout u s) (λ u. refl) (stray (timeout t s) (eq-eqb t t refl)) u
    whole_next (forcing s) = other_whole (forcing s) refl
    whole_next (discarding u s) = other_of (λ u. discarding u s) (λ u. refl) (stray (discarding t s) (eq-eqb t t refl)) u
    whole_next (crash s) = other_whole (crash s) refl
    whole_next (restart s) = other_whole (restart s) refl
    whole_next (marking u p) = other_of (λ u. marking u p) (λ u. refl) (stray (marking t p) (eq-eqb t t refl)) u

    -- ---- an event that is cut: its site is no member's, so it is not of t

    own_named : (e : Event) → concerns t e ≡ true → first (refusals r e) ≡ 0 → T (names g.members (site_of e))
    unfolding refusals takes_part
    own_named e own passed = go e own passed
      where
        there : (u s : ℕ) → eqb u t ≡ true → takes_part (r.transaction u) s ≡ true → T (names g.members s)
        there u s own part =
            subst (λ (y : Cohort). T (names y.members s)) h.stands.cohort (of_true (subst (λ (v : ℕ). takes_part (r.transaction v) s ≡ true) (eqb-true u t own) part))

        go : (e : Event) → concerns t e ≡ true → first (refusals r e) ≡ 0 → T (names g.members (site_of e))
        go (opening u M C) own passed = tt
        go (beginning u) own passed = tt
        go (delivery u p m) own passed = there u (receiver m p) own (receiver-part r u p m (is_part r u p _ (not_struck 2 _ _ passed).1))
        go (timeout u s) own passed = there u s own (is_part r u s _ (not_struck 2 _ _ passed).1)
        go (forcing s) own passed = absurd (true≢false (sym own))
        go (discarding u s) own passed = there u s own (is_part r u s _ (not_struck 2 _ _ passed).1)
        go (crash s) own passed = absurd (true≢false (sym own))
        go (restart s) own passed = absurd (true≢false (sym own))
        go (marking u p) own passed = there u p own (is_part r u p _ (not_struck 2 _ _ passed).1)

    cut_kept : (s : ℕ) → names g.members s ≡ false → (l : List Act) → Each (Apart t g.members) l → (n k : ℕ) → Kept t g.members r (down s k (perform_all s (take n l) r))
    cut_kept zero out l apart n k = absurd (true≢false out)
    cut_kept (suc m) out l apart n k = cut-leaves t g.members m out l n apart k r

    cut_next : (e : Event) → first (refusals r e) ≡ 0 → (p : Plan) → plan r e ≡ some p → names g.members p.site ≡ false → (n k : ℕ)
        → Next t g (λ q j. delivers_it t q j e || done q j) (concerns t e) (begins_it t e) r (cut_short true r p n k)
    unfolding cut_short partly
    cut_next e passed p planned out n k = go (concerns t e) refl
      where
        site : p.site ≡ site_of e
        site = subst (All (λ q. q.site ≡ site_of e)) planned (plan-site r e)

        go : (b : Bool) → concerns t e ≡ b → Next t g (λ q j. delivers_it t q j e || done q j) b (begins_it t e) r (cut_short true r p n k)
        go true own = absurd (subst T (ap (names g.members) (sym site) ∙ out) (own_named e own passed))
        go false other =
            rw (other_begins t e other)
            (kept_next stages (λ q j. delivers_it t q j e || done q j) r _
            (cut_kept p.site out p.acts (subst (All (Leaves t g.members)) planned (plan-leaves t g.members r h.up idle e other passed)).0 n k)
            (at_alike done (λ q j. delivers_it t q j e || done q j) (λ q j. ap (◌|| done q j) (other_delivers t q j e other)) h))

    -- ---- each event

    module _ (bytes : List ℕ) (calm : disturbs t g.members (r, bytes) ≡ false) (new : (n j : ℕ) → IsMember g n → T (is_delivery t (suc n) j (r, bytes)) → done (suc n) j ≡ false) where
      abbrev Goal : Result → Type 0
      Goal z = Next t g (λ q j. is_delivery t q j (r, bytes) || done q j) (is_own t bytes) (is_begin t (r, bytes)) r z

      is_accepted : (event r bytes).answer ≡ 0 → accepts r bytes ≡ true
      unfolding accepts
      is_accepted e = eq-eqb _ 0 e

      -- where it is accepted its bytes say what it is
      module _ {x : Parsed} (parsed : parse bytes ≡ some x) (accepted : (event r bytes).answer ≡ 0) where
        is_delivery_lem : (q j : ℕ) → is_delivery t q j (r, bytes) ≡ delivers_it t q j x.event
        unfolding is_delivery every
        is_delivery_lem q j = rw (is_accepted accepted, and-true) (deliver_bytes t q j (bytes_of bytes x parsed))

        is_begin_lem : is_begin t (r, bytes) ≡ begins_it t x.event
        unfolding is_begin every
        is_begin_lem = rw (is_accepted accepted, and-true) (begin_bytes t (bytes_of bytes x parsed))

        -- neither its timer, a discard or a mark of it, nor a loss of power where it has a part
        is_calm : (strays t x.event ≡ false) × ((names g.members (event r bytes).site && loses_power bytes) ≡ false)
        unfolding disturbs
        is_calm =
            let c : (any (λ code. same (take 2 bytes) (code ∷ t ∷ [])) (3 ∷ 5 ∷ 8 ∷ []) || (names g.members (event r bytes).site && loses_power bytes)) ≡ false = rw (is_accepted accepted) at calm in
            let both = or_none _ _ c in
            (sym (stray_bytes t (bytes_of bytes x parsed)) ∙ both.0, both.1)

        is_new : (n j : ℕ) → IsMember g n → T (delivers_it t (suc n) j x.event) → done (suc n) j ≡ false
        is_new n j m k = new n j m (subst T (sym (is_delivery_lem (suc n) j)) k)

        told : (z : Result) → Next t g (λ q j. delivers_it t q j x.event || done q j) (concerns t x.event) (begins_it t x.event) r z → Goal z
        told z n =
            rw (own_bytes t (bytes_of bytes x parsed), is_begin_lem)
            (subst (λ (d : ℕ → ℕ → Bool). Next t g d (concerns t x.event) (begins_it t x.event) r z)
            (fun_ext (λ q. fun_ext (λ j. ap (◌|| done q j) (sym (is_delivery_lem q j))))) n)

      -- a refused one delivers nothing, and does not begin t
      refused_quiet : (n : ℕ) → event r bytes ≡ refuse r (suc n) → accepts r bytes ≡ false
      unfolding accepts refuse
      refused_quiet n e = ap (λ (z : Result). eqb z.answer 0) e ∙ ne_eqb (suc n) 0 (λ q. omega (arith, q))

      no_delivery : accepts r bytes ≡ false → (q j : ℕ) → is_delivery t q j (r, bytes) ≡ false
      unfolding is_delivery every
      no_delivery e q j = rw (e, and-false) refl

      no_begin : accepts r bytes ≡ false → is_begin t (r, bytes) ≡ false
      unfolding is_begin every
      no_begin e = rw (e, and-false) refl

      site_of_lem : {z : Result} → event r bytes ≡ z → z.site ≡ (event r bytes).site
      site_of_lem e = ap (λ (z : Result). z.site) (sym e)

      case_next : {z : Result} → EventCase r bytes z → event r bytes ≡ z → Goal z
      unfolding carry cut_short
      case_next (refused n) e =
          let quiet = refused_quiet n e in
          rw (no_begin quiet)
          (refused_next stages (λ q j. is_delivery t q j (r, bytes) || done q j) r n (is_own t bytes)
          (at_alike done (λ q j. is_delivery t q j (r, bytes) || done q j) (λ q j. ap (◌|| done q j) (no_delivery quiet q j)) h))
      case_next (whole {x} {p} a c) e =
          let accepted = ap (λ (z : Result). z.answer) e in
          told a.parsed accepted _
          (whole_next x.event a.passed (is_calm a.parsed accepted).0 (parse_range bytes x a.parsed) (is_new a.parsed accepted) p a.planned)
      case_next (cut {x} {p} n k a c b) e =
          let accepted = ap (λ (z : Result). z.answer) e in
          let calm-there : (names g.members p.site && loses_power bytes) ≡ false = rw (sym (site_of_lem e)) at (is_calm a.parsed accepted).1 in
          told a.parsed accepted _
          (cut_next x.event a.passed p a.planned (sym (and-true (names g.members p.site)) ∙ rw (cut_bytes bytes x a.parsed (n, k) c) at calm-there) n k)

      pub event_next : Next t g (λ q j. is_delivery t q j (r, bytes) || done q j) (is_own t bytes) (is_begin t (r, bytes)) r (event r bytes)
      event_next = case_next (event_case r bytes) refl
