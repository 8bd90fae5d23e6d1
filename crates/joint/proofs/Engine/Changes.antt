-- What an event at one site in one transaction does: a row, whole or cut, and each event's refusals and plan.
use Prim.Native.Nat.{ℕ, ◌+◌, ◌≤◌, ◌<◌}
use mathlib.Core.Path.{◌≡◌, refl, sym, ap, ap₂, ◌∙◌, fun_ext}
use mathlib.Core.Bool.{Bool, true, false, cond, not, ◌&&◌, ◌||◌}
use mathlib.Core.List.{List, [], ◌∷◌, ◌++◌}
use mathlib.Core.Option.{Option, none, some}
use lib.ListN.{length, take, get_or, length-take, length-drop, length-map, length-append}
use lib.Dec.{eqb, leb}
use native.Mathlib.Omega.{arith}
use borrow.Author.Tests.{eq-eqb, le-leb, lt-leb, leb-true}
use Rattle.codec.specs.Lists.{any, every, first, select, only_if}
use Rattle.codec.specs.Sets.{empty, listed}
use Rattle.codec.specs.Records.{of_transaction}
use Rattle.codec.specs.declared.record.Record.{Record}
use Rattle.site.specs.Step.{Effect, force, given}
use Rattle.site.specs.Numbers.{input_of, appending, entry_of}
use Rattle.site.specs.Answers.{effects_in, closing, sending}
use Rattle.site.specs.declared.effects.Effects.{Effects}
use Rattle.site.specs.Laws.Order.{ordered-none}
use Rattle.joint.specs.State as plain
use Rattle.joint.specs.State.{Run, Act, may_keep, opened, takes_part, at_site, at_transaction, with_marked, perform, perform_all, down}
use Rattle.joint.specs.Event.{Event, opening, forcing, discarding, crash, marking, cut_at}
use Rattle.joint.specs.Refusals.{unopened, stranger, is_down, refusals}
use Rattle.joint.specs.Plan.{Plan, plan, step, settling, acting, or_nothing, opened_as, closes, newest, closed, may_discard, trimmed, remembers, forgotten_unless, discard, is_working}
use Rattle.joint.specs.Run.{partly, can_cut, cut_short, carry, carry_plan, is_append, is_force, is_send, count, answer_of}
use Rattle.joint.specs.Program.{room_for, room_for_plan}
use Rattle.joint.specs.Answers.{site_from, no_site, number_of, seen}
use Rattle.joint.specs.Inside.{site_after, counted, size, Fits, count_of, put_row, Here, then_in, plan_in, Asks, upon_input, cut_from, unready, taken}
use Rattle.joint.specs.declared.answers.Refusal.{Refusal}
use Rattle.joint.specs.declared.sites.Site.{Site}
use Rattle.joint.specs.declared.rows.Row.{Row}
use Rattle.joint.specs.declared.rows.Then.{Then}
use Rattle.joint.specs.declared.rows.Then.TheVariants as follows
use Rattle.joint.proofs.Base.Updates.{update_same}
use Rattle.joint.proofs.Engine.Effects.{fits_cut}
use Rattle.joint.proofs.Engine.Sites.{row-length}
use Rattle.joint.proofs.Base.Placed.{performed, acting-length, acting-take, acting-counted}
use Rattle.joint.proofs.Engine.Refused.{above_zero, refused_by, refuse-seen, refused_by_lem, refused_as, not-refused}
use Rattle.joint.proofs.Engine.Rows.{no_effects, no_effects_lem}
use Rattle.joint.proofs.Engine.InputEvents.{not-not, struck_first, struck_next, input_plan, input_struck_lem}

abbrev forced_only : Effects
forced_only = record { appended = 0; first = 0; second = 0; forced = true; entered = 0; message = 0; to = 0; owing = 0; last = 0 }

forced-only : (t : ℕ) → effects_in t forced_only ≡ force ∷ []
unfolding effects_in closing sending appending entry_of given
forced-only t = rw (ordered-none t 0) refl

nothing_acts : (t : ℕ) → acting t (effects_in t no_effects) ≡ []
unfolding acting
nothing_acts t = ap (acting t) (no_effects_lem t)

-- the program's test of a keep, after the first effects of a row
pub may_keep_after : (x y : Site) (w : Run) (s t : ℕ) (e h : Effects) (cut keep : ℕ) (b : Bool) → Here x w s → Fits (effects_in t e) (w.site s) → effects_in t h ≡ take cut (effects_in t e)
    → ((rs : List Record) (t : ℕ) → length rs ≡ 24 → Fits (effects_in t h) (site_from x rs) → site_from y (put_row (count_of x) t h rs) ≡ site_after t (effects_in t h) (site_from x rs))
    → ((rs : List Record) → length rs ≡ 24 → b ≡ may_keep keep (site_from y rs).unforced)
    → b ≡ may_keep keep (site_after t (effects_in t h) (w.site s)).unforced
may_keep_after x y w s t e h cut keep b (rs, (n, own)) fits happens after test =
    let room : Fits (effects_in t h) (site_from x rs) = rw own (fits_cut (effects_in t e) (effects_in t h) (w.site s) cut happens fits) in
    test (put_row (count_of x) t h rs) (row-length (count_of x) t h rs ∙ n)
    ∙ ap (λ (a : plain.Site). may_keep keep a.unforced) (after rs t n room)
    ∙ ap (λ (a : plain.Site). may_keep keep (site_after t (effects_in t h) a).unforced) own

-- ---- a row, whole or cut

module _ (w : Run) (s t : ℕ) (x : Row) where
  abbrev es : List Effect
  es = effects_in t x.effects

  pub carried_whole : (cut keep : ℕ) → cut ≡ 255 → seen (carry w (plan_in s t x) none) ≡ seen (carry w (plan_in s t x) (cut_from cut keep))
  unfolding cut_at
  carried_whole cut keep e = rw (eq-eqb cut 255 e) refl

  module _ (cut keep : ℕ) where
    -- more effects than there are
    pub cut_beyond : length (effects_in t x.effects) < cut → refused_by 9 w ≡ seen (carry w (plan_in s t x) (some (cut, keep)))
    unfolding carry cut_short can_cut every
    cut_beyond h = rw (lt-leb cut (length (acting t es)) (omega (arith, h, acting-length t es))) (sym (refuse-seen w 9))

    -- h is what of them happens
    module _ (h : Effects) (happens : effects_in t h ≡ take cut (effects_in t x.effects)) (fits : cut ≤ length (effects_in t x.effects)) where
      acts : acting t (effects_in t h) ≡ take cut (acting t es)
      acts = ap (acting t) happens ∙ sym (acting-take t cut es)

      left : may_keep keep ((partly w (plan_in s t x) cut).site s).unforced ≡ may_keep keep (site_after t (effects_in t h) (w.site s)).unforced
      unfolding partly
      left =
          ap (λ (l : List Act). may_keep keep ((perform_all s l w).site s).unforced) (sym acts)
          ∙ ap (λ (r : Run). may_keep keep (r.site s).unforced) (performed s t (effects_in t h) w)
          ∙ ap (λ (a : plain.Site). may_keep keep a.unforced) (update_same s (λ _. site_after t (effects_in t h) (w.site s)) w.site)

      pub keep_beyond : may_keep keep (site_after t (effects_in t h) (w.site s)).unforced ≡ false → refused_by 9 w ≡ seen (carry w (plan_in s t x) (some (cut, keep)))
      unfolding carry cut_short can_cut every
      keep_beyond k =
          rw (le-leb cut (length (acting t es)) (omega (arith, fits, acting-length t es)), left, k)
          (sym (refuse-seen w 9))

      pub carried_cut : may_keep keep (site_after t (effects_in t h) (w.site s)).unforced ≡ true
          → seen (carry w (plan_in s t (record { effects = h; then = follows.Down keep })) none) ≡ seen (carry w (plan_in s t x) (some (cut, keep)))
      unfolding carry cut_short can_cut every partly then_in
      carried_cut k =
          let kept : may_keep keep ((perform_all s (take cut (acting t es)) w).site s).unforced ≡ true = (unfold partly in left) ∙ k in
          rw (le-leb cut (length (acting t es)) (omega (arith, fits, acting-length t es)), kept)
          (ap (λ (l : List Act). seen (record { answer = 0; site = s; acts = l; run = down s keep (perform_all s l w) })) acts)

pub up_here : (x : Site) (w : Run) (s : ℕ) → Here x w s → x.up ≡ (w.site s).up
unfolding site_from
up_here x w s (rs, (n, own)) = ap (λ (a : plain.Site). a.up) own

pub may_keep_here : (x : Site) (w : Run) (s keep : ℕ) (b : Bool) → Here x w s → ((rs : List Record) → length rs ≡ 24 → b ≡ may_keep keep (site_from x rs).unforced)
    → b ≡ may_keep keep (w.site s).unforced
may_keep_here x w s keep b (rs, (n, own)) test = test rs n ∙ ap (λ (a : plain.Site). may_keep keep a.unforced) own

pub nothing_fits : (x : Site) (w : Run) (s t : ℕ) → Here x w s → Fits (effects_in t no_effects) (w.site s)
unfolding size site_from counted select
nothing_fits x w s t (rs, (n, own)) =
    rw (sym own, no_effects_lem t)
    (simp (length-append, length-take, length-drop, length-map) (omega (arith, n)))

-- ---- begin, a message, a timer

-- the refusals' tests, by what the program's functions answer
pub unready_here : {x : plain.Transaction} {up : Bool} {n : ℕ} (w : Run) (t s p : ℕ) → x ≡ w.transaction t → up ≡ (w.site s).up
    → unready x p up ≡ n → unready (w.transaction t) p (w.site s).up ≡ n
unready_here w t s p own here e = ap₂ (λ (x : plain.Transaction) (up : Bool). unready x p up) (sym own) (sym here) ∙ e

module _ (w : Run) {e : Event} {t s kind p : ℕ} (asks : Asks e t s kind p) (c : Option (ℕ × ℕ)) where
  -- one of 3 to 5 strikes
  pub input_unready : (x : Refusal) → unready (w.transaction t) p (w.site s).up ≡ number_of x → refused_by (number_of x) w ≡ taken w e c
  input_unready x q =
      let n = above_zero x in
      refused_as w e c x (input_struck_lem w asks ∙ struck_first _ _ _ _ n.0 (q ∙ n.1) ∙ sym n.1)

  -- none does: x, up and b are what the program holds
  module _ {x : plain.Transaction} {up b d : Bool} (own : x ≡ w.transaction t) (here : up ≡ (w.site s).up) (ready : unready x p up ≡ 0)
      (sent : b ≡ x.sent p kind) (q : (leb kind 7 && not b) ≡ d) where
    asked : first (refusals w e) ≡ cond d 7 0
    asked =
        input_struck_lem w asks
        ∙ struck_next _ _ _ _ (unready_here w t s p own here ready)
        ∙ ap (λ (d : Bool). cond d 7 0) (ap (λ (b : Bool). leb kind 7 && not b) (sym (sent ∙ ap (λ (x : plain.Transaction). x.sent p kind) own)) ∙ q)

    pub input_unsent : d ≡ true → refused_by 7 w ≡ taken w e c
    input_unsent h = sym (refused_by_lem w e c 6 (asked ∙ ap (λ (d : Bool). cond d 7 0) h))

    pub input_passed : d ≡ false → first (refusals w e) ≡ 0
    input_passed h = asked ∙ ap (λ (d : Bool). cond d 7 0) h

  module _ (passes : first (refusals w e) ≡ 0) where
    carries : (o : Option Plan) → upon_input w t s kind p ≡ o → taken w e c ≡ seen (carry_plan w o c)
    carries o q = not-refused w e c passes ∙ ap (λ (o : Option Plan). seen (carry_plan w o c)) (input_plan w asks ∙ q)

    -- a row is found
    module _ (x : Row) (found : some (plan_in s t x) ≡ step w t s (input_of kind p)) where
      is_plan : upon_input w t s kind p ≡ some (plan_in s t x)
      unfolding upon_input or_nothing
      is_plan = rw (sym found) (go (leb 16 kind))
        where
          go : (b : Bool) → cond b (some (plan_in s t x)) (some (plan_in s t x)) ≡ some (plan_in s t x)
          go true = refl
          go false = refl

      pub input_carried : taken w e c ≡ seen (carry w (plan_in s t x) c)
      unfolding carry_plan
      input_carried = carries (some (plan_in s t x)) is_plan

      pub input_fits : room_for w e ≡ true → Fits (effects_in t x.effects) (w.site s)
      unfolding room_for room_for_plan size
      input_fits r =
          let n = length ((w.site s).stable ++ (w.site s).unforced) + count is_append (acting t (effects_in t x.effects)) in
          let room : leb n 24 ≡ true = rw (passes, input_plan w asks, is_plan) at r in
          omega (arith, leb-true n 24 room, acting-counted t is_append (effects_in t x.effects))

    -- none is: begin and a timer are refused, a message has no effect
    module _ (found : none ≡ step w t s (input_of kind p)) where
      pub input_unallowed : 16 ≤ kind → refused_by 8 w ≡ taken w e c
      unfolding upon_input carry_plan
      input_unallowed h = sym (refuse-seen w 8) ∙ sym (carries none (rw (le-leb 16 kind h) (sym found)))

      pub input_nothing : kind < 16 → taken w e c ≡ seen (carry w (plan_in s t (record { effects = no_effects; then = follows.Same })) c)
      unfolding upon_input carry_plan or_nothing then_in
      input_nothing h =
          carries (some (settling s (λ r. r))) (rw (lt-leb 16 kind h, sym found) refl)
          ∙ ap (λ (l : List Act). seen (carry w (record { site = s; acts = l; settle = λ r. r }) c)) (sym (nothing_acts t))

-- ---- open

down_by : (w : Run) (s : ℕ) (v : Bool) → (w.site s).up ≡ v → is_down w s ≡ not v
unfolding is_down
down_by w s v e = ap not e

-- whether one of the sites that it needs is down, by the array of sites
pub one_down : (l : List Site) (w : Run) (M : ℕ) → ((i : ℕ) → (get_or l i no_site).up ≡ (w.site i).up)
    → (b v : Bool) → b ≡ not (any (λ s. not (get_or l s no_site).up) (0 ∷ listed M)) → not b ≡ v → any (is_down w) (0 ∷ listed M) ≡ v
one_down l w M ups b v e q =
    ap (λ (f : ℕ → Bool). any f (0 ∷ listed M)) same ∙ sym (not-not (any (λ s. not (get_or l s no_site).up) (0 ∷ listed M))) ∙ ap not (sym e) ∙ q
  where
    same : is_down w ≡ (λ s. not (get_or l s no_site).up)
    same = fun_ext (λ s. down_by w s (get_or l s no_site).up (sym (ups s)))

module _ (w : Run) (t M C : ℕ) where
  open_struck : first (refusals w (opening t M C)) ≡ cond (opened w t) 2 (cond (any (is_down w) (0 ∷ listed M)) 5 0)
  unfolding refusals first
  open_struck = refl

  pub open_before : opened w t ≡ true → refused_by 2 w ≡ taken w (opening t M C) none
  open_before e = sym (refused_by_lem w (opening t M C) none 1 (open_struck ∙ ap (λ b. cond b 2 (cond (any (is_down w) (0 ∷ listed M)) 5 0)) e))

  module _ (fresh : opened w t ≡ false) where
    pub open_down : any (is_down w) (0 ∷ listed M) ≡ true → refused_by 5 w ≡ taken w (opening t M C) none
    open_down e = sym (refused_by_lem w (opening t M C) none 4 (rw (fresh, e) at open_struck))

    pub open_opens : any (is_down w) (0 ∷ listed M) ≡ false → (x : Then) → then_in 0 t x ≡ at_transaction t (opened_as (record { members = M; presume_commit = C }))
        → seen (carry w (plan_in 0 t (record { effects = no_effects; then = x })) none) ≡ taken w (opening t M C) none
    unfolding plan carry_plan
    open_opens e x q =
        ap₂ (λ (l : List Act) (f : Run → Run). seen (carry w (record { site = 0; acts = l; settle = f }) none)) (nothing_acts t) q
        ∙ sym (not-refused w (opening t M C) none (rw (fresh, e) at open_struck))

-- ---- force and crash

module _ (w : Run) (s t : ℕ) where
  down_struck : (e : Event) → first (refusals w e) ≡ cond (not (w.site s).up) 5 0 → (w.site s).up ≡ false → (c : Option (ℕ × ℕ)) {n : ℕ} → n ≡ 5 → refused_by n w ≡ taken w e c
  down_struck e q up c five = rw five (sym (refused_by_lem w e c 4 (rw up at q)))

  force_struck : first (refusals w (forcing s)) ≡ cond (not (w.site s).up) 5 0
  unfolding refusals first is_down
  force_struck = refl

  crash_struck : first (refusals w (crash s)) ≡ cond (not (w.site s).up) 5 0
  unfolding refusals first is_down
  crash_struck = refl

  pub force-down : (w.site s).up ≡ false → {n : ℕ} → n ≡ 5 → refused_by n w ≡ taken w (forcing s) none
  force-down up = down_struck (forcing s) force_struck up none

  -- its one effect is of no transaction
  pub force-forces : (w.site s).up ≡ true → seen (carry w (plan_in s t (record { effects = forced_only; then = follows.Same })) none) ≡ taken w (forcing s) none
  unfolding plan carry_plan carry acting perform_all perform seen answer_of count select is_append is_force is_send then_in
  force-forces up =
      ap (λ (l : List Effect). seen (carry w (record { site = s; acts = acting t l; settle = λ r. r }) none)) (forced-only t)
      ∙ sym (not-refused w (forcing s) none (rw up at force_struck))

  pub crash-down : (keep : ℕ) → (w.site s).up ≡ false → {n : ℕ} → n ≡ 5 → refused_by n w ≡ taken w (crash s) (some (0, keep))
  crash-down keep up = down_struck (crash s) crash_struck up (some (0, keep))

  module _ (keep : ℕ) (up : (w.site s).up ≡ true) where
    crashes : taken w (crash s) (some (0, keep)) ≡ seen (cut_short (may_keep keep (w.site s).unforced && true) w (settling s (λ x. x)) 0 keep)
    unfolding plan carry_plan carry can_cut every partly perform_all
    crashes = not-refused w (crash s) (some (0, keep)) (rw up at crash_struck)

    pub crash_beyond : may_keep keep (w.site s).unforced ≡ false → refused_by 9 w ≡ taken w (crash s) (some (0, keep))
    unfolding cut_short
    crash_beyond h = sym (crashes ∙ rw h (refuse-seen w 9))

    pub crash_stops : may_keep keep (w.site s).unforced ≡ true
        → seen (carry w (plan_in s t (record { effects = no_effects; then = follows.Down keep })) none) ≡ taken w (crash s) (some (0, keep))
    unfolding cut_short carry partly perform_all then_in
    crash_stops h =
        ap (λ (l : List Act). seen (record { answer = 0; site = s; acts = l; run = down s keep (perform_all s l w) })) (nothing_acts t)
        ∙ sym (crashes ∙ rw h refl)

-- ---- discard

-- by the counts and the records
module _ (x y : Site) (rs qs : List Record) (w : Run) (t s : ℕ) (own : site_from x rs ≡ w.site s) where
  pub may_discard_lem : newest closes (select (of_transaction t) (site_from x rs).stable) ≡ may_discard w t s
  unfolding may_discard closed
  may_discard_lem = ap (λ (a : plain.Site). newest closes (select (of_transaction t) a.stable)) own

  -- y with qs is the log without the record
  pub still_remembers : site_from y qs ≡ trimmed t (site_from x rs) → any (of_transaction t) ((site_from y qs).stable ++ (site_from y qs).unforced) ≡ remembers t (trimmed t (w.site s))
  unfolding remembers
  still_remembers e = ap (λ (a : plain.Site). any (of_transaction t) (a.stable ++ a.unforced)) (e ∙ ap (trimmed t) own)

module _ (w : Run) (t s : ℕ) where
  discard_struck : first (refusals w (discarding t s)) ≡ unready (w.transaction t) s (w.site s).up
  unfolding refusals first unopened opened is_down stranger
  discard_struck = rw (not-not (empty (w.transaction t).cohort.members)) refl

  mark_struck : first (refusals w (marking t s)) ≡ unready (w.transaction t) s (w.site s).up
  unfolding refusals first unopened opened is_down stranger
  mark_struck = rw (not-not (empty (w.transaction t).cohort.members)) refl

  module _ (x : Refusal) (q : unready (w.transaction t) s (w.site s).up ≡ number_of x) where
    pub discard-refused : refused_by (number_of x) w ≡ taken w (discarding t s) none
    discard-refused = refused_as w (discarding t s) none x (discard_struck ∙ q)

    pub mark-refused : refused_by (number_of x) w ≡ taken w (marking t s) none
    mark-refused = refused_as w (marking t s) none x (mark_struck ∙ q)

  module _ (passed : unready (w.transaction t) s (w.site s).up ≡ 0) where
    discards : taken w (discarding t s) none ≡ seen (carry_plan w (only_if (may_discard w t s) (settling s (discard t s))) none)
    unfolding plan
    discards = not-refused w (discarding t s) none (discard_struck ∙ passed)

    pub discard_unallowed : may_discard w t s ≡ false → refused_by 8 w ≡ taken w (discarding t s) none
    unfolding carry_plan only_if
    discard_unallowed e = sym (discards ∙ ap (λ b. seen (carry_plan w (only_if b (settling s (discard t s))) none)) e ∙ refuse-seen w 8)

    -- the participant forgets with the last record
    pub discard_drops : may_discard w t s ≡ true → (last : Bool) → not last ≡ (eqb s 0 || remembers t (trimmed t (w.site s)))
        → seen (carry w (plan_in s t (record { effects = no_effects; then = follows.Discarded last })) none) ≡ taken w (discarding t s) none
    unfolding carry_plan only_if carry then_in discard at_site perform_all
    discard_drops e last q =
        ap (λ (l : List Act). seen (record { answer = 0; site = s; acts = l; run = then_in s t (follows.Discarded last) (perform_all s l w) })) (nothing_acts t)
        ∙ ap (λ b. seen (record { answer = 0; site = s; acts = []; run = forgotten_unless b t s (at_site s (trimmed t) w) })) (q ∙ ap (λ (a : plain.Site). eqb s 0 || remembers t a) (sym (update_same s (trimmed t) w.site)))
        ∙ sym (discards ∙ ap (λ b. seen (carry_plan w (only_if b (settling s (discard t s))) none)) e)

    -- ---- mark

    marks : taken w (marking t s) none ≡ seen (carry_plan w (only_if (is_working ((w.transaction t).participant s)) (settling s (at_transaction t (with_marked s)))) none)
    unfolding plan
    marks = not-refused w (marking t s) none (mark_struck ∙ passed)

    pub mark_unallowed : is_working ((w.transaction t).participant s) ≡ false → refused_by 8 w ≡ taken w (marking t s) none
    unfolding carry_plan only_if
    mark_unallowed e = sym (marks ∙ ap (λ b. seen (carry_plan w (only_if b (settling s (at_transaction t (with_marked s)))) none)) e ∙ refuse-seen w 8)

    pub mark_marks : is_working ((w.transaction t).participant s) ≡ true
        → seen (carry w (plan_in s t (record { effects = no_effects; then = follows.Marked })) none) ≡ taken w (marking t s) none
    unfolding carry_plan only_if then_in
    mark_marks e =
        ap (λ (l : List Act). seen (carry w (record { site = s; acts = l; settle = at_transaction t (with_marked s) }) none)) (nothing_acts t)
        ∙ sym (marks ∙ ap (λ b. seen (carry_plan w (only_if b (settling s (at_transaction t (with_marked s)))) none)) e)
