-- At no time does a site have more than eight unforced records, and a byte names them all (specs/Unforced).
use Prim.Native.Nat.{ℕ, zero, suc, ◌+◌, ◌*◌, ◌/◌, ◌%◌, ◌^◌, ◌<◌, ◌≤◌}
use mathlib.Core.Path.{◌≡◌, refl, sym, ap, subst}
use mathlib.Core.Bool.{Bool, true, false, cond}
use mathlib.Core.List.{List, [], ◌∷◌, ◌++◌, map, flatten}
use native.Mathlib.Nat.{pow-suc}
use native.Mathlib.Omega.{arith}
use lib.ListN.{length, take}
use lib.Pow.{pow_mono}
use Rattle.codec.specs.Lists.{select}
use Rattle.codec.specs.Records.{LogRecord, of_transaction}
use Rattle.codec.specs.Laws.Members.{high_bits}
use Rattle.joint.specs.State.{Run, Act, fresh, opened, survivors, may_keep, perform, perform_all}
use Rattle.joint.specs.Event.{Parsed}
use Rattle.joint.specs.Plan.{Plan, transactions}
use Rattle.joint.specs.Run.{Result, event, after, refuse, partly, carry, cut_short}
use Rattle.joint.specs.Safety.{Moment, moments, happened, history, leaves, along}
use Rattle.joint.specs.Unforced.{Passes, wanted, Named, Few, EveryMoment}
use Rattle.codec.specs.Open.{codec_opens}
use Rattle.site.specs.Open.{site_opens}
use Rattle.joint.proofs.Open.{joint_opens}
use Rattle.joint.proofs.Base.Lists.{Each, among, each_append, each_take, each_back}
use Rattle.joint.proofs.Base.Ranges.{parse_range}
use Rattle.joint.proofs.Base.History.{Accepted, EventCase, refused, whole, cut, event_case, by_events, passed, along_snoc, after_snoc}
use Rattle.joint.proofs.View.View.{site_view, view}
use Rattle.joint.proofs.View.Acts.{seen}
use Rattle.joint.proofs.View.Carries.{Shown, middle_view}
use Rattle.joint.proofs.View.Events.{plan-shown}
use Rattle.joint.proofs.Safety.Tracked.{tracked}
use Rattle.joint.proofs.Safety.Singles.{mid_single, row-single}
use Rattle.joint.proofs.Logs.Counts.{counted-most}
use Rattle.joint.proofs.Logs.OneOfEight.{plan_numbered, performed_numbered}
use Rattle.joint.proofs.Reachable.{cohorts_in_range, records_numbered}

-- ---- a byte names up to eight records

-- the mask of those that are wanted
abbrev keep_of : List Bool → ℕ
keep_of [] = 0
keep_of (b ∷ bs) = cond b 1 0 + 2 * keep_of bs

keep_small : (bs : List Bool) → keep_of bs < 2 ^ length bs
keep_small [] = omega arith
keep_small (true ∷ bs) = omega (arith, keep_small bs, pow-suc 2 (length bs))
keep_small (false ∷ bs) = omega (arith, keep_small bs, pow-suc 2 (length bs))

keeps_wanted : (bs : List Bool) (xs : List LogRecord) → length bs ≡ length xs → survivors (keep_of bs) xs ≡ wanted bs xs
unfolding survivors wanted
keeps_wanted [] [] e = refl
keeps_wanted [] (x ∷ xs) e = absurd (omega arith)
keeps_wanted (b ∷ bs) [] e = absurd (omega arith)
keeps_wanted (true ∷ bs) (x ∷ xs) e =
    let bit : (1 + 2 * keep_of bs) % 2 ≡ 1 = omega arith in
    let above : (1 + 2 * keep_of bs) / 2 ≡ keep_of bs = omega arith in
    rw (bit, above, keeps_wanted bs xs (omega arith)) refl
keeps_wanted (false ∷ bs) (x ∷ xs) e =
    let bit : (0 + 2 * keep_of bs) % 2 ≡ 0 = omega arith in
    let above : (0 + 2 * keep_of bs) / 2 ≡ keep_of bs = omega arith in
    rw (bit, above, keeps_wanted bs xs (omega arith)) refl

named : (xs : List LogRecord) → length xs ≤ 8 → Named xs
unfolding may_keep
named xs few bs e =
    let small : keep_of bs < 2 ^ length xs = rw e at (keep_small bs) in (
      keep_of bs,
      omega (arith, small, pow_mono {i = length xs} {j = 8} few),
      rw (high_bits (keep_of bs) (length xs) (length xs) small (omega arith)) refl,
      keeps_wanted bs xs e,
    )

few : (unforced : List LogRecord) → Each (λ x. x.transaction < 8) unforced → ((t : ℕ) → length (select (of_transaction t) unforced) ≤ 1) → Few unforced
few unforced numbers single =
    let eight = counted-most 8 1 unforced numbers single in
    record { single = single; eight = eight; named = named unforced eight }

-- ---- between the effects of a row

-- the first of the first ones
first-ones : (m n : ℕ) (l : List Act) → (j : ℕ) × (take m (take n l) ≡ take j l)
first-ones zero n l = (0, refl)
first-ones (suc m) zero l = (0, refl)
first-ones (suc m) (suc n) [] = (0, refl)
first-ones (suc m) (suc n) (x ∷ l) = let q = first-ones m n l in (suc q.0, ap (λ (k : List Act). x ∷ k) q.1)

-- what holds after the first acts, however many, holds after each
leaves-each : (P : Run → Type 0) (bytes : List ℕ) (r : Run) (s : ℕ) (l : List Act) (x : Run) → ((n : ℕ) → P (perform_all s (take n l) x))
    → Each P (map leaves (moments bytes r s l x))
unfolding moments leaves perform_all
leaves-each P bytes r s [] x h = tt
leaves-each P bytes r s (a ∷ l) x h = (h 1, leaves-each P bytes r s l (perform s a.transaction a.effect x) (λ n. h (suc n)))

-- the view of t has the unforced records of t
view_unforced : (t : ℕ) (ms : List Moment) (r : Run) (s : ℕ) → ((view t ms r).site s).unforced ≡ select (of_transaction t) (r.site s).unforced
unfolding view site_view
view_unforced t ms r s = refl

-- at every site
abbrev Everywhere : Run → Type 0
Everywhere r = (s : ℕ) → Few (r.site s).unforced

module _ (es : List (List ℕ)) where
  abbrev r : Run
  r = after fresh es

  small : (t : ℕ) → opened r t ≡ true → t < 8
  small t o = (cohorts_in_range es t o).0

  numbers : (s : ℕ) → Each (λ x. x.transaction < 8) (r.site s).unforced
  numbers s = each_back _ (r.site s).stable (r.site s).unforced (records_numbered es s)

  -- between events
  between_events : Everywhere r
  between_events s = few (r.site s).unforced (numbers s) (λ t. rw (← view_unforced t (history fresh es) r s) (mid_single (tracked t es).inv.mid s))

  module _ (bytes : List ℕ) where
    -- after the first effects of a plan
    middle : {x : Parsed} {p : Plan} → Accepted r bytes x p → (n : ℕ) → Everywhere (partly r p n)
    middle {x} {p} a n s = few ((partly r p n).site s).unforced numbered single
      where
        numbered : Each (λ k. k.transaction < 8) ((partly r p n).site s).unforced
        numbered = unfold partly in performed_numbered p.site (take n p.acts) r (each_take _ n p.acts (rw a.planned at (plan_numbered r small x.event a.passed))) numbers s

        shown : (t : ℕ) → Shown t (λ _. Unit {0}) r p
        shown t = rw a.planned at (plan-shown t (λ _. Unit {0}) r x.event (parse_range bytes x a.parsed) (small t) (λ q e c. tt) a.passed)

        single : (t : ℕ) → length (select (of_transaction t) ((partly r p n).site s).unforced) ≤ 1
        single t =
            let same = middle_view bytes t (λ _. Unit {0}) (history fresh es) r p (shown t) n in
            rw (← view_unforced t (history fresh es ++ moments bytes r p.site (take n p.acts) r) (partly r p n) s, same) (row-single (tracked t es).inv ((shown t).row (history fresh es)) (among (seen t) n p.acts) s)

    effects-few : {x : Result} → EventCase r bytes x → (n : ℕ) → Everywhere (perform_all x.site (take n x.acts) r)
    unfolding refuse carry cut_short partly
    effects-few (refused k) zero = unfold perform_all in between_events
    effects-few (refused k) (suc n) = unfold perform_all in between_events
    effects-few (whole a c) n = middle a n
    effects-few (cut {x} {p} j k a c b) n =
        let q = first-ones n j p.acts in
        subst (λ (l : List Act). Everywhere (perform_all p.site l r)) (sym q.1) (middle a q.0)

along-few : (es : List (List ℕ)) → Each Everywhere (along fresh es)
along-few =
    by_events (λ es. Each Everywhere (along fresh es)) (unfold along after in (between_events [], tt))
    (λ es e h.
    rw along_snoc
    (each_append Everywhere (along fresh es) (passed (after fresh es) e) h
    (unfold passed happened in
    each_append Everywhere (map leaves (happened (after fresh es) e)) ((event (after fresh es) e).run ∷ [])
    (leaves-each Everywhere e (after fresh es) _ _ (after fresh es) (effects-few es e (event_case (after fresh es) e)))
    (rw (← after_snoc fresh es e) (between_events (es ++ (e ∷ []))), tt))))

-- ---- the theorem

pub every_moment : EveryMoment
unfolding Passes
every_moment es r (earlier, later, e) s = (each_back Everywhere earlier (r ∷ later) (subst (Each Everywhere) e (along-few es))).0 s

-- ---- eight are reached, at the coordinator and at a participant

-- each transaction aborts by the coordinator's timer; participant 1, which presumes abort, forces no record of it
abbrev aborting : ℕ → List (List ℕ)
aborting t =
    (0 ∷ t ∷ 3 ∷ 2 ∷ 255 ∷ 0 ∷ [])
    ∷ (1 ∷ t ∷ 0 ∷ 0 ∷ 255 ∷ 0 ∷ [])
    ∷ (3 ∷ t ∷ 0 ∷ 0 ∷ 255 ∷ 0 ∷ [])
    ∷ (2 ∷ t ∷ 1 ∷ 4 ∷ 255 ∷ 0 ∷ [])
    ∷ (2 ∷ t ∷ 2 ∷ 4 ∷ 255 ∷ 0 ∷ [])
    ∷ []

-- participant 2, which presumes commit, acks, and the coordinator appends its AbortEnd
abbrev pub filling : List (List ℕ)
filling = flatten (map aborting transactions) ++ map (λ t. 2 ∷ t ∷ 2 ∷ 6 ∷ 255 ∷ 0 ∷ []) transactions

pub eight_reached : map (λ s. length ((after fresh filling).site s).unforced) (0 ∷ 1 ∷ []) ≡ 8 ∷ 8 ∷ []
unfolding codec_opens site_opens joint_opens
eight_reached = refl
