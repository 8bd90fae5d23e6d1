-- Those that were marked as having only looked: the second sentence of demand 3 by marks, and whom a record 2 names.
use Prim.Native.Nat.{ℕ, zero, suc}
use mathlib.Core.Path.{◌≡◌, refl, sym, ap, ◌∙◌, subst}
use mathlib.Core.Logic.{⊎_elim}
use mathlib.Core.Bool.{Bool, true, false, not, ◌&&◌, ◌||◌, true≢false}
use mathlib.Core.List.{List, [], ◌∷◌, ◌++◌, map, append-nil, append_assoc}
use lib.ListN.{take}
use lib.Dec.{T, eqb}
use native.Mathlib.Omega.{arith}
use borrow.Author.Tests.{eq-eqb, eqb-true, not-false}
use Rattle.codec.specs.Lists.{any, select, same, first}
use Rattle.codec.specs.Sets.{member}
use Rattle.codec.specs.Records.{LogRecord, members_in, of_transaction}
use Rattle.codec.specs.Laws.Tests.{true_of, of_true, every_at}
use Rattle.site.specs.Presumption.{commit}
use Rattle.site.specs.Cohort.{Cohort, remaining, masks_of, writes_init}
use Rattle.site.specs.Step.{vote_yes, read_only, message_kind}
use Rattle.joint.specs.State.{Run, Site, fresh, opened, holds}
use Rattle.joint.specs.Event.{delivery, Parsed}
use Rattle.joint.specs.Refusals.{refusals}
use Rattle.joint.specs.Plan.{Plan}
use Rattle.joint.specs.Run.{Result, refuse, after}
use Rattle.joint.specs.Safety.{Moment, history, steps, is_entry, is_vote, is_sending, Happens, accepts, is_taking_out, taken_out, marked, commit_stable, Marks, EveryMark}
use Rattle.joint.proofs.Base.Booleans.{or-either, or_map, is_false}
use Rattle.site.specs.Laws.Lists.{select-append}
use Rattle.joint.proofs.Base.Lists.{Each, any_more, any_middle}
use Rattle.joint.proofs.Base.History.{Accepted, EventCase, refused, whole, cut, event_case, by_events, after_snoc, history_snoc}
use Rattle.joint.proofs.Base.Plans.{not_struck}
use Rattle.joint.proofs.Base.Moments.{placed, moment_cohort}
use Rattle.joint.proofs.Base.Recorded.{messages-happened}
use Rattle.joint.proofs.Base.Looked.{bytes_delivery, any_step, marks_happened}
use Rattle.joint.proofs.View.View.{View, site_view, view}
use Rattle.joint.proofs.Safety.Tables.{Status, trail}
use Rattle.joint.proofs.Safety.Sets.{no_zero, has_member, member-remaining}
use Rattle.joint.proofs.Safety.Invariant.{Standing, out_of, has_decided, stable_at, record_for, sent_in, Mid, cohort_of}
use Rattle.joint.proofs.Safety.Kept.{decided-counted}
use Rattle.joint.proofs.Safety.Tracked.{seen_after, small, tracked, record_decided, record_stands}
use Rattle.joint.proofs.View.Cohorts.{event-leaves}
use Rattle.joint.proofs.Demand3.{demand3}

-- ---- a read-only vote that was delivered was sent

module _ (r : Run) (e : List ℕ) (t p : ℕ) (bytes : same (take 4 e) (2 ∷ t ∷ p ∷ message_kind read_only ∷ []) ≡ true) where
  vote_accepted : {x : Parsed} {q : Plan} → Accepted r e x q → T ((r.transaction t).sent p (message_kind read_only))
  unfolding refusals
  vote_accepted {x} a =
      let d = bytes_delivery e x a.parsed t p read_only bytes in
      let b : first (refusals r (delivery t p read_only)) ≡ 0 = rw d.0 at a.passed in
      let sent : (r.transaction t).sent p (message_kind read_only) ≡ true = not-false _ (not_struck 6 _ _ (not_struck 4 _ _ (not_struck 3 _ _ (not_struck 2 _ _ b).1).1).1).0 in
      of_true sent

  vote_case : {z : Result} → EventCase r e z → eqb z.answer 0 ≡ true → T ((r.transaction t).sent p (message_kind read_only))
  unfolding refuse
  vote_case (refused n) h = absurd (omega (arith, eqb-true (suc n) 0 h))
  vote_case (whole a c) h = vote_accepted a
  vote_case (cut n j a c b) h = vote_accepted a

vote_sent : (r : Run) (e : List ℕ) (t p : ℕ) → T (is_taking_out t p (r, e)) → T ((r.transaction t).sent p (message_kind read_only))
unfolding is_taking_out accepts
vote_sent r e t p k =
    let h = true_of _ k in
    vote_case r e t p (every_at _ h 0) (event_case r e) (every_at _ h 1)

-- a message that was sent stays sent
sent_later : (es : List (List ℕ)) (e : List ℕ) (t p k : ℕ) → T (((after fresh es).transaction t).sent p k) → T (((after fresh (es ++ (e ∷ []))).transaction t).sent p k)
sent_later es e t p k s =
    subst T (sym (messages-happened (es ++ (e ∷ [])) t p k ∙ ap (any (is_sending t p k)) (history_snoc fresh es e)))
    (any_more (is_sending t p k) (history fresh es) _ (subst T (messages-happened es t p k) s))

-- whoever was taken out has sent a read-only vote
pub taken-sent : (es : List (List ℕ)) (t p : ℕ) → T (taken_out es t p) → T (((after fresh es).transaction t).sent p (message_kind read_only))
unfolding taken_out
taken-sent es t p =
    by_events (λ es. T (any (is_taking_out t p) (steps fresh es)) → T (((after fresh es).transaction t).sent p (message_kind read_only)))
    (λ k. absurd (unfold steps any in k))
    (λ es e h k.
    sent_later es e t p (message_kind read_only)
    (or-either (any (is_taking_out t p) (steps fresh es)) (is_taking_out t p (after fresh es, e)) h (vote_sent (after fresh es) e t p) (subst T (any_step (is_taking_out t p) es e) k))) es

each_middle : (P : LogRecord → Type 0) (a : List LogRecord) (x : LogRecord) (b : List LogRecord) → Each P (a ++ (x ∷ b)) → P x
each_middle P [] x b h = h.0
each_middle P (y ∷ a) x b h = each_middle P a x b h.1

-- ---- marks and votes of a member

-- a read-only vote is of one that is marked, a Yes of one that is not
marked_looked : (s : Status) (k y r : Bool) → T (trail s k y r) → T r → T k
marked_looked s true y r t u = tt
marked_looked s false y true t u = t
marked_looked s false y false t u = absurd u

unmarked_yes : (s : Status) (k y r : Bool) → T (trail s k y r) → T y → k ≡ false
unmarked_yes s true true true t u = absurd t
unmarked_yes s true true false t u = absurd t
unmarked_yes s true false r t u = absurd u
unmarked_yes s false y r t u = refl

module _ (t : ℕ) (es : List (List ℕ)) where
  abbrev v : View
  v = seen_after t es

  abbrev h : Standing
  h = (tracked t es).standing

  abbrev mid : Mid t h v
  mid = (tracked t es).inv.mid

  looked_marked : (n : ℕ) → T (member (suc n) (cohort_of v).members) → T (sent_in v (suc n) read_only) → T (marked es t (suc n))
  unfolding view
  looked_marked n m u =
      subst T (marks_happened es t (suc n))
      (marked_looked (mid.status n) (v.transaction.marked (suc n)) (sent_in v (suc n) vote_yes) (sent_in v (suc n) read_only) (mid.fine n m).looked u)

  yes_unmarked : (n : ℕ) → T (member (suc n) (cohort_of v).members) → T (sent_in v (suc n) vote_yes) → marked es t (suc n) ≡ false
  unfolding view
  yes_unmarked n m u =
      sym (marks_happened es t (suc n))
      ∙ unmarked_yes (mid.status n) (v.transaction.marked (suc n)) (sent_in v (suc n) vote_yes) (sent_in v (suc n) read_only) (mid.fine n m).looked u

  -- ---- whom a record 2 names

  abbrev g : Cohort
  g = cohort_of v

  -- of a member that remained or was taken out
  not-marked : T (has_decided h commit) → (n : ℕ) → T (member (suc n) g.members) → (b : Bool) → member (suc n) (out_of h) ≡ b → not b ≡ not (marked es t (suc n))
  not-marked d n m true e = ap not (sym (true_of (marked es t (suc n)) (looked_marked n m (mid.votes.looked n (of_true e)))))
  not-marked d n m false e =
      ⊎_elim (λ k. absurd (true≢false (sym (true_of _ k) ∙ e))) (λ y. ap not (sym (yes_unmarked n m y))) (mid.votes.said n m (decided-counted h n d))

  named : T (has_decided h commit) → (p : ℕ) → member p (remaining g (out_of h)).members ≡ (member p g.members && not (marked es t p))
  named d zero =
      is_false (member 0 (remaining g (out_of h)).members) (no_zero (remaining g (out_of h)).members)
      ∙ ap (λ (b : Bool). b && not (marked es t 0)) (sym (is_false (member 0 g.members) (no_zero g.members)))
  named d (suc n) = member-remaining g (out_of h) mid.sound.byte n ∙ go (member (suc n) g.members) refl
    where
      go : (b : Bool) → member (suc n) g.members ≡ b → (b && not (member (suc n) (out_of h))) ≡ (b && not (marked es t (suc n)))
      go true e = not-marked d n (of_true e) (member (suc n) (out_of h)) refl
      go false e = refl

  -- each record of kind 2 in the log has the masks of those that remained
  abbrev Names : LogRecord → Type 0
  Names x = x.kind ≡ 2 → members_in x ≡ (remaining g (out_of h)).members

  each-names : (ks : List ℕ) → Each Names (map (record_for g (out_of h) t 0) ks)
  each-names [] = tt
  each-names (k ∷ ks) = ((λ e. ap (λ (j : ℕ). members_in (record_for g (out_of h) t 0 j)) e ∙ (unfold members_in masks_of in refl)), each-names ks)

  -- x is one of the stable records of t
  own_record : (before : List LogRecord) (x : LogRecord) (later : List LogRecord) → ((after fresh es).site 0).stable ≡ before ++ (x ∷ later) → x.transaction ≡ t
      → Names x
  unfolding view site_view select of_transaction
  own_record before x later e q =
      each_middle Names (select (of_transaction t) before) x (select (of_transaction t) later)
      (subst (Each Names) here (each-names (stable_at (writes_init g) h)))
    where
      mine : select (of_transaction t) (x ∷ later) ≡ x ∷ select (of_transaction t) later
      mine = unfold select of_transaction in (rw (eq-eqb x.transaction t q) refl)

      here : map (record_for g (out_of h) t 0) (stable_at (writes_init g) h) ≡ select (of_transaction t) before ++ (x ∷ select (of_transaction t) later)
      here =
          sym (ap (λ (s : Site). s.stable) mid.log) ∙ ap (select (of_transaction t)) e ∙ select-append (of_transaction t) before (x ∷ later)
          ∙ ap (λ (l : List LogRecord). select (of_transaction t) before ++ l) mine

  -- so commit is decided
  record_is_commit : (before : List LogRecord) (x : LogRecord) (later : List LogRecord) → ((after fresh es).site 0).stable ≡ before ++ (x ∷ later) → x.kind ≡ 2
      → x.transaction ≡ t → T (has_decided h commit)
  unfolding commit_stable holds of_transaction
  record_is_commit before x later e k q =
      record_decided t h mid
      (subst T (record_stands t es h (tracked t es).inv)
      (subst (λ (l : List LogRecord). T (any (λ y. eqb y.transaction t && eqb y.kind 2) l)) (sym e)
      (any_middle (λ y. eqb y.transaction t && eqb y.kind 2) before x later (rw (eq-eqb x.transaction t q, eq-eqb x.kind 2 k) tt))))

  remain : (before : List LogRecord) (x : LogRecord) (later : List LogRecord) → ((after fresh es).site 0).stable ≡ before ++ (x ∷ later) → x.kind ≡ 2
      → x.transaction ≡ t → (p : ℕ) → member p (members_in x) ≡ (member p ((after fresh es).transaction t).cohort.members && not (marked es t p))
  unfolding view
  remain before x later e k q p = ap (member p) (own_record before x later e q k) ∙ named (record_is_commit before x later e k q) p

-- ---- the second sentence by marks

members_stay : (t p : ℕ) (es later : List (List ℕ)) → T (member p ((after fresh es).transaction t).cohort.members)
    → T (member p ((after fresh (es ++ later)).transaction t).cohort.members)
members_stay t p es [] m = rw append-nil m
members_stay t p es (e ∷ later) m =
    rw append_assoc at
    (members_stay t p (es ++ (e ∷ [])) later
    (subst (λ (g : Cohort). T (member p g.members)) (sym (ap (λ (r : Run). (r.transaction t).cohort) (after_snoc fresh es e) ∙ event-leaves t (after fresh es) e (small t es (tracked t es).standing (tracked t es).inv) now_opened)) m))
  where
    now_opened : opened (after fresh es) t ≡ true
    now_opened = unfold opened in ap not (has_member ((after fresh es).transaction t).cohort.members p (true_of _ m))

-- a member stays one
member_later : (es : List (List ℕ)) (earlier : List Moment) (m : Moment) → Happens es earlier m → (t p : ℕ) → T (member p (m.before.transaction t).cohort.members)
    → T (member p ((after fresh es).transaction t).cohort.members)
member_later es earlier m d t p b =
    let x = placed es earlier m d in
    let now = subst (λ (g : Cohort). T (member p g.members)) (moment_cohort (after fresh x.before) x.event x.seen m x.rest x.moments t) b in
    subst (λ (l : List (List ℕ)). T (member p ((after fresh l).transaction t).cohort.members)) (sym x.list) (members_stay t p x.before (x.event ∷ x.later) now)

votes_by_marks : (es : List (List ℕ)) (earlier : List Moment) (m : Moment) → Happens es earlier m → (t : ℕ) → T (is_entry t commit m)
    → (p : ℕ) → T (member p (m.before.transaction t).cohort.members) → T (any (is_vote t p) earlier || marked es t p)
unfolding view
votes_by_marks es earlier m d t k zero b = absurd (no_zero (m.before.transaction t).cohort.members b)
votes_by_marks es earlier m d t k (suc n) b =
    or_map (any (is_vote t (suc n)) earlier) (taken_out es t (suc n)) (marked es t (suc n))
    (λ u. looked_marked t es n (member_later es earlier m d t (suc n) b) (taken-sent es t (suc n) u)) ((demand3 es).votes earlier m d t k (suc n) b)

-- ---- the claim

pub every-mark : (events : List (List ℕ)) → Marks events
every-mark es = record { votes = votes_by_marks es; remain = λ before x later e k p. remain x.transaction es before x later e k refl p }

-- as the definitions state it
pub as_stated : EveryMark
as_stated = every-mark
