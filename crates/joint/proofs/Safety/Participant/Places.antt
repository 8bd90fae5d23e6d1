-- From the tests to the invariant: a participant after something happened at it is a member as before, or a stranger, and all else stays.
use Prim.Native.Nat.{ℕ, zero, suc}
use mathlib.Core.Path.{◌≡◌, refl, sym, ap, subst, ◌∙◌, fun_ext}
use mathlib.Core.Logic.{◌≢◌, inl, inr, ⊎_elim}
use mathlib.Core.Bool.{Bool, true, false, ◌&&◌, ◌||◌}
use mathlib.Core.List.{List, [], map}
use native.Mathlib.Omega.{arith}
use lib.ListN.{take}
use lib.Dec.{T, eqb}
use borrow.Author.Tests.{eqb-true, eqb-false}
use Rattle.codec.specs.Laws.Tests.{and_left, and_right}
use Rattle.site.specs.Presumption.{Outcome, Presumption}
use Rattle.site.specs.Cohort.{Cohort, presumption_of}
use Rattle.site.specs.Step.{Message, prepare, vote_yes, read_only, message_kind, Input, begin, timer, received, Row}
use Rattle.site.specs.Participant.{ParticipantPhase}
use Rattle.joint.specs.State.{Site, with_participant}
use Rattle.joint.proofs.Base.Booleans.{◌⇒◌, mp, to-⇒, or_right, or_both, or_map}
use Rattle.joint.proofs.View.View.{View, view_effects}
use Rattle.joint.proofs.View.Turn.{Carried, whole, cut_after, view_start}
use Rattle.joint.proofs.Safety.Tables.{Status, is_up, stable_kinds, unforced_kinds, Stage, fits, may, may_enter, trail, Fine}
use Rattle.joint.proofs.Safety.Finite.{all_message, at_message, all_outcome, at_outcome}
use Rattle.joint.proofs.Safety.Sets.{belongs}
use Rattle.joint.proofs.Base.Lists.{each_take}
use Rattle.joint.proofs.Base.Survivors.{survivors_none}
use Rattle.joint.proofs.Safety.Invariant.{Standing, stage_of, site_with, sent_in, Place, Edge, Here, here, PhaseAs, Inv}
use Rattle.joint.proofs.Safety.Participant.Rows.{Part, still, of_status, effects, single, heard, lands, row_test, Landed, landed, row-whole, row_cut, row-single}
use Rattle.joint.proofs.Safety.Participant.Local.{Local, local, Elsewhere, elsewhere_none, Reached, AllProper, reach_effects, reach_down, reach_woken}

-- w is v after something happened at participant suc n, which has at most one unforced record
pub record Middle (t n : ℕ) (v w : View) : Type 0 where
  pub part : Part
  pub reached : Reached t (suc n) v part w
  pub single : T (single part)

-- ---- what is elsewhere stays as it is

module _ (t : ℕ) (v w : View) (g : w.transaction.cohort ≡ v.transaction.cohort) (marks : w.transaction.marked ≡ v.transaction.marked) where
  -- what the site tells is fine
  abbrev FineAt : Presumption → Bool → Stage → Status → Local → Type 0
  FineAt c k m s x = Fine c k m s (λ j. x.sent (message_kind j)) x.entered x.voted

  edge_same : (m : Stage) (j : ℕ) (s : Status) → local (suc j) w ≡ local (suc j) v → Edge m j s v → Edge m j s w
  edge_same m j s e x = rw (g, marks) (subst (FineAt (presumption_of v.transaction.cohort (suc j)) (v.transaction.marked (suc j)) m s) (sym e) x)

  place_same : (b : Bool) (j : ℕ) (s : Status) → local (suc j) w ≡ local (suc j) v → Place b t j s v → Place b t j s w
  place_same true j s e x =
      record { site = rw g (ap (λ (l : Local). l.site) e ∙ x.site); phase = ap (λ (l : Local). l.participant) e ∙ x.phase }
  place_same false j s e x =
      record {
        stable = ap (λ (l : Local). l.site.stable) e ∙ x.stable;
        unforced = ap (λ (l : Local). l.site.unforced) e ∙ x.unforced;
        sent = λ k. ap (λ (l : Local). l.sent (message_kind k)) e ∙ x.sent k;
        entered = λ o. ap (λ (l : Local). l.entered o) e ∙ x.entered o;
      }

  here_same : (b : Bool) (m : Stage) (j : ℕ) → local (suc j) w ≡ local (suc j) v → Here b t m j v → Here b t m j w
  here_same b m j e x =
      record { status = x.status; stands = place_same b j x.status e x.stands; fine = λ k. edge_same m j x.status e (x.fine k) }

-- only participant suc n changes
module _ {t : ℕ} {h : Standing} {v w : View} (inv : Inv t h v) (n : ℕ) where
  pub only_at : Elsewhere (suc n) v w × Here (belongs v.transaction.cohort n) t (stage_of h (suc n)) n w → Inv t h w
  only_at (e, changed) =
      record {
        mid =
            record {
              sound = rw e.cohort inv.mid.sound;
              log = rw e.cohort (ap (λ (l : Local). l.site) (e.rest 0 none) ∙ inv.mid.log);
              entries = λ o k. inv.mid.entries o (subst (λ (l : Local). T (l.entered o)) (e.rest 0 none) k);
              votes = record { looked = λ j u. e.sent (suc j) (message_kind read_only) (inv.mid.votes.looked j u); said = λ j m u. ⊎_elim inl (λ y. inr (e.sent (suc j) (message_kind vote_yes) y)) (inv.mid.votes.said j (subst (λ (g : Cohort). T (belongs g j)) e.cohort m) u) };
              status = λ j. (all j).status;
              stands = λ j. (all j).stands;
              fine = λ j. (all j).fine;
            };
        phase = subst (PhaseAs h) (sym e.coordinator) inv.phase;
        whole = inv.whole;
      }
    where
      none : 0 ≢ suc n
      none q = absurd (omega (arith, q))

      there : (j : ℕ) → eqb j n ≡ false → suc j ≢ suc n
      there j q k = eqb-false j n q (omega (arith, k))

      go : (j : ℕ) (b : Bool) → eqb j n ≡ b → Here (belongs v.transaction.cohort j) t (stage_of h (suc j)) j w
      go j true q = subst (λ (k : ℕ). Here (belongs v.transaction.cohort k) t (stage_of h (suc k)) k w) (sym (eqb-true j n q)) changed
      go j false q = here_same t v w e.cohort e.marked (belongs v.transaction.cohort j) (stage_of h (suc j)) j (e.rest (suc j) (there j q)) (here inv.mid j)

      all : (j : ℕ) → Here (belongs w.transaction.cohort j) t (stage_of h (suc j)) j w
      all j = subst (λ (g : Cohort). Here (belongs g j) t (stage_of h (suc j)) j w) (sym e.cohort) (go j (eqb j n) refl)

-- ---- a member

heard_map : (i : Input) (f g : Message → Bool) → ((m : Message) → T (f m) → T (g m)) → T (heard i f) → T (heard i g)
heard_map begin f g k h = tt
heard_map timer f g k h = tt
heard_map (received m q) f g k h = k m h

-- what is fine stays so, with what is new
module _ {c : Presumption} {k : Bool} {m : Stage} {i : Input} {s : Status} {y : Part} {sent : Message → Bool} {entered : Outcome → Bool} {voted : Bool} where
  fine_after : (l : Landed c k i s y) → T (heard i sent) → Fine c k m s sent entered voted
      → Fine c k m l.status (λ g. y.sent g || sent g) (λ o. y.entered o || entered o) (y.voted || voted)
  fine_after l d f =
      record {
        shape = subst (λ (b : Bool). T (fits c m z b r')) (sym same) (and_left (fits c m z p r') ms both);
        messages =
            λ g u. subst (λ (b : Bool). T (may m z b g)) (sym same)
            (mp (y.sent g || may m s p g) (may m z p g)
            (at_message message (and_right (fits c m z p r') ms both) g)
            (or_map (y.sent g) (sent g) (may m s p g) (f.messages g) u));
        entries =
            λ o u. mp (y.entered o || may_enter m s r o) (may_enter m z r' o)
            (at_outcome enters (and_right (fits c m z p r' && ms) es good) o)
            (or_map (y.entered o) (entered o) (may_enter m s r o) (f.entries o) u);
        counted =
            λ u.
            or_both (sent vote_yes) r (y.sent vote_yes || sent vote_yes) r' (or_right (y.sent vote_yes) (sent vote_yes)) (or_right (y.sent read_only) r) (f.counted u);
        honest = or_both (y.sent vote_yes) (sent vote_yes) y.voted voted l.honest f.honest;
        looked = mp (trail s k (sent vote_yes) r) (trail z k (y.sent vote_yes || sent vote_yes) r') (l.looked (sent vote_yes) r) f.looked;
      }
    where
      z : Status
      z = l.status

      p : Bool
      p = sent prepare

      r : Bool
      r = sent read_only

      r' : Bool
      r' = y.sent read_only || r

      same : (y.sent prepare || p) ≡ p
      same = ap (λ (b : Bool). b || p) l.no_prepare

      message : Message → Bool
      message g = (y.sent g || may m s p g) ⇒ may m z p g

      enters : Outcome → Bool
      enters o = (y.entered o || may_enter m s r o) ⇒ may_enter m z r' o

      ms : Bool
      ms = all_message message

      es : Bool
      es = all_outcome enters

      good : T (fits c m z p r' && ms && es)
      good =
          mp (r ⇒ may m s p read_only) (fits c m z p r' && ms && es)
          (mp (heard i (may m s p)) ((r ⇒ may m s p read_only) ⇒ (fits c m z p r' && ms && es))
          (mp (fits c m s p r) (heard i (may m s p) ⇒ (r ⇒ may m s p read_only) ⇒ (fits c m z p r' && ms && es)) (l.kept m p r) f.shape)
          (heard_map i sent (may m s p) f.messages d)) (to-⇒ r (may m s p read_only) (f.messages read_only))

      both : T (fits c m z p r' && ms)
      both = and_left (fits c m z p r' && ms) es good

fine_same : {c : Presumption} {k : Bool} {m : Stage} {s : Status} {sent sent' : Message → Bool} {entered entered' : Outcome → Bool} {voted voted' : Bool}
    → ((g : Message) → sent' g ≡ sent g) → ((o : Outcome) → entered' o ≡ entered o) → voted' ≡ voted
    → Fine c k m s sent entered voted → Fine c k m s sent' entered' voted'
fine_same {c} {k} {m} {s} {sent} {sent'} {entered} {entered'} {voted} {voted'} a b d x =
    subst (λ (f : Message → Bool). Fine c k m s f entered' voted') (sym (fun_ext a))
    (subst (λ (f : Outcome → Bool). Fine c k m s sent f voted') (sym (fun_ext b)) (subst (Fine c k m s sent entered) (sym d) x))

module _ {t : ℕ} {m : Stage} {n : ℕ} {v : View} where
  pub from_member : (x : Here true t m n v) → Reached t (suc n) v (of_status x.status) v
  from_member x =
      record {
        site = x.stands.site;
        phase = x.stands.phase;
        sent = λ g. refl;
        entered = λ o. refl;
        voted = refl;
        elsewhere = elsewhere_none;
      }

  pub member-after : {w : View} {y : Part} (i : Input) (x : Here true t m n v) → T (heard i (sent_in v (suc n)))
      → T (lands (presumption_of v.transaction.cohort (suc n)) (v.transaction.marked (suc n)) i x.status y) → Reached t (suc n) v y w → Elsewhere (suc n) v w × Here true t m n w
  member-after {w} {y} i x d k r = (
    r.elsewhere,
    record {
      status = l.status;
      stands = record { site = rw r.elsewhere.cohort (r.site ∙ at_status); phase = r.phase ∙ l.reached.phase };
      fine = λ k. rw (r.elsewhere.cohort, r.elsewhere.marked) (fine_same r.sent r.entered r.voted (fine_after l d (x.fine tt)));
    },
  )
    where
      l : Landed (presumption_of v.transaction.cohort (suc n)) (v.transaction.marked (suc n)) i x.status y
      l = landed _ _ i x.status y k

      at_status : site_with v.transaction.cohort 0 t (suc n) y.up y.stable y.unforced
          ≡ site_with v.transaction.cohort 0 t (suc n) (is_up l.status) (stable_kinds l.status) (unforced_kinds l.status)
      at_status = λ a. site_with v.transaction.cohort 0 t (suc n) (l.reached.up a) (l.reached.stable a) (l.reached.unforced a)

  carried_by : (i : Input) (x : Here true t m n v) → T (heard i (sent_in v (suc n))) → (f : ParticipantPhase → Part → Part) (g : View → View)
      → (row : Row ParticipantPhase) → AllProper v.transaction.cohort (suc n) row.effects → ((y : Part) (u : View) → Reached t (suc n) v y u → Reached t (suc n) v (f row.phase y) (g u))
      → T (row_test (presumption_of v.transaction.cohort (suc n)) (v.transaction.marked (suc n)) i x.status f row)
      → (w : View) → Carried t (suc n) row.effects g v w → Elsewhere (suc n) v w × Here true t m n w
  carried_by i x d f g row h reach k w whole =
      member-after i x d (row-whole _ (v.transaction.marked (suc n)) i x.status f row k) (reach _ _ (reach_effects t (suc n) v row.effects h (from_member x)))
  carried_by i x d f g row h reach k w (cut_after a b) =
      member-after i x d (row_cut _ (v.transaction.marked (suc n)) i x.status f row k a b)
      (reach_down t n v b (reach_effects t (suc n) v (take a row.effects) (each_take _ a row.effects h) (from_member x)))

  -- a row of the member, whole or cut
  pub member_carried : {w : View} {row : Row ParticipantPhase} (i : Input) (x : Here true t m n v) → T (heard i (sent_in v (suc n)))
      → AllProper v.transaction.cohort (suc n) row.effects
      → (f : ParticipantPhase → Part → Part) (g : View → View)
      → ((y : Part) (u : View) → Reached t (suc n) v y u → Reached t (suc n) v (f row.phase y) (g u))
      → T (row_test (presumption_of v.transaction.cohort (suc n)) (v.transaction.marked (suc n)) i x.status f row)
      → Carried t (suc n) row.effects g v w → Elsewhere (suc n) v w × Here true t m n w
  member_carried {w = w} {row = row} i x d h f g reach k c = carried_by i x d f g row h reach k w c

  -- in front of each effect of it
  pub member_middle : (row : Row ParticipantPhase) (i : Input) (x : Here true t m n v) → AllProper v.transaction.cohort (suc n) row.effects
      → (f : ParticipantPhase → Part → Part)
      → T (row_test (presumption_of v.transaction.cohort (suc n)) (v.transaction.marked (suc n)) i x.status f row)
      → (a : ℕ) → Middle t n v (view_effects (suc n) t (take a row.effects) v)
  member_middle row i x h f k a =
      record {
        part = effects (take a row.effects) (of_status x.status);
        reached = reach_effects t (suc n) v (take a row.effects) (each_take _ a row.effects h) (from_member x);
        single = row-single _ (v.transaction.marked (suc n)) i x.status f row k a;
      }

-- ---- no member

module _ {t n : ℕ} {v : View} where
  pub from_stranger : {m : Stage} (x : Here false t m n v) → Reached t (suc n) v (still (v.site (suc n)).up (v.transaction.participant (suc n)) [] []) v
  from_stranger x =
      record {
        site = λ i. record { up = (v.site (suc n)).up; stable = x.stands.stable i; unforced = x.stands.unforced i };
        phase = refl;
        sent = λ g. refl;
        entered = λ o. refl;
        voted = refl;
        elsewhere = elsewhere_none;
      }

  pub stranger-after : {w : View} {u : Bool} {x : ParticipantPhase} {ks : List ℕ} → ks ≡ [] → {m : Stage} → Here false t m n v → Reached t (suc n) v (still u x ks []) w
      → Elsewhere (suc n) v w × Here false t m n w
  stranger-after e x r = (
    r.elsewhere,
    record {
      status = x.status;
      stands =
          record {
            stable = ap (λ (z : Site). z.stable) r.site ∙ ap (map _) e;
            unforced = ap (λ (z : Site). z.unforced) r.site;
            sent = λ g. r.sent g ∙ x.stands.sent g;
            entered = λ o. r.entered o ∙ x.stands.entered o;
          };
      fine = λ k. absurd k;
    },
  )

  -- a row without effects
  pub stranger_carried : {w : View} {m : Stage} → Here false t m n v → Carried t (suc n) [] (view_start (suc n) (with_participant (suc n) ParticipantPhase.unknown)) v w
      → Elsewhere (suc n) v w × Here false t m n w
  unfolding view_effects
  stranger_carried x whole = stranger-after refl x (reach_woken t n v ParticipantPhase.unknown (from_stranger x))
  stranger_carried x (cut_after zero b) = stranger-after (survivors_none b) x (reach_down t n v b (from_stranger x))
  stranger_carried x (cut_after (suc a) b) = stranger-after (survivors_none b) x (reach_down t n v b (from_stranger x))

  pub stranger_middle : {m : Stage} → Here false t m n v → (a : ℕ) → Middle t n v (view_effects (suc n) t (take a []) v)
  unfolding view_effects
  stranger_middle x zero = record { part = _; reached = from_stranger x; single = tt }
  stranger_middle x (suc a) = record { part = _; reached = from_stranger x; single = tt }
