-- One event: it is read, decided, and stored in the run's arrays.
use Prim.Native.Nat.{ℕ, zero, suc, ◌+◌, ◌≤◌, ◌<◌}
use mathlib.Core.Path.{◌≡◌, refl, sym, ap, ◌∙◌}
use mathlib.Core.Bool.{Bool, true, false, cond, not, ◌||◌}
use mathlib.Core.List.{List}
use mathlib.Core.Option.{Option, none, some}
use Rattle.std.specs.Prelude.{Result, Ok, Err}
use lib.ListN.{length, take, get_or, set, length-take}
use lib.Seq.{get_or-set_same, get_or-set_other}
use lib.Dec.{eqb}
use native.Mathlib.Omega.{arith}
use borrow.Author.Tests.{eqb-true, eqb-false, leb-true}
use Rattle.codec.specs.Lists.{first, select}
use Rattle.codec.specs.declared.record.Record.{Record}
use Rattle.site.specs.Answers.{effects_in}
use Rattle.joint.specs.State as plain
use Rattle.joint.specs.State.{update, perform_all}
use Rattle.joint.specs.Event as events
use Rattle.joint.specs.Event.{parse, Parsed}
use Rattle.joint.specs.Refusals.{refusals}
use Rattle.joint.specs.Plan.{Plan, plan, acting}
use Rattle.joint.specs.Run.{event, event_parsed, carry_unless, carry_plan, carry, cut_short, can_cut, refuse, answer_of, count, is_append, is_force, is_send}
use Rattle.joint.specs.Safety.{happened}
use Rattle.joint.specs.Totals as totals
use Rattle.joint.specs.Totals.{forces_at}
use Rattle.joint.specs.Program.{has_room, room_parsed, room_for, room_for_plan, Adds}
use Rattle.joint.specs.Answers.{site_from, no_records, transactions_in, run_in, forces_in, refusal_number, number_of, Answer, accepted, answer_in, Seen, seen}
use Rattle.joint.specs.Inside.{transaction_after, counted, size, Fits, then_in, then_transaction, goes_down, row_site, plan_in, taken, restarted_in}
use Rattle.joint.specs.declared.answers.Counts.{Counts}
use Rattle.joint.specs.declared.answers.Refusal.{Refusal}
use Rattle.joint.specs.declared.sites.Site.{Site}
use Rattle.joint.specs.declared.records.Records.{Records}
use Rattle.joint.specs.declared.records.SiteLog.{SiteLog}
use Rattle.joint.specs.declared.rows.Row.{Row}
use Rattle.joint.specs.declared.restarts.Restarted.{Restarted}
use Rattle.joint.specs.declared.run.Run.{Run}
use Rattle.joint.proofs.Base.Lists.{select-take, among}
use Rattle.joint.proofs.Base.Plans.{All, site_of}
use Rattle.joint.proofs.Base.Forces.{held-sum, none-forced, event-forces}
use Rattle.joint.proofs.Base.Placed.{run_path, acting-counted}
use Rattle.joint.proofs.Engine.Reads.{site_at, get_or-within, site_read, counts_stored, site-stored}
use Rattle.joint.proofs.Engine.Refused.{refused_by, refuse-seen}
use Rattle.joint.proofs.Engine.Rows.{forgotten_if, row_happens}
use Rattle.joint.proofs.Engine.Replays.{adds_none}

-- ---- the run's arrays, and the records of site s, are whole

pub record Full (r : Run) (s : ℕ) : Type 0 where
  pub nine : length r.sites ≡ 9
  pub logs : length r.records ≡ 9
  pub whole : length (get_or r.records s no_records).of ≡ 24
  pub eight : length r.transactions ≡ 8
  pub counters : length r.forces ≡ 9

-- ---- an event

-- an event of answer n leaves `next`, and its forces are counted there
abbrev pub Turned : Run → List ℕ → Answer → Run → Type 0
Turned run x n next =
    (record { answer = answer_in n; run = run_in next } ≡ seen (event (run_in run) x)) × Adds (forces_in run) (happened (run_in run) x) (forces_in next)

-- ---- its forces

-- none is made, and nothing is counted
pub turned_unforced : (run next : Run) (x : List ℕ) (n : Answer) → (answer_in n).forces ≡ 0 → next.forces ≡ run.forces
    → record { answer = answer_in n; run = run_in next } ≡ seen (event (run_in run) x) → Turned run x n next
unfolding seen forces_in
turned_unforced run next x n h same e =
    let unforced : (answer_of (event (run_in run) x)).forces ≡ 0 = sym (ap (λ (v : Seen). v.answer.forces) e) ∙ h in
    (e, λ s. ap (λ (l : List ℕ). totals.held (get_or l s 0)) same ∙ adds_none run (happened (run_in run) x) (λ s. none-forced (run_in run) x s unforced) s)

-- a refusal
pub turned_refused : (run : Run) (x : List ℕ) (e : Refusal) → refused_by (number_of e) (run_in run) ≡ seen (event (run_in run) x) → Turned run x (Err e) run
unfolding answer_in refusal_number
turned_refused run x e h = turned_unforced run run x (Err e) refl refl h

-- those in the answer are counted at the event's site
pub turned_at : (run next : Run) (x : List ℕ) (n : Answer) (p : Parsed) → parse x ≡ some p → (z : ℕ) → z < length run.forces → z ≡ site_of p.event
    → (d m : ℕ) → next.forces ≡ set run.forces z (totals.held (get_or run.forces z d + m)) → m ≡ (answer_in n).forces
    → record { answer = answer_in n; run = run_in next } ≡ seen (event (run_in run) x) → Turned run x n next
unfolding seen forces_in
turned_at run next x n p parsed z low own d m counted forces e = (e, adds)
  where
    adds : (s : ℕ) → totals.held (get_or next.forces s 0) ≡ totals.held (totals.held (get_or run.forces s 0) + forces_at s (happened (run_in run) x))
    adds s = go (eqb z s) refl
      where
        there : forces_at s (happened (run_in run) x) ≡ cond (eqb z s) m 0
        there = event-forces (run_in run) x p parsed s ∙ ap (λ (y : ℕ). cond (eqb y s) (answer_of (event (run_in run) x)).forces 0) (sym own) ∙ ap (λ (k : ℕ). cond (eqb z s) k 0) (ap (λ (v : Seen). v.answer.forces) (sym e) ∙ sym forces)

        go : (b : Bool) → eqb z s ≡ b → totals.held (get_or next.forces s 0) ≡ totals.held (totals.held (get_or run.forces s 0) + forces_at s (happened (run_in run) x))
        go true q =
            rw (there, q, counted, ← eqb-true z s q, get_or-set_same run.forces z _ 0 low, get_or-within run.forces z 0 d low, held-sum)
            (unfold totals.held totals.highest in omega arith)
        go false q = rw (there, q, counted, get_or-set_other run.forces z s _ 0 (λ h. eqb-false z s q (sym h)), held-sum) (unfold totals.held totals.highest in omega arith)

-- ---- an event read

module _ (w : plain.Run) (x : List ℕ) where
  pub malformed_seen : parse x ≡ none → refused_by 1 w ≡ seen (event w x)
  unfolding event event_parsed
  malformed_seen e = sym (ap (λ (p : Option Parsed). seen (event_parsed w p)) e ∙ refuse-seen w 1)

  module _ (p : Parsed) (e : parse x ≡ some p) where
    pub parsed_seen : taken w p.event p.cut ≡ seen (event w x)
    unfolding event event_parsed taken
    parsed_seen = sym (ap (λ (p : Option Parsed). seen (event_parsed w p)) e)

    pub parsed_room : has_room w x ≡ true → room_for w p.event ≡ true
    unfolding has_room room_parsed
    parsed_room h = sym (ap (room_parsed w) e) ∙ h

-- ---- a refusal changes nothing

pub refusal_keeps : (w : plain.Run) (e : events.Event) (c : Option (ℕ × ℕ)) (n : ℕ) → (taken w e c).answer.number ≡ suc n → (taken w e c).run ≡ w
unfolding taken event_parsed seen answer_of carry_unless carry_plan carry cut_short refuse
refusal_keeps w e c n = unless (first (refusals w e))
  where
    cut_keeps : (b : Bool) (p : Plan) (a k : ℕ) → (cut_short b w p a k).answer ≡ suc n → (cut_short b w p a k).run ≡ w
    cut_keeps true p a k q = absurd (omega (arith, q))
    cut_keeps false p a k q = refl

    carried : (p : Plan) (c : Option (ℕ × ℕ)) → (carry w p c).answer ≡ suc n → (carry w p c).run ≡ w
    carried p none q = absurd (omega (arith, q))
    carried p (some c) q = cut_keeps (can_cut w p c.0 c.1) p c.0 c.1 q

    planned : (o : Option Plan) → (carry_plan w o c).answer ≡ suc n → (carry_plan w o c).run ≡ w
    planned none q = refl
    planned (some p) q = carried p c q

    unless : (m : ℕ) → (carry_unless m w (record { event = e; cut = c })).answer ≡ suc n → (carry_unless m w (record { event = e; cut = c })).run ≡ w
    unless zero q = planned (plan w e) q
    unless (suc m) q = refl

-- ---- a row that happens has room

-- the acts of an event's plan are at site s
module _ (w : plain.Run) (s : ℕ) (small : size (w.site s) ≤ 24) where
  held_none : (n : ℕ) → size (w.site s) + count is_append (refuse w n).acts ≤ 24
  unfolding refuse count select
  held_none n = omega (arith, small)

  module _ (p : Plan) (own : p.site ≡ s) (room : room_for_plan w (some p) ≡ true) where
    held_all : size (w.site s) + count is_append p.acts ≤ 24
    unfolding room_for_plan size
    held_all = leb-true _ 24 (rw own at room)

    held_first : (n : ℕ) → size (w.site s) + count is_append (take n p.acts) ≤ 24
    unfolding count
    held_first n =
        let f : plain.Act → Bool = λ a. is_append a.effect in
        omega (arith, held_all, ap length (select-take f n p.acts), length-take (among f n p.acts) (select f p.acts))

    held_cut : (b : Bool) (n k : ℕ) → size (w.site s) + count is_append (cut_short b w p n k).acts ≤ 24
    unfolding cut_short
    held_cut true n k = held_first n
    held_cut false n k = held_none 9

    held_carried : (c : Option (ℕ × ℕ)) → size (w.site s) + count is_append (carry w p c).acts ≤ 24
    unfolding carry
    held_carried none = held_all
    held_carried (some c) = held_cut (can_cut w p c.0 c.1) c.0 c.1

  held-planned : (o : Option Plan) (c : Option (ℕ × ℕ)) → All (λ p. p.site ≡ s) o → room_for_plan w o ≡ true → size (w.site s) + count is_append (carry_plan w o c).acts ≤ 24
  unfolding carry_plan
  held-planned none c h r = held_none 8
  held-planned (some p) c h r = held_carried p h r c

  -- what an event appends
  held-taken : (e : events.Event) (c : Option (ℕ × ℕ)) → All (λ p. p.site ≡ s) (plan w e) → room_for w e ≡ true → size (w.site s) + (taken w e c).answer.records ≤ 24
  unfolding taken event_parsed seen answer_of room_for carry_unless
  held-taken e c h r = unless (first (refusals w e)) r
    where
      unless : (m : ℕ) → (not (eqb m 0) || room_for_plan w (plan w e)) ≡ true → size (w.site s) + count is_append (carry_unless m w (record { event = e; cut = c })).acts ≤ 24
      unless zero r = held-planned (plan w e) c h r
      unless (suc m) r = held_none (suc m)

  pub row_fits : (t : ℕ) (x : Row) (e : events.Event) (c : Option (ℕ × ℕ)) → seen (carry w (plan_in s t x) none) ≡ taken w e c
      → All (λ p. p.site ≡ s) (plan w e) → room_for w e ≡ true → Fits (effects_in t x.effects) (w.site s)
  unfolding carry seen answer_of
  row_fits t x e c q h r =
      omega (arith, held-taken e c h r, ap (λ (v : Seen). v.answer.records) q, acting-counted t is_append (effects_in t x.effects))

-- ---- a row happens: what is stored

module _ (w : plain.Run) (s t : ℕ) (x : Row) where
  pub happens_seen : (n : Counts) (f : ℕ → plain.Site) (g : ℕ → plain.Transaction)
      → (n.records ≡ counted is_append (effects_in t x.effects)) × ((n.forces ≡ counted is_force (effects_in t x.effects)) × (n.sends ≡ counted is_send (effects_in t x.effects)))
      → f ≡ update s (λ _. row_site t x (w.site s)) w.site
      → g ≡ forgotten_if (goes_down x.then) s (update t (λ _. then_transaction s x.then (transaction_after s (effects_in t x.effects) (w.transaction t))) w.transaction)
      → ◌≡◌ {A = Seen} (record { answer = accepted n; run = record { site = f; transaction = g } }) (seen (carry w (plan_in s t x) none))
  unfolding seen answer_of carry row_site
  happens_seen n f g c p q =
      let es = effects_in t x.effects in
      let same : ◌≡◌ {A = plain.Run} (record { site = f; transaction = g }) (then_in s t x.then (perform_all s (acting t es) w)) = run_path p q ∙ sym (row_happens s t x.then es w) in
      λ i. record {
        answer =
            record {
              number = 0;
              records = (c.0 ∙ sym (acting-counted t is_append es)) i;
              forces = (c.1.0 ∙ sym (acting-counted t is_force es)) i;
              sends = (c.1.1 ∙ sym (acting-counted t is_send es)) i;
            };
        run = same i;
      }

-- ---- a restart: one site with its records, and all transactions, are stored, if it is accepted

module _ (r : Run) (nine : length r.sites ≡ 9) (logs : length r.records ≡ 9) (s : ℕ) (low : s ≤ 8) (d : Site) (e : Records) (a : Result Restarted Refusal) (ev : events.Event) (cut : Option (ℕ × ℕ))
    (promise : (x : plain.Run) → site_from (get_or r.sites s d) (get_or r.records s e).of ≡ x.site s → transactions_in r.transactions ≡ x.transaction
    → restarted_in s x a ≡ taken x ev cut) where
  restarts : {b : Result Restarted Refusal} → a ≡ b → restarted_in s (run_in r) b ≡ taken (run_in r) ev cut
  unfolding run_in
  restarts q = rw q at promise (run_in r) (site_read r s d e nine logs low) refl

  pub restart-stored : (forces : List ℕ) (c : Restarted) → a ≡ Ok c
      → ◌≡◌ {A = Seen} (record { answer = record { number = 0; records = 0; forces = 0; sends = c.sends }; run = run_in (record { sites = set r.sites s c.log.site; records = set r.records s c.log.records; transactions = c.transactions; forces = forces }) }) (taken (run_in r) ev cut)
  unfolding restarted_in run_in
  restart-stored forces c q =
      (λ i. record { answer = record { number = 0; records = 0; forces = 0; sends = c.sends }; run = record { site = site-stored r.sites r.records s c.log.site nine low c.log.records logs i; transaction = transactions_in c.transactions } })
      ∙ restarts q

  pub restart-refused : (x : Refusal) → a ≡ Err x → refused_by (number_of x) (run_in r) ≡ taken (run_in r) ev cut
  unfolding restarted_in
  restart-refused x q = restarts q

-- ---- a row's site is stored: with its records, or its counts alone

module _ (r : Run) (s : ℕ) (f : Full r s) (low : s ≤ 8) (d : Site) (t : ℕ) (x : Row) where
  pub log-stored : (e : Records) (y : SiteLog)
      → (Fits (effects_in t x.effects) (site_from (get_or r.sites s d) (get_or r.records s e).of) → site_from y.site y.records.of ≡ row_site t x (site_from (get_or r.sites s d) (get_or r.records s e).of))
      → Fits (effects_in t x.effects) ((run_in r).site s)
      → site_at (set r.sites s y.site) (set r.records s y.records) ≡ update s (λ _. row_site t x ((run_in r).site s)) (run_in r).site
  unfolding run_in
  log-stored e y after fits =
      let own = site_read r s d e f.nine f.logs low in
      site-stored r.sites r.records s y.site f.nine low y.records f.logs
      ∙ ap (λ (a : plain.Site). update s (λ _. a) (site_at r.sites r.records)) (after (rw own fits) ∙ ap (row_site t x) own)

  pub site_settled : (y : Site) → ((rs : List Record) (t : ℕ) → length rs ≡ 24 → site_from y rs ≡ row_site t x (site_from (get_or r.sites s d) rs))
      → site_at (set r.sites s y) r.records ≡ update s (λ _. row_site t x ((run_in r).site s)) (run_in r).site
  unfolding run_in
  site_settled y after =
      counts_stored r.sites r.records s y f.nine low
      ∙ ap (λ (a : plain.Site). update s (λ _. a) (site_at r.sites r.records))
      (after (get_or r.records s no_records).of t f.whole ∙ ap (row_site t x) (site_read r s d no_records f.nine f.logs low))
