-- Demand 3: a claim about every list of events of any bytes. The words are those of 01, "Its words mean this".
-- Nothing here reads the run's own entries or messages: the history is made from the list of events, effect by effect.
use Rattle.std.specs.Prelude.{ℕ, ◌≡◌, Bool, true, false, cond, not, ◌&&◌, ◌||◌, List, [], ◌∷◌, ◌++◌, map, take, T, eqb}
use Rattle.codec.specs.Lists.{any, every, same}
use Rattle.codec.specs.Sets.{member}
use Rattle.codec.specs.Records.{LogRecord, members_in}
use Rattle.site.specs.Presumption.{Outcome, commit, abort, same_outcome}
use Rattle.site.specs.Step.{vote_yes, read_only, tell, message_kind, coordinator_of, Effect, append, force, enter, send}
use Rattle.site.specs.Coordinator.{CoordinatorPhase}
use Rattle.joint.specs.State.{Run, Act, fresh, coordinator_at, holds, perform}
use Rattle.joint.specs.Run.{event, after}

-- ---- history

-- an effect that happened: its event, the run just before that event, the run just before the effect, the site and the effect
pub record Moment : Type 0 where
  pub event : List ℕ
  pub start : Run
  pub before : Run
  pub site : ℕ
  pub act : Act

-- acts in turn at site s, the first of them in the run x
unfoldable pub moments : List ℕ → Run → ℕ → List Act → Run → List Moment
moments e r s [] x = []
moments e r s (a ∷ rest) x =
    record { event = e; start = r; before = x; site = s; act = a } ∷ moments e r s rest (perform s a.transaction a.effect x)

-- the effects of an event that happened; a refused one has none
unfoldable pub happened : Run → List ℕ → List Moment
happened r e =
    let x = event r e in
    moments e r x.site x.acts r

unfoldable pub history : Run → List (List ℕ) → List Moment
history r [] = []
history r (e ∷ es) = happened r e ++ history (event r e).run es

-- the run that an effect leaves
unfoldable pub leaves : Moment → Run
leaves m = perform m.site m.act.transaction m.act.effect m.before

-- the run at every moment of the list: at its start, after each effect, after each event
unfoldable pub along : Run → List (List ℕ) → List Run
along r [] = r ∷ []
along r (e ∷ es) = r ∷ map leaves (happened r e) ++ along (event r e).run es

-- ---- entries, votes, outcomes, replies

unfoldable pub enters : Outcome → Effect → Bool
enters o (append k fs) = false
enters o force = false
enters o (enter d) = same_outcome o d
enters o (send m p) = false

-- a message of kind k, to participant p or from it
unfoldable pub sends : ℕ → ℕ → Effect → Bool
sends k p (append j fs) = false
sends k p force = false
sends k p (enter d) = false
sends k p (send m q) = eqb k (message_kind m) && eqb p q

-- an entry: outcome o of transaction t is entered, at whichever site
unfoldable pub is_entry : ℕ → Outcome → Moment → Bool
is_entry t o m = every (eqb m.act.transaction t ∷ enters o m.act.effect ∷ [])

-- the same at site s
unfoldable pub is_entry_at : ℕ → ℕ → Outcome → Moment → Bool
is_entry_at t s o m = eqb m.site s && is_entry t o m

-- a message of transaction t of kind k, to participant p or from it, is sent
unfoldable pub is_sending : ℕ → ℕ → ℕ → Moment → Bool
is_sending t p k m = every (eqb m.act.transaction t ∷ sends k p m.act.effect ∷ [])

-- participant p votes Yes on t from a stable record: it sends a Yes while its stable log holds its record 5 of t
unfoldable pub is_vote : ℕ → ℕ → Moment → Bool
is_vote t p m =
    every
    (eqb m.site p
    ∷ eqb m.act.transaction t
    ∷ sends (message_kind vote_yes) p m.act.effect
    ∷ holds t 5 (m.before.site p).stable
    ∷ [])

-- a reply: upon p's delivered Yes on t the site that coordinates p sends it the outcome o
unfoldable pub is_reply : ℕ → ℕ → Outcome → Moment → Bool
is_reply t p o m =
    every
    (same (take 4 m.event) (2 ∷ t ∷ p ∷ message_kind vote_yes ∷ [])
    ∷ eqb m.site (coordinator_of p)
    ∷ eqb m.act.transaction t
    ∷ sends (message_kind (tell o)) p m.act.effect
    ∷ [])

-- in its stable log p has voted on t and has no outcome
unfoldable pub in_doubt : Run → ℕ → ℕ → Bool
in_doubt r t p =
    let log = (r.site p).stable in
    every (holds t 5 log ∷ not (holds t 6 log) ∷ not (holds t 7 log) ∷ [])

-- site 0's record 2 of t is stable
unfoldable pub commit_stable : ℕ → Run → Bool
commit_stable t r = holds t 2 (r.site 0).stable

-- the outcome of t: commit if site 0's record 2 of it was stable at any moment of the list, trimmed since or not, else abort
unfoldable pub outcome : List (List ℕ) → ℕ → Outcome
outcome es t = cond (any (commit_stable t) (along fresh es)) commit abort

-- ---- those that only looked

-- the events of a list, each with the run that it gets
unfoldable pub steps : Run → List (List ℕ) → List (Run × List ℕ)
steps r [] = []
steps r (e ∷ es) = (r, e) ∷ steps (event r e).run es

unfoldable pub accepts : Run → List ℕ → Bool
accepts r e = eqb (event r e).answer 0

unfoldable pub collects : CoordinatorPhase → Bool
collects CoordinatorPhase.initial = false
collects (CoordinatorPhase.collecting w) = true
collects (CoordinatorPhase.awaiting_acks o w) = false
collects CoordinatorPhase.unknown = false

-- p is taken out of t: its read-only vote is delivered to the site that coordinates it, in Collecting
unfoldable pub is_taking_out : ℕ → ℕ → Run × List ℕ → Bool
is_taking_out t p x =
    every
    (same (take 4 x.1) (2 ∷ t ∷ p ∷ message_kind read_only ∷ [])
    ∷ accepts x.0 x.1
    ∷ collects (coordinator_at (x.0.transaction t) (coordinator_of p)).phase
    ∷ [])

unfoldable pub taken_out : List (List ℕ) → ℕ → ℕ → Bool
taken_out es t p = any (is_taking_out t p) (steps fresh es)

-- p is marked on t as one that only looked: an accepted event 8
unfoldable pub is_marking : ℕ → ℕ → Run × List ℕ → Bool
is_marking t p x = every (same (take 3 x.1) (8 ∷ t ∷ p ∷ []) ∷ accepts x.0 x.1 ∷ [])

unfoldable pub marked : List (List ℕ) → ℕ → ℕ → Bool
marked es t p = any (is_marking t p) (steps fresh es)

-- ---- the claim

-- m is a moment of the list, and `earlier` are the moments before it
unfoldable pub Happens : List (List ℕ) → List Moment → Moment → Type 0
Happens es earlier m = (later : List Moment) × (history fresh es ≡ earlier ++ m ∷ later)

pub record Safe (es : List (List ℕ)) : Type 0 where
  -- no transaction is both committed and aborted anywhere
  pub agreement : (t : ℕ) → T (any (is_entry t commit) (history fresh es)) → T (any (is_entry t abort) (history fresh es)) → ⊥
  -- commit is entered nowhere before every member, but those whose read-only vote was delivered in Collecting, had voted Yes from a stable record
  -- (said of each list, so of the one that ends with the entry's event: the vote was delivered by then)
  pub votes : (earlier : List Moment) (m : Moment) → Happens es earlier m
      → (t : ℕ) → T (is_entry t commit m)
      → (p : ℕ) → T (member p (m.before.transaction t).cohort.members) → T (any (is_vote t p) earlier || taken_out es t p)
  -- each reply from a coordinator in Unknown to a participant in doubt is the outcome; both are taken just before the event
  pub replies : (earlier : List Moment) (m : Moment) → Happens es earlier m
      → (t p : ℕ) (o : Outcome) → T (is_reply t p o m)
      → (coordinator_at (m.start.transaction t) (coordinator_of p)).phase ≡ CoordinatorPhase.unknown → T (in_doubt m.start t p) → o ≡ outcome es t

-- every list of events, of any bytes
abbrev pub Demand3 : Type 0
Demand3 = (events : List (List ℕ)) → Safe events

-- ---- what follows of those that were marked

pub record Marks (es : List (List ℕ)) : Type 0 where
  -- the second sentence by marks: every member that no accepted event 8 had marked had voted Yes from a stable record
  pub votes : (earlier : List Moment) (m : Moment) → Happens es earlier m
      → (t : ℕ) → T (is_entry t commit m)
      → (p : ℕ) → T (member p (m.before.transaction t).cohort.members) → T (any (is_vote t p) earlier || marked es t p)
  -- the members of a stable record 2 are exactly those never marked
  pub remain : (before : List LogRecord) (x : LogRecord) (later : List LogRecord) → ((after fresh es).site 0).stable ≡ before ++ x ∷ later → x.kind ≡ 2
      → (p : ℕ) → member p (members_in x) ≡ (member p ((after fresh es).transaction x.transaction).cohort.members && not (marked es x.transaction p))

abbrev pub EveryMark : Type 0
EveryMark = (events : List (List ℕ)) → Marks events
