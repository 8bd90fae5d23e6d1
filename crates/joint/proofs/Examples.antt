-- Demand 3 speaks of something: lists of events on which commit is entered, abort is entered, and the replies of its third sentence are sent. K1 and K2 are clean runs.
use Prim.Native.Nat.{ℕ}
use mathlib.Core.Path.{◌≡◌, refl}
use mathlib.Core.Bool.{Bool, not, ◌&&◌}
use mathlib.Core.List.{List, [], ◌∷◌}
use lib.Dec.{T}
use Rattle.codec.specs.Lists.{any, all, every}
use Rattle.codec.specs.Sets.{member}
use Rattle.codec.specs.Laws.Tests.{and_left, and_right}
use Rattle.site.specs.Presumption.{Outcome, commit, abort}
use Rattle.site.specs.Cohort.{Cohort}
use Rattle.site.specs.Coordinator.{CoordinatorPhase, initial, collecting, awaiting_acks}
use Rattle.joint.specs.State.{fresh}
use Rattle.joint.specs.Run.{after}
use Rattle.joint.specs.Drill.{events_in}
use Rattle.joint.specs.Safety.{Moment, moments, happened, history, leaves, along, enters, sends, is_entry, is_entry_at, is_reply, is_vote, in_doubt, commit_stable, outcome, steps, accepts, collects, is_taking_out, taken_out, is_marking, marked, Happens}
use Rattle.joint.specs.Bill.{opens_with, begins, delivers, serving}
use Rattle.codec.specs.Open.{codec_opens}
use Rattle.site.specs.Open.{site_opens}
use Rattle.joint.proofs.Open.{joint_opens}
use Rattle.joint.proofs.Cases.{hex}
use Rattle.joint.proofs.Base.Moments.{any_placed}
use Rattle.joint.proofs.Demand3.{is_unknown}

-- what the theorems by computation below open
unfoldable safety_opens : Unit {0}
unfolding codec_opens site_opens joint_opens is_entry_at moments happened history leaves along enters sends is_entry is_reply is_vote in_doubt commit_stable outcome steps accepts collects is_taking_out taken_out is_marking marked
safety_opens = tt

-- ---- moments that pass a test

-- P holds of a moment of the list
abbrev pub Some : List (List ℕ) → (Moment → Type 0) → Type 0
Some es P = (earlier : List Moment) × (m : Moment) × Happens es earlier m × P m

some_passes : (es : List (List ℕ)) (f : Moment → Bool) (P : Moment → Type 0) → ((m : Moment) → T (f m) → P m) → T (any f (history fresh es)) → Some es P
some_passes es f P holds h =
    let x = any_placed f es h in
    (x.0, x.1, x.2, holds x.1 x.3)

-- ---- commit and abort are entered, at the coordinator and at two participants, of which 1 presumes abort and 2 commit

-- outcome o of transaction 0 is entered at site s
abbrev pub entered : List (List ℕ) → Outcome → ℕ → Bool
entered es o s = any (is_entry_at 0 s o) (history fresh es)

-- abort: the coordinator's timer ends the wait for votes
abbrev pub entering : Outcome → List (List ℕ)
entering commit =
    events_in (hex "00 00 03 02 FF 00 / 01 00 00 00 FF 00 / 02 00 01 00 FF 00 / 02 00 02 00 FF 00 / 02 00 01 01 FF 00 / 02 00 02 01 FF 00 / 02 00 01 03 FF 00 / 02 00 02 03 FF 00")
entering abort =
    events_in (hex "00 00 03 02 FF 00 / 01 00 00 00 FF 00 / 03 00 00 00 FF 00 / 02 00 01 04 FF 00 / 02 00 02 04 FF 00")

pub commit_entered : T (all (entered (entering commit) commit) (0 ∷ 1 ∷ 2 ∷ []))
unfolding safety_opens
commit_entered = tt

pub abort_entered : T (all (entered (entering abort) abort) (0 ∷ 1 ∷ 2 ∷ []))
unfolding safety_opens
abort_entered = tt

-- `votes` asks something: commit is entered in a run in which 1 and 2 are members
abbrev pub both_members : Moment → Bool
both_members m = all (λ p. member p (m.before.transaction 0).cohort.members) (1 ∷ 2 ∷ [])

pub votes_met : Some (entering commit) (λ m. T (is_entry 0 commit m) × T (both_members m))
votes_met =
    some_passes (entering commit) (λ m. is_entry 0 commit m && both_members m) (λ m. T (is_entry 0 commit m) × T (both_members m))
    (λ m h. (and_left (is_entry 0 commit m) (both_members m) h, and_right (is_entry 0 commit m) (both_members m) h))
    (unfold safety_opens in tt)

-- ---- a commit without a participant that only looked

-- 2 is marked, and its read-only vote is the last that was missing: commit is entered, 1 has voted and 2 was taken out
abbrev pub looking : List (List ℕ)
looking =
    events_in (hex "00 00 03 01 FF 00 / 01 00 00 00 FF 00 / 02 00 01 00 FF 00 / 02 00 01 01 FF 00 / 08 00 02 00 FF 00 / 02 00 02 00 FF 00 / 02 00 02 07 FF 00")

pub looked_commits : T (every (entered looking commit 0 ∷ taken_out looking 0 2 ∷ marked looking 0 2 ∷ not (taken_out looking 0 1) ∷ not (marked looking 0 1) ∷ not (any (is_vote 0 2) (history fresh looking)) ∷ []))
unfolding safety_opens
looked_commits = tt

-- its record 2 names 1 alone
pub looked_record : ((after fresh looking).site 0).stable ≡ record { kind = 1; transaction = 0; fields = 3 ∷ 1 ∷ [] } ∷ record { kind = 2; transaction = 0; fields = 1 ∷ 1 ∷ [] } ∷ []
unfolding safety_opens
looked_record = refl

-- ---- each outcome is told by a coordinator in Unknown to a participant in doubt

-- commit: all members presume commit, so the coordinator is soon in Unknown, and participant 1 sends its Yes again
-- abort: participant 1 presumes abort and has voted, and the coordinator loses power before it decides
abbrev replying : Outcome → List (List ℕ)
replying commit =
    events_in (hex "00 00 01 01 FF 00 / 01 00 00 00 FF 00 / 02 00 01 00 FF 00 / 02 00 01 01 FF 00 / 03 00 01 00 FF 00 / 02 00 01 01 FF 00")
replying abort =
    events_in (hex "00 00 01 00 FF 00 / 01 00 00 00 FF 00 / 02 00 01 00 FF 00 / 06 00 00 00 FF 00 / 07 00 00 00 FF 00 / 02 00 01 01 FF 00")

-- what `replies` asks of a moment, for transaction 0 and participant 1
abbrev pub Replied : Outcome → Moment → Type 0
Replied o m = T (is_reply 0 1 o m) × ((m.start.transaction 0).coordinator.phase ≡ CoordinatorPhase.unknown) × T (in_doubt m.start 0 1)

is_unknown_lem : (c : CoordinatorPhase) → T (is_unknown c) → c ≡ CoordinatorPhase.unknown
is_unknown_lem initial h = absurd h
is_unknown_lem (collecting w) h = absurd h
is_unknown_lem (awaiting_acks o w) h = absurd h
is_unknown_lem CoordinatorPhase.unknown h = refl

replied : Outcome → Moment → Bool
replied o m = is_reply 0 1 o m && (is_unknown (m.start.transaction 0).coordinator.phase && in_doubt m.start 0 1)

is_replied : (o : Outcome) (m : Moment) → T (replied o m) → Replied o m
unfolding replied
is_replied o m h =
    let unknown = is_unknown (m.start.transaction 0).coordinator.phase in
    let doubt = in_doubt m.start 0 1 in
    let k = and_right (is_reply 0 1 o m) (unknown && doubt) h in
    (and_left (is_reply 0 1 o m) (unknown && doubt) h, is_unknown_lem _ (and_left unknown doubt k), and_right unknown doubt k)

reply_found : (o : Outcome) → T (any (replied o) (history fresh (replying o)))
unfolding safety_opens replied
reply_found commit = tt
reply_found abort = tt

reply_outcome : (o : Outcome) → outcome (replying o) 0 ≡ o
unfolding safety_opens
reply_outcome commit = refl
reply_outcome abort = refl

pub replies_met : (o : Outcome) → (es : List (List ℕ)) × Some es (Replied o) × (outcome es 0 ≡ o)
replies_met o = (replying o, some_passes (replying o) (replied o) (Replied o) (is_replied o) (reply_found o), reply_outcome o)

-- ---- the clean run that `serving` makes: K1 where the one member presumes commit, K2 where it presumes abort

abbrev pub served_with : Cohort → List (List ℕ)
served_with g = opens_with 0 g ∷ serving 0 g

pub serves_K1 : served_with (record { members = 1; presume_commit = 1 }) ≡ events_in (hex "00 00 01 01 FF 00 / 01 00 00 00 FF 00 / 02 00 01 00 FF 00 / 02 00 01 01 FF 00 / 02 00 01 03 FF 00")
unfolding safety_opens opens_with begins delivers serving
serves_K1 = refl

pub serves_K2 : served_with (record { members = 1; presume_commit = 0 })
    ≡ events_in (hex "00 00 01 00 FF 00 / 01 00 00 00 FF 00 / 02 00 01 00 FF 00 / 02 00 01 01 FF 00 / 02 00 01 03 FF 00 / 02 00 01 05 FF 00")
unfolding safety_opens opens_with begins delivers serving
serves_K2 = refl
