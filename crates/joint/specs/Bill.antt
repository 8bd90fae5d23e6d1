-- Job 7 of 02, the bill: what a clean run of a transaction is, and what its own events then cost. A claim about every such list of events.
use Rattle.std.specs.Prelude.{ℕ, ◌+◌, ◌-◌, ◌*◌, ◌<◌, ◌≡◌, Bool, true, false, cond, not, ◌&&◌, ◌||◌, length, take, get_or, T, eqb}
use mathlib.Core.List.{List, [], ◌∷◌, ◌++◌, map, flatten}
use Rattle.codec.specs.Lists.{select, any, all, every, same}
use Rattle.codec.specs.Sets.{member, empty, listed, part}
use Rattle.site.specs.Presumption.{commit, abort}
use Rattle.site.specs.Cohort.{Cohort, owing}
use Rattle.site.specs.Step.{Message, prepare, vote_yes, tell, ack, message_kind}
use Rattle.site.specs.Coordinator.{CoordinatorPhase}
use Rattle.joint.specs.State.{Run, fresh, names, cohort_at, coordinator_at}
use Rattle.joint.specs.Run.{event, after, Answer, answers}
use Rattle.joint.specs.Safety.{history, steps, accepts, is_entry, is_entry_at, is_sending}
use Rattle.joint.specs.Totals.{sum}

-- ---- the bill

pub record Bill : Type 0 where
  pub records : ℕ
  pub forces : ℕ
  pub sends : ℕ

-- how many participants a set has
unfoldable pub size : ℕ → ℕ
size mask = length (listed mask)

-- 1 if there are any
unfoldable pub one_if : ℕ → ℕ
one_if k = cond (eqb k 0) 0 1

-- n members, c of them presume commit (02: PrC), a do not
unfoldable pub bill : Cohort → Bill
bill g =
    let n = size g.members in
    let c = size g.presume_commit in
    let a = n - c in
    record { records = 2 * n + 1 + one_if c + one_if a; forces = n + a + 1 + one_if c; sends = 3 * n + a }

-- as a call answers it: 1 if there are no members, or PC is no part of them
unfoldable pub bill_for : ℕ → ℕ → Answer
bill_for members pc =
    let b = bill (record { members = members; presume_commit = pc }) in
    cond (not (empty members) && part pc members)
    (record { number = 0; records = b.records; forces = b.forces; sends = b.sends })
    (record { number = 1; records = 0; forces = 0; sends = 0 })

-- the same as one number: its four bytes, the lowest first
unfoldable pub bill_number : Answer → ℕ
bill_number a = a.number + 256 * (a.records + 256 * (a.forces + 256 * a.sends))

-- ---- the counts of a transaction's own events

-- an event of transaction t: it is opened, begun, a message of it is delivered, its timer, a discard or a mark of it
unfoldable pub is_own : ℕ → List ℕ → Bool
is_own t e = any (λ code. same (take 2 e) (code ∷ t ∷ [])) (0 ∷ 1 ∷ 2 ∷ 3 ∷ 5 ∷ 8 ∷ [])

-- of the answers to a list of events those to t's own
unfoldable pub own_answers : ℕ → List (List ℕ) → List Answer → List Answer
own_answers t [] given = []
own_answers t (e ∷ es) [] = []
own_answers t (e ∷ es) (a ∷ given) = cond (is_own t e) (a ∷ own_answers t es given) (own_answers t es given)

unfoldable pub add_up : List Answer → Bill
add_up given = record { records = sum (map (λ a. a.records) given); forces = sum (map (λ a. a.forces) given); sends = sum (map (λ a. a.sends) given) }

-- ---- a clean run: `before` is any list, then t is opened with the cohort g, and `rest` follows

unfoldable pub opens_with : ℕ → Cohort → List ℕ
opens_with t g = 0 ∷ t ∷ g.members ∷ g.presume_commit ∷ 255 ∷ 0 ∷ []

-- an accepted begin of t
unfoldable pub is_begin : ℕ → Run × List ℕ → Bool
is_begin t x = every (same (take 2 x.1) (1 ∷ t ∷ []) ∷ accepts x.0 x.1 ∷ [])

-- an accepted delivery of a message of t of kind k, to participant p or from it
unfoldable pub is_delivery : ℕ → ℕ → ℕ → Run × List ℕ → Bool
is_delivery t p k x = every (same (take 4 x.1) (2 ∷ t ∷ p ∷ k ∷ []) ∷ accepts x.0 x.1 ∷ [])

-- a crash, or an event that is cut
unfoldable pub loses_power : List ℕ → Bool
loses_power e = eqb (get_or e 0 0) 6 || not (eqb (get_or e 4 0) 255)

-- what is not clean: an accepted timer, discard or mark of t; at the coordinator or a member an accepted crash or cut
unfoldable pub disturbs : ℕ → ℕ → Run × List ℕ → Bool
disturbs t members x =
    accepts x.0 x.1
    && (any (λ code. same (take 2 x.1) (code ∷ t ∷ [])) (3 ∷ 5 ∷ 8 ∷ []) || (names members (event x.0 x.1).site && loses_power x.1))

module _ (before : List (List ℕ)) (t : ℕ) (g : Cohort) (rest : List (List ℕ)) where
  abbrev pub whole : List (List ℕ)
  whole = before ++ opens_with t g ∷ rest

  -- the run just after the opening
  abbrev pub opening : Run
  opening = (event (after fresh before) (opens_with t g)).run

  -- the coordinator and the members are up and t is opened, it is begun, and each message sent is delivered once
  pub record Served : Type 0 where
    pub opens : T (accepts (after fresh before) (opens_with t g))
    -- the coordinator coordinates all members
    pub level : cohort_at (opening.transaction t) 0 ≡ g
    pub begun : T (any (is_begin t) (steps opening rest))
    -- (no message is of anyone but a member)
    pub delivered : (p k : ℕ) → T (member p g.members) → length (select (is_delivery t p k) (steps opening rest)) ≡ cond (any (is_sending t p k) (history fresh whole)) 1 0

  pub record Clean : Type 0 where
    pub served : Served
    pub undisturbed : any (disturbs t g.members) (steps opening rest) ≡ false

  -- ---- the claim

  pub record Billed : Type 0 where
    -- it commits everywhere, and nobody aborts it
    pub commits : (s : ℕ) → T (names g.members s) → T (any (is_entry_at t s commit) (history fresh whole))
    pub unaborted : any (is_entry t abort) (history fresh whole) ≡ false
    -- and the coordinator has forgotten it
    pub forgets : (coordinator_at ((after fresh whole).transaction t) 0).phase ≡ CoordinatorPhase.unknown
    -- the counts of its own events; those before its opening are refused
    pub costs : add_up (own_answers t whole (answers fresh whole)) ≡ bill g

-- every clean run
abbrev pub EveryBill : Type 0
EveryBill = (before : List (List ℕ)) (t : ℕ) (g : Cohort) (rest : List (List ℕ)) → Clean before t g rest → Billed before t g rest

-- ---- 02's own sentence

-- no timer, crash, cut, force or discard, whichever transaction or site it is of, and no mark of t
unfoldable pub is_quiet : ℕ → List ℕ → Bool
is_quiet t e = every (not (any (eqb (get_or e 0 0)) (3 ∷ 4 ∷ 5 ∷ 6 ∷ [])) ∷ eqb (get_or e 4 0) 255 ∷ not (same (take 2 e) (8 ∷ t ∷ [])) ∷ [])

abbrev pub AsWritten : Type 0
AsWritten = (before : List (List ℕ)) (t : ℕ) (g : Cohort) (rest : List (List ℕ)) → Served before t g rest → T (all (is_quiet t) rest) → Billed before t g rest

-- ---- there are such runs: wherever t is opened, and it can be opened with every members and PC

-- one of them, for each cohort: begin, and then Prepare is delivered to each member, each one's Yes, Commit to each, and each ack that is owed
unfoldable pub begins : ℕ → List ℕ
begins t = 1 ∷ t ∷ 0 ∷ 0 ∷ 255 ∷ 0 ∷ []

unfoldable pub delivers : ℕ → Message → ℕ → List ℕ
delivers t m p = 2 ∷ t ∷ p ∷ message_kind m ∷ 255 ∷ 0 ∷ []

unfoldable pub serving : ℕ → Cohort → List (List ℕ)
serving t g =
    let everyone = listed g.members in
    begins t
    ∷ flatten
    (map (delivers t prepare) everyone
    ∷ map (delivers t vote_yes) everyone
    ∷ map (delivers t (tell commit)) everyone
    ∷ map (delivers t (ack commit)) (listed (owing g commit))
    ∷ [])

abbrev pub CanServe : Type 0
CanServe =
    (before : List (List ℕ)) (t : ℕ) (g : Cohort) → T (accepts (after fresh before) (opens_with t g))
    → Served before t g (serving t g) × T (all (is_quiet t) (serving t g))

abbrev pub CanOpen : Type 0
CanOpen = (t M C : ℕ) → t < 8 → M < 256 → empty M ≡ false → part C M ≡ true → T (accepts fresh (opens_with t (record { members = M; presume_commit = C })))
