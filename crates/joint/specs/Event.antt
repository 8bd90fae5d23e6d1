-- Events: six bytes, code, x, y, z, cut, keep.
use Rattle.std.specs.Prelude.{ℕ, Bool, true, false, not, ◌||◌, List, [], ◌∷◌, length, get_or, eqb, leb}
use Rattle.std.proofs.Math.Option.{Option, none, some}
use Rattle.codec.specs.Lists.{any, every, only_if}
use Rattle.codec.specs.Sets.{part}
use Rattle.site.specs.Step.{Message, prepare, messages}

unfoldable pub event_length : ℕ
event_length = 6

-- in the order of the codes, 0 to 8. t is a transaction, s a site, p a participant
pub data Event : Type 0 where
  opening : (t members presume_commit : ℕ) → Event
  beginning : (t : ℕ) → Event
  delivery : (t p : ℕ) → Message → Event
  timeout : (t s : ℕ) → Event
  forcing : (s : ℕ) → Event
  discarding : (t s : ℕ) → Event
  crash : (s : ℕ) → Event
  restart : (s : ℕ) → Event
  marking : (t p : ℕ) → Event

unfoldable pub event_of : ℕ → ℕ → ℕ → ℕ → Event
event_of code x y z =
    get_or
    (opening x y z
    ∷ beginning x
    ∷ delivery x y (get_or messages z prepare)
    ∷ timeout x y
    ∷ forcing y
    ∷ discarding x y
    ∷ crash y
    ∷ restart y
    ∷ marking x y
    ∷ [])
    code
    -- (a code above 8 is refused)
    (crash y)

-- by code: the largest x, the least and the largest y, the largest z. Unused x, y, z are 0
unfoldable pub ranges : List (List ℕ)
ranges =
    -- 0 open: transaction, members, PC
    (7 ∷ 1 ∷ 255 ∷ 255 ∷ [])
    -- 1 begin: transaction
    ∷ (7 ∷ 0 ∷ 0 ∷ 0 ∷ [])
    -- 2 deliver: transaction, participant, kind
    ∷ (7 ∷ 1 ∷ 8 ∷ 7 ∷ [])
    -- 3 timer: transaction, site
    ∷ (7 ∷ 0 ∷ 8 ∷ 0 ∷ [])
    -- 4 force: site in y
    ∷ (0 ∷ 0 ∷ 8 ∷ 0 ∷ [])
    -- 5 discard: transaction, site
    ∷ (7 ∷ 0 ∷ 8 ∷ 0 ∷ [])
    -- 6 crash: site in y
    ∷ (0 ∷ 0 ∷ 8 ∷ 0 ∷ [])
    -- 7 restart: site in y
    ∷ (0 ∷ 0 ∷ 8 ∷ 0 ∷ [])
    -- 8 mark (02: a box that only looked): transaction, participant
    ∷ (7 ∷ 1 ∷ 8 ∷ 0 ∷ [])
    ∷ []

-- at open z is a part of y
unfoldable pub bytes_in_range : ℕ → ℕ → ℕ → ℕ → Bool
bytes_in_range code x y z =
    let row = get_or ranges code [] in
    every
    (leb code 8
    ∷ leb x (get_or row 0 0)
    ∷ leb (get_or row 1 0) y
    ∷ leb y (get_or row 2 0)
    ∷ leb z (get_or row 3 0)
    ∷ (not (eqb code 0) || part z y)
    ∷ [])

-- Cut is 255 for none; a smaller one stands on codes 1, 2, 3, 7. Keep is 0 but on a cut or a crash
unfoldable pub cut_in_range : ℕ → ℕ → ℕ → Bool
cut_in_range code cut keep =
    every
    (leb cut 255
    ∷ leb keep 255
    ∷ (eqb cut 255 || any (eqb code) (1 ∷ 2 ∷ 3 ∷ 7 ∷ []))
    ∷ (eqb keep 0 || not (eqb cut 255) || eqb code 6)
    ∷ [])

-- where power goes: after so many effects, and which unforced records are kept. A crash is an event of no effects, cut there
unfoldable pub cut_at : Bool → Bool → ℕ → ℕ → Option (ℕ × ℕ)
cut_at true uncut n keep = some (0, keep)
cut_at false true n keep = none
cut_at false false n keep = some (n, keep)

unfoldable pub cut_of : ℕ → ℕ → ℕ → Option (ℕ × ℕ)
cut_of code cut keep = cut_at (eqb code 6) (eqb cut 255) cut keep

pub record Parsed : Type 0 where
  pub event : Event
  pub cut : Option (ℕ × ℕ)

-- `none`: refused by 1, not six bytes, code above 8, a field out of range or misused
unfoldable pub parse : List ℕ → Option Parsed
parse bytes =
    let code = get_or bytes 0 0 in
    let x = get_or bytes 1 0 in
    let y = get_or bytes 2 0 in
    let z = get_or bytes 3 0 in
    let cut = get_or bytes 4 0 in
    let keep = get_or bytes 5 0 in
    only_if
    (every (eqb (length bytes) event_length ∷ bytes_in_range code x y z ∷ cut_in_range code cut keep ∷ []))
    (record { event = event_of code x y z; cut = cut_of code cut keep })
