-- What a planner sees: the lines HANDOVER of the drill's text, for every input of any bytes.
use Rattle.std.specs.Prelude.{ℕ, ◌≡◌, Bool, cond, not, ◌&&◌, List, [], ◌∷◌, map, length, take, drop, T, eqb}
use Rattle.codec.specs.Lists.{select, any, all, every, same}
use Rattle.codec.specs.Sets.{participants}
use Rattle.site.specs.Presumption.{commit, abort}
use Rattle.joint.specs.State.{fresh, opened}
use Rattle.joint.specs.Plan.{transactions}
use Rattle.joint.specs.Run.{after}
use Rattle.joint.specs.Safety.{Moment, history, is_entry_at}
use Rattle.joint.specs.Drill.{events_in, newline, ascii, letter, drill}

-- ---- a text as lines

-- b in front of the first line
unfoldable pub in_front : ℕ → List (List ℕ) → List (List ℕ)
in_front b [] = (b ∷ []) ∷ []
in_front b (l ∷ ls) = (b ∷ l) ∷ ls

-- the lines of a text, without their newlines
unfoldable pub lines : List ℕ → List (List ℕ)
lines [] = []
lines (b ∷ bytes) = cond (eqb b newline) ([] ∷ lines bytes) (in_front b (lines bytes))

-- a line that begins with HANDOVER
unfoldable pub is_handover : List ℕ → Bool
is_handover l = same (take (length (ascii "HANDOVER")) l) (ascii "HANDOVER")

-- its letters: what stands behind that word, a space, the transaction's digit and a space
unfoldable pub letters : List ℕ → List ℕ
letters l = drop 11 l

-- ---- the claim

-- no X, and not both C and A
unfoldable pub one_outcome : List ℕ → Bool
one_outcome l = every (not (any (eqb 88) l) ∷ not (any (eqb 67) l && any (eqb 65) l) ∷ [])

-- the letter of site s for transaction t, by the entries that happened
unfoldable pub letter_of : List Moment → ℕ → ℕ → ℕ
letter_of h t s = letter (any (is_entry_at t s commit) h) (any (is_entry_at t s abort) h)

pub record Screen (input : List ℕ) : Type 0 where
  -- there is a line for each opened transaction, and its letters are what happened
  pub shown :
      let h = history fresh (events_in input) in
      map letters (select is_handover (lines (drill input)))
      ≡ map (λ t. map (letter_of h t) (0 ∷ participants)) (select (opened (after fresh (events_in input))) transactions)
  -- no line HANDOVER holds an X, and none holds both a C and an A
  pub agreed : T (all (λ l. one_outcome (letters l)) (select is_handover (lines (drill input))))

-- every input, of any bytes
abbrev pub EveryScreen : Type 0
EveryScreen = (input : List ℕ) → Screen input
