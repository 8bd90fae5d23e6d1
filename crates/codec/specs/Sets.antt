-- Sets of participants (01: boxes) as masks: bit p - 1 is participant p. The participants are 1 to 8.
use Rattle.std.specs.Prelude.{ℕ, ◌+◌, ◌-◌, ◌*◌, ◌/◌, ◌%◌, ◌^◌, Bool, cond, not, ◌&&◌, ◌||◌, List, [], ◌∷◌, eqb}
use Rattle.codec.specs.Lists.{select}

unfoldable pub participants : List ℕ
participants = 1 ∷ 2 ∷ 3 ∷ 4 ∷ 5 ∷ 6 ∷ 7 ∷ 8 ∷ []

-- no number outside 1 to 8 is a member of a mask that is a byte
unfoldable pub member : ℕ → ℕ → Bool
member p mask = eqb (2 * mask / 2 ^ p % 2) 1

unfoldable pub empty : ℕ → Bool
empty mask = eqb mask 0

-- the members of a mask, lowest first
unfoldable pub listed : ℕ → List ℕ
listed mask = select (λ p. member p mask) participants

unfoldable pub bits : (ℕ → Bool) → List ℕ → ℕ
bits f [] = 0
bits f (p ∷ ps) = cond (f p) (2 ^ (p - 1)) 0 + bits f ps

-- the mask of the participants that pass a test: all other sets are made by it
unfoldable pub those : (ℕ → Bool) → ℕ
those f = bits f participants

-- the set of one participant
unfoldable pub only : ℕ → ℕ
only q = those λ p. eqb p q

unfoldable pub without : ℕ → ℕ → ℕ
without q mask = those λ p. member p mask && not (eqb p q)

unfoldable pub both : ℕ → ℕ → ℕ
both a b = those λ p. member p a && member p b

-- the members of a or of b
unfoldable pub either : ℕ → ℕ → ℕ
either a b = those λ p. member p a || member p b

-- the members of a that are not in b
unfoldable pub minus : ℕ → ℕ → ℕ
minus a b = those λ p. member p a && not (member p b)

-- a is a part of b
unfoldable pub part : ℕ → ℕ → Bool
part a b = eqb (both a b) a
