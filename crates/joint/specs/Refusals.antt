-- The refusals 2 to 7 of a well formed event, in rising number. (1 is `parse` of Event; 8 is `carry_plan` and 9 `cut_short` of Run.)
use Rattle.std.specs.Prelude.{ℕ, Bool, not, List, [], ◌∷◌}
use Rattle.codec.specs.Lists.{any}
use Rattle.codec.specs.Sets.{listed}
use Rattle.site.specs.Step.{message_kind, receiver}
use Rattle.joint.specs.State.{Run, opened, takes_part}
use Rattle.joint.specs.Event.{Event, opening, beginning, delivery, timeout, forcing, discarding, crash, restart, marking}

-- 3: never opened
unfoldable pub unopened : Run → ℕ → Bool
unopened r t = not (opened r t)

-- 4: participant no member
unfoldable pub stranger : Run → ℕ → ℕ → Bool
stranger r t s = not (takes_part (r.transaction t) s)

-- 5: needed site down
unfoldable pub is_down : Run → ℕ → Bool
is_down r s = not (r.site s).up

-- 2: opened before; 6: restart of a site that is up; 7: message never sent
unfoldable pub refusals : Run → Event → List (ℕ × Bool)
refusals r (opening t M C) = (2, opened r t) ∷ (5, any (is_down r) (0 ∷ listed M)) ∷ []
refusals r (beginning t) = (3, unopened r t) ∷ (5, is_down r 0) ∷ []
refusals r (delivery t p m) =
    (3, unopened r t) ∷ (4, stranger r t p) ∷ (5, is_down r (receiver m p)) ∷ (7, not ((r.transaction t).sent p (message_kind m))) ∷ []
refusals r (timeout t s) = (3, unopened r t) ∷ (4, stranger r t s) ∷ (5, is_down r s) ∷ []
refusals r (forcing s) = (5, is_down r s) ∷ []
refusals r (discarding t s) = (3, unopened r t) ∷ (4, stranger r t s) ∷ (5, is_down r s) ∷ []
refusals r (crash s) = (5, is_down r s) ∷ []
refusals r (restart s) = (6, (r.site s).up) ∷ []
refusals r (marking t p) = (3, unopened r t) ∷ (4, stranger r t p) ∷ (5, is_down r p) ∷ []
