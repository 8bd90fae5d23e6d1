-- Boolean tests over all values of the finite types, and what a passed test says of each value.
use mathlib.Core.Bool.{Bool, true, false, ◌&&◌}
use mathlib.Core.List.{List, [], ◌∷◌}
use Prim.Native.Nat.{ℕ, zero, suc}
use lib.ListN.{get_or}
use lib.Dec.{T}
use Rattle.codec.specs.Laws.Tests.{and_left, and_right}
use Rattle.site.specs.Presumption.{Outcome, commit, abort, Presumption, presumed_abort, presumed_commit}
use Rattle.site.specs.Step.{Message, prepare, vote_yes, vote_no, read_only, tell, ack}
use Rattle.joint.proofs.Safety.Tables.{Status, working, prepared, gone, half, lone, shut, off, off_voted, off_shut, Stage, fresh, asking, done}

-- ---- the n-th of tests that all hold

-- the codec's `every`, which does not compute in a test by itself, as an abbreviation; `look` is its `every_at`
abbrev pub all_of : List Bool → Bool
all_of [] = true
all_of (b ∷ l) = b && all_of l

-- behind the last there are only tests that hold
abbrev pub nth : ℕ → List Bool → Bool
nth n l = get_or l n true

pub look : (n : ℕ) (l : List Bool) → T (all_of l) → T (nth n l)
look n [] t = tt
look zero (b ∷ l) t = and_left b (all_of l) t
look (suc n) (b ∷ l) t = look n l (and_right b (all_of l) t)

-- ---- the types

abbrev pub all_bool : (Bool → Bool) → Bool
all_bool f = all_of (f false ∷ f true ∷ [])

pub at_bool : (f : Bool → Bool) → T (all_bool f) → (b : Bool) → T (f b)
at_bool f t false = look 0 (f false ∷ f true ∷ []) t
at_bool f t true = look 1 (f false ∷ f true ∷ []) t

abbrev pub all_outcome : (Outcome → Bool) → Bool
all_outcome f = all_of (f commit ∷ f abort ∷ [])

pub at_outcome : (f : Outcome → Bool) → T (all_outcome f) → (o : Outcome) → T (f o)
at_outcome f t commit = look 0 (f commit ∷ f abort ∷ []) t
at_outcome f t abort = look 1 (f commit ∷ f abort ∷ []) t

abbrev pub all_presumption : (Presumption → Bool) → Bool
all_presumption f = all_of (f presumed_abort ∷ f presumed_commit ∷ [])

pub at_presumption : (f : Presumption → Bool) → T (all_presumption f) → (c : Presumption) → T (f c)
at_presumption f t presumed_abort = look 0 (f presumed_abort ∷ f presumed_commit ∷ []) t
at_presumption f t presumed_commit = look 1 (f presumed_abort ∷ f presumed_commit ∷ []) t

abbrev statuses : (Status → Bool) → List Bool
statuses f =
    f working
    ∷ f prepared
    ∷ f gone
    ∷ f lone
    ∷ f off
    ∷ f off_voted
    ∷ all_outcome (λ o. f (half o))
    ∷ all_outcome (λ o. all_bool (λ b. f (shut o b)))
    ∷ all_outcome (λ o. all_bool (λ b. f (off_shut o b)))
    ∷ []

abbrev pub all_status : (Status → Bool) → Bool
all_status f = all_of (statuses f)

pub at_status : (f : Status → Bool) → T (all_status f) → (s : Status) → T (f s)
at_status f t working = look 0 (statuses f) t
at_status f t prepared = look 1 (statuses f) t
at_status f t gone = look 2 (statuses f) t
at_status f t lone = look 3 (statuses f) t
at_status f t off = look 4 (statuses f) t
at_status f t off_voted = look 5 (statuses f) t
at_status f t (half o) = at_outcome (λ o. f (half o)) (look 6 (statuses f) t) o
at_status f t (shut o b) = at_bool (λ b. f (shut o b)) (at_outcome (λ o. all_bool (λ b. f (shut o b))) (look 7 (statuses f) t) o) b
at_status f t (off_shut o b) = at_bool (λ b. f (off_shut o b)) (at_outcome (λ o. all_bool (λ b. f (off_shut o b))) (look 8 (statuses f) t) o) b

abbrev stages : (Stage → Bool) → List Bool
stages f = f fresh ∷ all_bool (λ w. f (asking w)) ∷ all_outcome (λ o. all_bool (λ u. f (done o u))) ∷ []

abbrev pub all_stage : (Stage → Bool) → Bool
all_stage f = all_of (stages f)

pub at_stage : (f : Stage → Bool) → T (all_stage f) → (m : Stage) → T (f m)
at_stage f t fresh = look 0 (stages f) t
at_stage f t (asking w) = at_bool (λ w. f (asking w)) (look 1 (stages f) t) w
at_stage f t (done o u) = at_bool (λ u. f (done o u)) (at_outcome (λ o. all_bool (λ u. f (done o u))) (look 2 (stages f) t) o) u

abbrev message_tests : (Message → Bool) → List Bool
message_tests f = f prepare ∷ f vote_yes ∷ f vote_no ∷ f read_only ∷ all_outcome (λ o. f (tell o)) ∷ all_outcome (λ o. f (ack o)) ∷ []

abbrev pub all_message : (Message → Bool) → Bool
all_message f = all_of (message_tests f)

pub at_message : (f : Message → Bool) → T (all_message f) → (g : Message) → T (f g)
at_message f t prepare = look 0 (message_tests f) t
at_message f t vote_yes = look 1 (message_tests f) t
at_message f t vote_no = look 2 (message_tests f) t
at_message f t read_only = look 3 (message_tests f) t
at_message f t (tell o) = at_outcome (λ o. f (tell o)) (look 4 (message_tests f) t) o
at_message f t (ack o) = at_outcome (λ o. f (ack o)) (look 5 (message_tests f) t) o
