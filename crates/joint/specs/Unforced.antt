-- At no time does a site have more than eight unforced records (02, Job 6): a claim about every list of events of any bytes. So a byte names them all.
use Rattle.std.specs.Prelude.{ℕ, ◌≤◌, ◌≡◌, Bool, true, cond, List, [], ◌∷◌, ◌++◌, length}
use Rattle.codec.specs.Lists.{select}
use Rattle.codec.specs.Records.{LogRecord, of_transaction}
use Rattle.joint.specs.State.{Run, fresh, survivors, may_keep}
use Rattle.joint.specs.Safety.{along}

-- r is the run at a moment of the list: at its start, after an effect, so between the effects of a row too, or after an event
unfoldable pub Passes : List (List ℕ) → Run → Type 0
Passes es r = (earlier : List Run) × (later : List Run) × (along fresh es ≡ earlier ++ r ∷ later)

-- those records that are wanted, by a Boolean for each
unfoldable pub wanted : List Bool → List LogRecord → List LogRecord
wanted [] xs = []
wanted (b ∷ bs) [] = []
wanted (b ∷ bs) (x ∷ xs) = cond b (x ∷ wanted bs xs) (wanted bs xs)

-- whichever of the records are to survive, there is a keep that is a byte, is allowed, and keeps just those
abbrev pub Named : List LogRecord → Type 0
Named xs = (bs : List Bool) → length bs ≡ length xs → (keep : ℕ) × (keep ≤ 255) × (may_keep keep xs ≡ true) × (survivors keep xs ≡ wanted bs xs)

pub record Few (unforced : List LogRecord) : Type 0 where
  -- at most one of a transaction, so at most eight, and a byte names them all
  pub single : (t : ℕ) → length (select (of_transaction t) unforced) ≤ 1
  pub eight : length unforced ≤ 8
  pub named : Named unforced

-- at every moment of every list of events, at every site
abbrev pub EveryMoment : Type 0
EveryMoment = (events : List (List ℕ)) (r : Run) → Passes events r → (s : ℕ) → Few (r.site s).unforced
