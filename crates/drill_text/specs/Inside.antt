-- What the program's inner functions promise each other. No reader has to believe it: proofs/ shows what it has to do with 01.
use Rattle.std.specs.Prelude.{ℕ, ◌+◌, ◌/◌, ◌≤◌, ◌≡◌, length}
use Rattle.std.specs.Simd.{first_chunks}
use mathlib.Core.List.{List, [], ◌∷◌, ◌++◌, map, flatten}
use Rattle.codec.specs.Image.{stored}
use Rattle.codec.specs.Lists.{select}
use Rattle.codec.specs.Sets.{participants}
use Rattle.joint.specs.State.{Run, opened}
use Rattle.joint.specs.Plan.{transactions}
use Rattle.joint.specs.Totals.{Totals}
use Rattle.joint.specs.Drill.{line, entry_letter, transaction_line, totals_line}
use Rattle.drill_text.specs.declared.text.Text.{Text}

-- there is room for x behind a text
abbrev pub Room : Text → List ℕ → Type 0
Room t x = t.end + length x ≤ length t.bytes.now

-- x was written behind a text, in the same lent buffer
pub record Pushed (old new : Text) (x : List ℕ) : Type 0 where
  pub same : new.bytes.ghost_name ≡ old.bytes.ghost_name
  pub bytes : new.bytes.now ≡ stored old.end x old.bytes.now
  pub end : new.end ≡ old.end + length x

-- the lines of answers of four numbers each, the first of them that of event n
unfoldable pub lines_from : ℕ → List (List ℕ) → List ℕ
lines_from n [] = []
lines_from n (a ∷ rest) = line 5 (n ∷ a) ++ lines_from (n + 1) rest

-- a letter for each site
unfoldable pub letters : Run → ℕ → List ℕ
letters r t = map (entry_letter (r.transaction t)) (0 ∷ participants)

-- the opened transactions, and their lines
abbrev pub opened_in : Run → List ℕ
opened_in r = select (opened r) transactions

abbrev pub transaction_lines : Run → List ℕ
transaction_lines r = flatten (map (transaction_line r) (opened_in r))

-- the sites, and their lines
abbrev pub sites : List ℕ
sites = 0 ∷ participants

abbrev pub site_lines : (ℕ → Totals) → List ℕ → List ℕ
site_lines f ss = flatten (map (λ s. totals_line (f s)) ss)

-- the lines of answers of four bytes each, of a run's opened transactions, and of the sites
abbrev pub text_of : List ℕ → Run → (ℕ → Totals) → List ℕ
text_of bytes r f = lines_from 1 (first_chunks 4 (length bytes / 4) bytes) ++ (transaction_lines r ++ site_lines f sites)
