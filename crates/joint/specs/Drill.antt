-- What the drill program writes: its output as bytes, from its input as bytes.
use Rattle.std.specs.Prelude.{ℕ, zero, suc, ◌+◌, ◌-◌, ◌/◌, ◌%◌, Bool, true, false, cond, length, take, drop, leb, ltb}
use Prim.Native.Char.{code}
use Prim.Native.String.{String}
use mathlib.Core.List.{List, [], ◌∷◌, ◌++◌, map, flatten}
use Rattle.codec.specs.Lists.{select}
use Rattle.codec.specs.Sets.{participants}
use Rattle.codec.specs.Image.{stored, Written}
use Rattle.site.specs.Presumption.{commit, abort}
use Rattle.joint.specs.State.{Run, Transaction, fresh, opened}
use Rattle.joint.specs.Event.{event_length}
use Rattle.joint.specs.Plan.{transactions}
use Rattle.joint.specs.Run.{Answer, after, answers}
use Rattle.joint.specs.Totals.{Totals, totals}

-- ---- input

-- n events; the last may be broken
unfoldable pub chunks : ℕ → List ℕ → List (List ℕ)
chunks zero bytes = []
chunks (suc n) bytes = take event_length bytes ∷ chunks n (drop event_length bytes)

unfoldable pub events_of : List ℕ → List (List ℕ)
events_of bytes = chunks ((length bytes + (event_length - 1)) / event_length) bytes

-- the first 60,000 bytes and no more
unfoldable pub events_in : List ℕ → List (List ℕ)
events_in input = events_of (take 60000 input)

-- ---- replay: the answers to a list of events in a lent buffer, and the run that it leaves

-- an answer in four bytes
unfoldable pub answer_bytes : Answer → List ℕ
answer_bytes a = a.number ∷ a.records ∷ a.forces ∷ a.sends ∷ []

-- how many events were run, the run that they leave with the totals of each site, and what the buffer holds then
pub record Replayed : Type 0 where
  pub count : ℕ
  pub run : Run
  pub totals : ℕ → Totals
  pub buffer : List ℕ

-- no event is run where the buffer is too short for all answers
unfoldable pub replayed : List ℕ → List ℕ → Replayed
replayed bytes buffer =
    let events = events_of bytes in
    let told = flatten (map answer_bytes (answers fresh events)) in
    cond (leb (length told) (length buffer))
    (record { count = length events; run = after fresh events; totals = totals events; buffer = stored 0 told buffer })
    (record { count = 0; run = fresh; totals = totals []; buffer = buffer })

-- ---- output

unfoldable pub space : ℕ
space = 32

unfoldable pub newline : ℕ
newline = 10

-- the decimal digits of a number below 10 ^ (k + 1), without leading zeros
unfoldable pub decimal : ℕ → ℕ → List ℕ
decimal zero n = (48 + n % 10) ∷ []
decimal (suc k) n = elim (ltb n 10) [ true ↦ (48 + n) ∷ [] | false ↦ decimal k (n / 10) ++ ((48 + n % 10) ∷ []) ]

-- numbers below 10 ^ (k + 1) with one space between, and a newline
unfoldable pub line : ℕ → List ℕ → List ℕ
line k [] = newline ∷ []
line k (n ∷ []) = decimal k n ++ (newline ∷ [])
line k (n ∷ m ∷ ns) = decimal k n ++ space ∷ line k (m ∷ ns)

-- a line for each event: its number from n, answer, records, forces, sends
unfoldable pub event_lines : ℕ → List Answer → List ℕ
event_lines n [] = []
event_lines n (a ∷ rest) = line 5 (n ∷ a.number ∷ a.records ∷ a.forces ∷ a.sends ∷ []) ++ event_lines (n + 1) rest

-- the bytes of an ASCII text
unfoldable pub ascii : String → List ℕ
ascii String.[] = []
ascii (String.◌∷◌ c s) = code c ∷ ascii s

-- C, A, X (both) or - (no entry)
unfoldable pub letter : Bool → Bool → ℕ
letter true false = 67
letter false true = 65
letter true true = 88
letter false false = 45

-- what site s has entered
unfoldable pub entry_letter : Transaction → ℕ → ℕ
entry_letter x s = letter (x.entered s commit) (x.entered s abort)

-- a line for an opened transaction: the word HANDOVER, its number, and a letter for each site
unfoldable pub transaction_line : Run → ℕ → List ℕ
transaction_line r t =
    ascii "HANDOVER" ++ space ∷ decimal 0 t ++ space ∷ map (entry_letter (r.transaction t)) (0 ∷ participants) ++ (newline ∷ [])

-- a line for a site: forces, handovers, quotient, remainder. A number of 64 bits is below 10 ^ 20
unfoldable pub totals_line : Totals → List ℕ
totals_line x = line 19 (x.forces ∷ x.handovers ∷ x.quotient ∷ x.remainder ∷ [])

unfoldable pub drill : List ℕ → List ℕ
drill input =
    let events = events_in input in
    let r = after fresh events in
    event_lines 1 (answers fresh events)
    ++ (flatten (map (transaction_line r) (select (opened r) transactions))
    ++ flatten (map (λ s. totals_line (totals events s)) (0 ∷ participants)))

-- a text at the front of a lent buffer, and its length; where the buffer is too short, 0 and the buffer as it was
unfoldable pub text_into : List ℕ → List ℕ → Written
text_into text buffer =
    cond (leb (length text) (length buffer)) (record { answer = length text; buffer = stored 0 text buffer }) (record { answer = 0; buffer = buffer })

unfoldable pub drill_into : List ℕ → List ℕ → Written
drill_into input buffer = text_into (drill input) buffer
