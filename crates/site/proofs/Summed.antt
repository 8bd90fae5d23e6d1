-- The numbers of a row as firmware gets them. Assumes nothing.
use mathlib.Core.Path.{◌≡◌, refl, ap, sym, ◌∙◌}
use mathlib.Core.Bool.{Bool, true, false, cond, not, ◌&&◌, ◌||◌}
use mathlib.Core.Logic.{◌⊎◌, inl, inr}
use mathlib.Core.List.{List, [], ◌∷◌, ◌++◌, map}
use Prim.Native.Nat.{ℕ, zero, suc, ◌+◌, ◌-◌, ◌*◌, ◌/◌, ◌%◌, ◌<◌, ◌≤◌}
use native.Mathlib.Omega.{arith}
use lib.ListN.{get_or}
use lib.Dec.{eqb, leb, eqb→eq}
use lib.Pow.{pow_pos}
use borrow.Author.Tests.{eqb-true, ne_eqb, leb-true, lt-leb}
use Rattle.codec.specs.Laws.Tests.{below_at}
use Rattle.codec.specs.Laws.Listed.{weight, weight_listed}
use Rattle.site.specs.Presumption.{Outcome, commit, abort}
use Rattle.site.specs.Step.{Message, prepare, messages, message_kind, Effect, append, force, enter, send, given}
use Rattle.site.specs.Coordinator.{ordered}
use Rattle.site.specs.Numbers.{appending, Summary, outcome_number, summary_behind, summary_from, summary, entry_of, row_values, row_read}
use Rattle.site.specs.Answers.{fields_by, sending, effects_in}
use Rattle.site.specs.Laws.Order.{order_adds}
use Rattle.site.specs.Laws.Parts.{five}
use Rattle.site.specs.declared.effects.Effects.{Effects}
use Rattle.site.proofs.Sent.{kind_known}

-- one of two numbers
pub chosen : (b : Bool) (x y r : ℕ) → ((b ≡ true) × (r ≡ x)) ⊎ ((b ≡ false) × (r ≡ y)) → r ≡ cond b x y
chosen b x y r (inl h) = rw h.0 h.1
chosen b x y r (inr h) = rw h.0 h.1

-- ---- the set that a list of participants is

weight_adds : (l m : List ℕ) → weight (l ++ m) ≡ weight l + weight m
weight_adds [] m = omega arith
weight_adds (p ∷ l) m = omega (arith, weight_adds l m)

pub weight_ordered : (t first to : ℕ) → to < 256 → weight (ordered t first to) ≡ to
weight_ordered t first to h = order_adds weight weight_adds t first to ∙ weight_listed to h

-- ---- a row in five parts: record, force, entry, messages of one kind, record

abbrev pub row_of : ℕ → List ℕ → Bool → ℕ → Message → List ℕ → ℕ → List ℕ → List Effect
row_of k fs f n m ps l ls = appending k fs ++ (given f (force ∷ []) ++ (entry_of n ++ (map (send m) ps ++ appending l ls)))

abbrev pub kind_of : Message → List ℕ → ℕ
kind_of m [] = 0
kind_of m (p ∷ ps) = message_kind m

abbrev pub numbers_of : ℕ → ℕ → Bool → ℕ → Message → List ℕ → Summary
numbers_of k l f n m ps = record { first = k; last = l; forced = cond f 1 0; entered = n; message = kind_of m ps; to = weight ps }

-- behind the first effect

sum-last : (l : ℕ) (ls : List ℕ) → summary_behind (appending l ls) ≡ numbers_of 0 l false 0 prepare []
unfolding summary_behind appending
sum-last zero ls = refl
sum-last (suc l) ls = refl

sum-sends : (m : Message) (ps : List ℕ) (l : ℕ) (ls : List ℕ) → summary_behind (map (send m) ps ++ appending l ls) ≡ numbers_of 0 l false 0 m ps
unfolding summary_behind
sum-sends m [] l ls = sum-last l ls
sum-sends m (p ∷ ps) l ls = rw (sum-sends m ps l ls) refl

sum_entry : (n : ℕ) → n < 3 → (m : Message) (ps : List ℕ) (l : ℕ) (ls : List ℕ) → summary_behind (entry_of n ++ (map (send m) ps ++ appending l ls)) ≡ numbers_of 0 l false n m ps
unfolding summary_behind entry_of outcome_number
sum_entry zero h m ps l ls = sum-sends m ps l ls
sum_entry (suc zero) h m ps l ls = rw (sum-sends m ps l ls) refl
sum_entry (suc (suc zero)) h m ps l ls = rw (sum-sends m ps l ls) refl
sum_entry (suc (suc (suc n))) h m ps l ls = absurd (omega (arith, h))

sum-force : (f : Bool) (n : ℕ) → n < 3 → (m : Message) (ps : List ℕ) (l : ℕ) (ls : List ℕ)
    → summary_behind (given f (force ∷ []) ++ (entry_of n ++ (map (send m) ps ++ appending l ls))) ≡ numbers_of 0 l f n m ps
unfolding summary_behind given
sum-force true n h m ps l ls = rw (sum_entry n h m ps l ls) refl
sum-force false n h m ps l ls = sum_entry n h m ps l ls

-- whether nothing stands before the last record
abbrev pub alone : ℕ → Bool → ℕ → List ℕ → Bool
alone (suc k) f n ps = false
alone zero true n ps = false
alone zero false (suc n) ps = false
alone zero false zero (p ∷ ps) = false
alone zero false zero [] = true

-- the numbers of a row
pub sum_row : (k : ℕ) (fs : List ℕ) (f : Bool) (n : ℕ) → n < 3 → (m : Message) (ps : List ℕ) (l : ℕ) (ls : List ℕ)
    → summary (row_of k fs f n m ps l ls) ≡ numbers_of (cond (alone k f n ps) l k) (cond (alone k f n ps) 0 l) f n m ps
unfolding summary summary_from summary_behind appending given entry_of outcome_number
sum_row (suc k) fs f n h m ps l ls = ap (summary_from (suc k)) (sum-force f n h m ps l ls)
sum_row zero fs true n h m ps l ls = sum-force true n h m ps l ls
sum_row zero fs false (suc zero) h m ps l ls = sum_entry 1 h m ps l ls
sum_row zero fs false (suc (suc zero)) h m ps l ls = sum_entry 2 h m ps l ls
sum_row zero fs false (suc (suc (suc n))) h m ps l ls = absurd (omega (arith, h))
sum_row zero fs false zero h m (p ∷ ps) l ls = sum-sends m (p ∷ ps) l ls
sum_row zero fs false zero h m [] zero ls = refl
sum_row zero fs false zero h m [] (suc l) ls = refl

-- ---- of the program's effects

message_of : (kind : ℕ) → kind < 8 → message_kind (get_or messages kind prepare) ≡ kind
unfolding message_kind messages
message_of kind h = eqb→eq _ _ (below_at 8 (λ kind. eqb (message_kind (get_or messages kind prepare)) kind) tt kind h)

-- whether anything is sent
abbrev pub sent : ℕ → ℕ → Bool
sent kind to = not (eqb to 0) && leb kind 7

-- to whom, in order
abbrev told : ℕ → ℕ → ℕ → ℕ → List ℕ
told t kind first to = cond (leb kind 7) (ordered t first to) []

sending_told : (t kind first to : ℕ) → sending t kind first to ≡ map (send (get_or messages kind prepare)) (told t kind first to)
unfolding sending given
sending_told t kind first to = by (leb kind 7)
  where
    by : (b : Bool) → cond b (map (send (get_or messages kind prepare)) (ordered t first to)) [] ≡ map (send (get_or messages kind prepare)) (cond b (ordered t first to) [])
    by true = refl
    by false = refl

-- what a list of participants says of its set
listing : (m : Message) (kind to : ℕ) (ps : List ℕ) → message_kind m ≡ kind → weight ps ≡ to
    → (alone 0 false 0 ps ≡ eqb to 0) × (kind_of m ps ≡ cond (eqb to 0) 0 kind)
listing m kind to [] k e = rw (sym e) (refl, refl)
listing m kind to (p ∷ ps) k e = rw (ne_eqb to 0 (λ z. absurd (omega (arith, e, z, pow_pos (p - 1))))) (refl, k)

record Told (t kind first to : ℕ) : Type 0 where
  pub silent : alone 0 false 0 (told t kind first to) ≡ not (sent kind to)
  pub kinds : kind_of (get_or messages kind prepare) (told t kind first to) ≡ cond (sent kind to) kind 0
  pub set : weight (told t kind first to) ≡ cond (sent kind to) to 0

what_told : (t kind first to : ℕ) → to < 256 → Told t kind first to
what_told t kind first to h = by (leb kind 7) (eqb to 0) refl refl
  where
    by : (b z : Bool) → leb kind 7 ≡ b → eqb to 0 ≡ z → Told t kind first to
    by true true e d =
        let w = weight_ordered t first to h in
        let x = listing (get_or messages kind prepare) kind to (ordered t first to) (message_of kind (omega (arith, leb-true kind 7 e))) w in
        record { silent = rw (e, d) (x.0 ∙ d); kinds = rw (e, d) (x.1 ∙ rw d refl); set = rw (e, d) (w ∙ eqb-true to 0 d) }
    by true false e d =
        let w = weight_ordered t first to h in
        let x = listing (get_or messages kind prepare) kind to (ordered t first to) (message_of kind (omega (arith, leb-true kind 7 e))) w in
        record { silent = rw (e, d) (x.0 ∙ d); kinds = rw (e, d) (x.1 ∙ rw d refl); set = rw (e, d) w }
    by false z e d = record { silent = rw (e, d) (sym (silence z)); kinds = rw (e, d) (sym (nothing z kind)); set = rw (e, d) (sym (nothing z to)) }
      where
        silence : (z : Bool) → not (not z && false) ≡ true
        silence true = refl
        silence false = refl

        nothing : (z : Bool) (n : ℕ) → cond (not z && false) n 0 ≡ 0
        nothing true n = refl
        nothing false n = refl

-- an outcome's number, or 0
abbrev outcome_is : ℕ → ℕ
outcome_is n = cond (leb n 2) n 0

entry_of_lem : (n : ℕ) → (entry_of n ≡ entry_of (outcome_is n)) × (outcome_is n < 3) × (eqb (outcome_is n) 0 ≡ (eqb n 0 || not (leb n 2)))
unfolding entry_of
entry_of_lem zero = (refl, omega arith, refl)
entry_of_lem (suc zero) = (refl, omega arith, refl)
entry_of_lem (suc (suc zero)) = (refl, omega arith, refl)
entry_of_lem (suc (suc (suc n))) =
    rw (lt-leb (suc (suc (suc n))) 2 (omega arith), ne_eqb (suc (suc (suc n))) 0 (λ z. absurd (omega (arith, z)))) (refl, omega arith, refl)

-- the test as the program makes it
alone_tests : (k : ℕ) (f : Bool) (n : ℕ) (ps : List ℕ) → alone k f n ps ≡ (((eqb k 0 && not f) && eqb n 0) && alone 0 false 0 ps)
alone_tests (suc k) f n ps = rw (ne_eqb (suc k) 0 (λ z. absurd (omega (arith, z)))) refl
alone_tests zero true n ps = refl
alone_tests zero false (suc n) ps = rw (ne_eqb (suc n) 0 (λ z. absurd (omega (arith, z)))) refl
alone_tests zero false zero (p ∷ ps) = refl
alone_tests zero false zero [] = refl

abbrev pub only_last : Effects → Bool
only_last e = ((eqb e.appended 0 && not e.forced) && (eqb e.entered 0 || not (leb e.entered 2))) && not (sent e.message e.to)

pub summed : (t : ℕ) (e : Effects) → e.to < 256
    → summary (effects_in t e)
    ≡ record {
      first = cond (only_last e) e.last e.appended;
      last = cond (only_last e) 0 e.last;
      forced = cond e.forced 1 0;
      entered = cond (leb e.entered 2) e.entered 0;
      message = cond (sent e.message e.to) e.message 0;
      to = cond (sent e.message e.to) e.to 0;
    }
summed t e h =
    let w = what_told t e.message e.owing e.to h in
    let n = entry_of_lem e.entered in
    let ps = told t e.message e.owing e.to in
    let a : alone e.appended e.forced (outcome_is e.entered) ps ≡ only_last e =
    alone_tests e.appended e.forced (outcome_is e.entered) ps ∙ rw (n.2, w.silent) refl in
    ap summary (five t e ∙ rw (n.0, sending_told t e.message e.owing e.to) refl)
    ∙ sum_row e.appended (fields_by e.appended e.first e.second) e.forced (outcome_is e.entered) n.1 (get_or messages e.message prepare) ps e.last (fields_by e.last 0 0)
    ∙ rw (a, w.kinds, w.set) refl

-- what fits into the bytes of the call

record Small (x : Summary) : Type 0 where
  pub forced : x.forced ≤ 1
  pub entered : x.entered ≤ 2
  pub message : x.message ≤ 7

kind_small : (m : Message) → message_kind m ≤ 7
kind_small m = leb-true (message_kind m) 7 (kind_known m).0

outcome_small : (o : Outcome) → outcome_number o ≤ 2
unfolding outcome_number
outcome_small commit = omega arith
outcome_small abort = omega arith

behind_small : (es : List Effect) → Small (summary_behind es)
unfolding summary_behind
behind_small [] = record { forced = omega arith; entered = omega arith; message = omega arith }
behind_small (append k fs ∷ es) = let x = behind_small es in record { forced = x.forced; entered = x.entered; message = x.message }
behind_small (force ∷ es) = let x = behind_small es in record { forced = omega arith; entered = x.entered; message = x.message }
behind_small (enter o ∷ es) = let x = behind_small es in record { forced = x.forced; entered = outcome_small o; message = x.message }
behind_small (send m p ∷ es) = let x = behind_small es in record { forced = x.forced; entered = x.entered; message = kind_small m }

summary_small : (es : List Effect) → Small (summary es)
unfolding summary summary_from
summary_small [] = behind_small []
summary_small (append k fs ∷ es) = let x = behind_small es in record { forced = x.forced; entered = x.entered; message = x.message }
summary_small (force ∷ es) = behind_small (force ∷ es)
summary_small (enter o ∷ es) = behind_small (enter o ∷ es)
summary_small (send m p ∷ es) = behind_small (send m p ∷ es)

pub fits : (es : List Effect) (x : Summary) → x ≡ summary es → (x.forced ≤ 1) × (x.entered ≤ 2) × (x.message ≤ 7)
fits es x e = let s = summary_small es in rw e (s.forced, s.entered, s.message)

-- the row's numbers are read back from the values, where the kind of its first record has four bits
pub read_back : (phase w out : ℕ) (es : List Effect) → (summary es).first < 16 → row_read (0 ∷ row_values phase w out es) ≡ summary es
unfolding row_read row_values
read_back phase w out es h =
    let x = summary es in
    let s = summary_small es in
    let first : (x.first + 16 * x.last) % 16 ≡ x.first = omega (arith, h) in
    let last : (x.first + 16 * x.last) / 16 ≡ x.last = omega (arith, h) in
    let forced : (x.forced + 2 * x.entered) % 2 ≡ x.forced = omega (arith, s.forced) in
    let entered : (x.forced + 2 * x.entered) / 2 ≡ x.entered = omega (arith, s.forced) in
    rw (first, last, forced, entered)
