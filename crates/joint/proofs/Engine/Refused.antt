-- The numbers of refusals; an event that is refused by 2 to 7, and one that is not.
use Prim.Native.Nat.{ℕ, suc, ◌+◌}
use mathlib.Core.Path.{◌≡◌, refl, sym, ap, ◌∙◌}
use mathlib.Core.Bool.{Bool, true, false, cond}
use mathlib.Core.List.{List, ◌∷◌}
use mathlib.Core.Logic.{◌⊎◌, inl, inr, ⊎_elim}
use mathlib.Core.Option.{Option}
use Rattle.std.specs.Prelude.{Ok, Err}
use native.Mathlib.Numerals.{add-one}
use denote.Enum.Declared.{tag_of}
use Rattle.codec.specs.Lists.{select, first}
use Rattle.joint.specs.State as plain
use Rattle.joint.specs.Event.{Event}
use Rattle.joint.specs.Refusals.{refusals}
use Rattle.joint.specs.Plan.{plan}
use Rattle.joint.specs.Run as run
use Rattle.joint.specs.Run.{count, answer_of, refuse, carry_plan, carry_unless, event_parsed}
use Rattle.joint.specs.Answers.{seen, refusal_number, number_of, Answer, answer_in, Seen}
use Rattle.joint.specs.Inside.{taken}
use Rattle.joint.specs.declared.answers.Counts.{Counts}
use Rattle.joint.specs.declared.answers.Refusal.{Refusal}
use Rattle.joint.specs.declared.answers.Refusal.TheVariants as refusals
use Rattle.joint.specs.contracts.answers.Refusal.{the_type}

-- ---- a refusal's number

pub its_number : (e : Refusal) → tag_of the_type e + 1 ≡ number_of e
unfolding number_of
its_number refusals.Malformed = refl
its_number refusals.OpenedBefore = refl
its_number refusals.NeverOpened = refl
its_number refusals.NoMember = refl
its_number refusals.SiteDown = refl
its_number refusals.SiteUp = refl
its_number refusals.NeverSent = refl
its_number refusals.NotAllowed = refl
its_number refusals.CutTooFar = refl

-- it is not 0
pub above_zero : (e : Refusal) → (n : ℕ) × (number_of e ≡ suc n)
above_zero e = (tag_of the_type e, sym (its_number e) ∙ add-one (tag_of the_type e))

-- ---- an answer is an acceptance, or a refusal that counts nothing

pub answer_case : (a : Answer) → ((c : Counts) × (a ≡ Ok c)) ⊎ ((n : ℕ) × ((answer_in a ≡ refusal_number (suc n)) × ((e : Refusal) × (a ≡ Err e))))
unfolding answer_in refusal_number
answer_case (Ok c) = inl (c, refl)
answer_case (Err e) = let n = above_zero e in inr (n.0, (ap refusal_number n.1, (e, refl)))

-- where it is no acceptance
module _ (a : Answer) (k : (c : Counts) → a ≡ Ok c → ⊥) where
  numbered : (n : ℕ) × (answer_in a ≡ refusal_number (suc n))
  numbered = ⊎_elim (λ x. absurd (k x.0 x.1)) (λ x. (x.0, x.1.0)) (answer_case a)

  pub refused-number : (n : ℕ) × ((answer_in a).number ≡ suc n)
  unfolding refusal_number
  refused-number = (numbered.0, ap (λ (x : run.Answer). x.number) numbered.1)

  pub refused_counts : refusal_number (answer_in a).number ≡ answer_in a
  unfolding refusal_number
  refused_counts = rw numbered.1 refl

-- ---- events

-- the run as it was
abbrev pub refused_by : ℕ → plain.Run → Seen
refused_by n r = record { answer = refusal_number n; run = r }

module _ (r : plain.Run) where
  -- a refusal leaves the run as it was, and counts nothing
  pub refuse-seen : (n : ℕ) → seen (refuse r n) ≡ refused_by n r
  unfolding seen answer_of refuse refusal_number count select
  refuse-seen n = refl

  module _ (e : Event) (c : Option (ℕ × ℕ)) where
    pub refused_by_lem : (n : ℕ) → first (refusals r e) ≡ suc n → taken r e c ≡ refused_by (suc n) r
    unfolding taken event_parsed carry_unless
    refused_by_lem n q = ap (λ (k : ℕ). seen (carry_unless k r (record { event = e; cut = c }))) q ∙ refuse-seen (suc n)

    pub refused_as : (x : Refusal) → first (refusals r e) ≡ number_of x → refused_by (number_of x) r ≡ taken r e c
    refused_as x q = let n = above_zero x in rw n.1 (sym (refused_by_lem n.0 (q ∙ n.1)))

    pub not-refused : first (refusals r e) ≡ 0 → taken r e c ≡ seen (carry_plan r (plan r e) c)
    unfolding taken event_parsed carry_unless
    not-refused q = ap (λ (k : ℕ). seen (carry_unless k r (record { event = e; cut = c }))) q

-- ---- the first refusal

module _ {b : Bool} (n : ℕ) (rest : List (ℕ × Bool)) where
  pub strikes : b ≡ true → first ((n, b) ∷ rest) ≡ n
  unfolding first
  strikes e = ap (λ (b : Bool). cond b n (first rest)) e

  pub passes : b ≡ false → first ((n, b) ∷ rest) ≡ first rest
  unfolding first
  passes e = ap (λ (b : Bool). cond b n (first rest)) e
