-- The plain run: each event gets the run that the one before it left, and a refused one leaves it as it was.
use Rattle.std.specs.Prelude.{ℕ, zero, suc, Bool, true, false, List, [], ◌∷◌, length, take, leb}
use Rattle.std.proofs.Math.Option.{Option, none, some}
use Rattle.codec.specs.Lists.{every, select, first}
use Rattle.codec.specs.Image.{image}
use Rattle.site.specs.Step.{Effect, append, force, enter, send}
use Rattle.joint.specs.State.{Run, Act, may_keep, down, perform_all}
use Rattle.joint.specs.Event.{Parsed, parse}
use Rattle.joint.specs.Refusals.{refusals}
use Rattle.joint.specs.Plan.{Plan, plan}

-- an event's answer, the site and the acts that happened, and the run after it
pub record Result : Type 0 where
  pub answer : ℕ
  pub site : ℕ
  pub acts : List Act
  pub run : Run

unfoldable pub refuse : Run → ℕ → Result
refuse r n = record { answer = n; site = 0; acts = []; run = r }

-- the run after the first n acts of a plan
unfoldable pub partly : Run → Plan → ℕ → Run
partly r p n = perform_all p.site (take n p.acts) r

-- there are n effects, and k names unforced records that are there after them
unfoldable pub can_cut : Run → Plan → ℕ → ℕ → Bool
can_cut r p n k = every (leb n (length p.acts) ∷ may_keep k ((partly r p n).site p.site).unforced ∷ [])

-- cut: the first n effects happen, then the site is down, and the unforced records that k names are kept. 9: cut above the effects, a bit of keep at or
-- above the number of unforced records then there
unfoldable pub cut_short : Bool → Run → Plan → ℕ → ℕ → Result
cut_short true r p n k = record { answer = 0; site = p.site; acts = take n p.acts; run = down p.site k (partly r p n) }
cut_short false r p n k = refuse r 9

unfoldable pub carry : Run → Plan → Option (ℕ × ℕ) → Result
carry r p none = record { answer = 0; site = p.site; acts = p.acts; run = p.settle (perform_all p.site p.acts r) }
carry r p (some c) = cut_short (can_cut r p c.0 c.1) r p c.0 c.1

-- 8: coordinator not Open at begin; no timer rule for the phase; discard not allowed; mark of a participant that is not Working
unfoldable pub carry_plan : Run → Option Plan → Option (ℕ × ℕ) → Result
carry_plan r none c = refuse r 8
carry_plan r (some p) c = carry r p c

-- n is the first refusal of 2 to 7, or 0
unfoldable pub carry_unless : ℕ → Run → Parsed → Result
carry_unless zero r e = carry_plan r (plan r e.event) e.cut
carry_unless (suc n) r e = refuse r (suc n)

unfoldable pub event_parsed : Run → Option Parsed → Result
event_parsed r none = refuse r 1
event_parsed r (some e) = carry_unless (first (refusals r e.event)) r e

unfoldable pub event : Run → List ℕ → Result
event r bytes = event_parsed r (parse bytes)

-- the run that a list of events leaves
unfoldable pub after : Run → List (List ℕ) → Run
after r [] = r
after r (e ∷ es) = after (event r e).run es

-- the log image of a site: its stable records, in log order
unfoldable pub site_image : Run → ℕ → List ℕ
site_image r s = image s (r.site s).stable

-- ---- answers, with the counts of the effects that happened

pub record Answer : Type 0 where
  pub number : ℕ
  pub records : ℕ
  pub forces : ℕ
  pub sends : ℕ

unfoldable pub is_append : Effect → Bool
is_append (append k fs) = true
is_append force = false
is_append (enter o) = false
is_append (send m p) = false

unfoldable pub is_force : Effect → Bool
is_force (append k fs) = false
is_force force = true
is_force (enter o) = false
is_force (send m p) = false

unfoldable pub is_send : Effect → Bool
is_send (append k fs) = false
is_send force = false
is_send (enter o) = false
is_send (send m p) = true

unfoldable pub count : (Effect → Bool) → List Act → ℕ
count f acts = length (select (λ a. f a.effect) acts)

unfoldable pub answer_of : Result → Answer
answer_of x =
    record {
      number = x.answer;
      records = count is_append x.acts;
      forces = count is_force x.acts;
      sends = count is_send x.acts;
    }

unfoldable pub answers : Run → List (List ℕ) → List Answer
answers r [] = []
answers r (e ∷ es) = let x = event r e in answer_of x ∷ answers x.run es
