-- Demand 3 of the program: by its promises every execution is the plain run's, which is safe.
use Prim.Native.Nat.{ℕ, ◌≤◌}
use mathlib.Core.Path.{◌≡◌, refl, sym, ap, subst, ◌∙◌}
use mathlib.Core.List.{List, map, map-append}
use Rattle.codec.specs.Lists.{select}
use Rattle.codec.specs.Image.{accepted, read_image}
use Rattle.joint.specs.State as plain
use Rattle.joint.specs.State.{fresh}
use Rattle.joint.specs.Run as run
use Rattle.joint.specs.Safety.{Moment, happened, history}
use Rattle.joint.specs.Totals.{highest, held, forces_at}
use Rattle.joint.specs.Bill.{own_answers, add_up, whole}
use Rattle.joint.specs.Answers.{run_in, forces_in, Answer, answer_in, Seen, seen, next_in}
use Rattle.joint.specs.Program.{Takes, Adds, Execution, begun, goes, Demand3OfProgram, BillOfProgram}
use Rattle.joint.specs.declared.run.Run.{Run}
use Rattle.joint.specs.declared.run.Next.{Next}
use Rattle.joint.proofs.Base.History.{after_snoc, answers_snoc, history_snoc}
use Rattle.joint.proofs.Base.Recorded.{entries-happened, messages-happened}
use Rattle.joint.proofs.Demand3.{demand3}
use Rattle.joint.proofs.Bills.{every-bill}
use Rattle.joint.proofs.Reachable.{images_read}
use Rattle.joint.proofs.Engine.Replays.{adds_more, totals_from}
use Rattle.joint.proofs.Engine.Rooms.{has_room_lem}

-- in a run that events reach the logs have room, and so the promise of `Run::event` has no condition left
pub takes_always : (es : List (List ℕ)) (r : Run) (bytes : List ℕ) (next : Next) → run_in r ≡ run.after fresh es → Takes r bytes next
    → (next_in next ≡ seen (run.event (run.after fresh es) bytes)) × Adds (forces_in r) (happened (run.after fresh es) bytes) (forces_in next.run)
takes_always es r bytes next stands h =
    subst (λ (p : plain.Run). (next_in next ≡ seen (run.event p bytes)) × Adds (forces_in r) (happened p bytes) (forces_in next.run)) stands (h (rw stands (has_room_lem es bytes)))

same-run : {es : List (List ℕ)} {given : List Answer} {r : Run} → Execution es given r → run_in r ≡ run.after fresh es
unfolding run.after seen next_in
same-run (begun b) = b.0
same-run (goes {es} {given} {r} x bytes next h) =
    let before : run_in r ≡ run.after fresh es = same-run x in
    ap (λ (t : Seen). t.run) (takes_always es r bytes next before h).0 ∙ sym (after_snoc fresh es bytes)

same-answers : {es : List (List ℕ)} {given : List Answer} {r : Run} → Execution es given r → map answer_in given ≡ run.answers fresh es
unfolding run.answers seen next_in
same-answers (begun b) = refl
same-answers (goes {es} {given} {r} x bytes next h) =
    let one : answer_in next.answer ≡ run.answer_of (run.event (run.after fresh es) bytes) = ap (λ (t : Seen). t.answer) (takes_always es r bytes next (same-run x) h).0 in
    rw (map-append, same-answers x, one, answers_snoc)

-- what it counts are the forces of the history
same-forces : {es : List (List ℕ)} {given : List Answer} {r : Run} → Execution es given r → Adds (λ _. 0) (history fresh es) (forces_in r)
unfolding history held highest forces_at select
same-forces (begun b) = b.1
same-forces (goes {es} {given} {r} x bytes next h) =
    subst (λ (m : List Moment). Adds (λ _. 0) m (forces_in next.run)) (sym (history_snoc fresh es bytes))
    (adds_more (λ _. 0) (forces_in r) (forces_in next.run) (history fresh es) (happened (run.after fresh es) bytes) (same-forces x) (takes_always es r bytes next (same-run x) h).1)

pub program : Demand3OfProgram
program es given r x =
    let stands : run_in r ≡ run.after fresh es = same-run x in
    record {
      answers = same-answers x;
      run = stands;
      entries = λ t s o. ap (λ (p : plain.Run). (p.transaction t).entered s o) stands ∙ entries-happened es t s o;
      messages = λ t p k. ap (λ (y : plain.Run). (y.transaction t).sent p k) stands ∙ messages-happened es t p k;
      totals = totals_from es r (λ _. 0) (λ s. refl) stands (same-forces x);
      safe = demand3 es;
    }

-- and the image of each site's log is accepted, and reads back as its stable records
pub program_images : {es : List (List ℕ)} {given : List Answer} {r : Run} → Execution es given r → (s : ℕ) → s ≤ 8
    → read_image (run.site_image (run_in r) s) ≡ accepted s ((run_in r).site s).stable
program_images {es} x s small = rw (same-run x) (images_read es s small)

-- and what it answers to the events of a clean run adds up to its bill
pub program_bill : BillOfProgram
program_bill before t g rest c given r x = ap (λ (l : List run.Answer). add_up (own_answers t (whole before t g rest) l)) (program (whole before t g rest) given r x).answers ∙ (every-bill before t g rest c).costs
