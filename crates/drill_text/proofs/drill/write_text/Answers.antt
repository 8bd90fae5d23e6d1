use Rattle.std.proofs.Common.{ℕ, ◌+◌, ◌*◌, ◌/◌, ◌≤◌, ◌<◌, ◌≡◌, refl, sym, ap, ◌∙◌, List, length, arith, rules}
use Rattle.std.specs.Simd.{first_chunks}
use Rattle.joint.specs.Answers.{run_in, totals_in}
use Rattle.drill_text.specs.Inside.{Room, text_of, lines_from, sites, site_lines}
use Rattle.drill_text.proofs.Pushed.{pushed_within, pushed_front}
use Rattle.drill_text.proofs.Drilled.{Few, sites-most, lines_short, text_size, text_short, text_none, room_for_lines, room_for_transactions, room_for_sites, text_all}
use Rattle.drill_text.proofs.drill.write_text.Goals as goal
use Rattle.drill_text.proofs.drill.write_text.Goals.{After-new-last, After-opened_count, After-lines_size, After-new-out, else-text-answers-via-then-text-answers+else-text-lines_size, else-text-answers-via-else-text-answers}

-- the lines of the sites fit
sites_room : (c : After-new-last) → Room c.new-last.result (site_lines (totals_in c.args.run.now) sites)
sites_room c =
    let size : length c.new-last.result.bytes.now ≡ 756 = ap length c.new-last.ensures.bytes in
    omega (arith, size, c.new-last.ensures.end, sites-most (totals_in c.args.run.now))

pub push_sites-requires : goal.push_sites-requires
push_sites-requires c = sites_room (goal.at.push_sites-requires c).After-new-last

-- how long they are, and all that bounds the text
sites_end : (c : After-opened_count) → c.push_sites.new.self.end ≡ length (site_lines (totals_in c.args.run.now) sites)
sites_end c = omega (arith, c.push_sites.ensures.end, c.new-last.ensures.end)

few : (c : After-opened_count) → Few c.args.answers.now (run_in c.args.run.now)
few c = record { answers = c.requires; small = λ i. (c.type_inv.answers i).fits; opened = rw c.opened_count.ensures.0 at c.opened_count.ensures.1 }

pub overflow_add-rest : goal.overflow_add-rest
overflow_add-rest c = omega (arith, sites_end c, sites-most (totals_in c.args.run.now))

pub overflow_add-answers : goal.overflow_add-answers
overflow_add-answers c = omega (arith, sites_end c, sites-most (totals_in c.args.run.now), c.as_chunks.ensures.front_len)

-- the lines of the answers, as arrays and as bytes
lines_are : (c : After-opened_count) → length (lines_from 1 c.as_chunks.result.0.now) ≡ length (lines_from 1 (first_chunks 4 (length c.args.answers.now / 4) c.args.answers.now))
lines_are c = ap (λ (l : List (List ℕ)). length (lines_from 1 l)) c.as_chunks.ensures.front

pub overflow_add-lines_size : goal.overflow_add-lines_size
overflow_add-lines_size c =
    let b = (goal.at.overflow_add-lines_size c).After-opened_count in
    omega (arith, c.lines_size.ensures, lines_are b, lines_short (few b) (totals_in c.args.run.now), sites_end b, sites-most (totals_in c.args.run.now))

-- there is no room
short : (c : After-lines_size) → Few c.args.answers.now (run_in c.args.run.now)
    → c.push_sites.new.self.end ≡ length (site_lines (totals_in c.args.run.now) sites)
    → length (lines_from 1 c.as_chunks.result.0.now) ≡ length (lines_from 1 (first_chunks 4 (length c.args.answers.now / 4) c.args.answers.now))
    → length c.args.text.now < c.lines_size.result + (21 * c.opened_count.result + c.push_sites.new.self.end)
    → length c.args.text.now < length (text_of c.args.answers.now (run_in c.args.run.now) (totals_in c.args.run.now))
short c few end lines less = omega (arith, c.lines_size.ensures, less, end, lines, text_size few (totals_in c.args.run.now), c.opened_count.ensures.0)

pub returns-then-text-lines_size-clause-text_after : goal.returns-then-text-lines_size-clause-text_after
returns-then-text-lines_size-clause-text_after c =
    let at = goal.at.returns-then-text-lines_size-clause-text_after c in
    let b = at.After-opened_count in
    text_none (few b) (totals_in c.args.run.now) _ (short at.After-lines_size (few b) (sites_end b) (lines_are b) c.if-text-lines_size.true)

pub returns-then-text-lines_size-clause-too_short : goal.returns-then-text-lines_size-clause-too_short
returns-then-text-lines_size-clause-too_short c =
    let at = goal.at.returns-then-text-lines_size-clause-too_short c in
    let b = at.After-opened_count in
    let less = short at.After-lines_size (few b) (sites_end b) (lines_are b) c.if-text-lines_size.true in
    (λ e. cc, λ h. absurd (omega (arith, less, h)))

pub returns-then-text-lines_size-clause-len_bound : goal.returns-then-text-lines_size-clause-len_bound
returns-then-text-lines_size-clause-len_bound c =
    text_short (few (goal.at.returns-then-text-lines_size-clause-len_bound c).After-opened_count) (totals_in c.args.run.now)

-- there is room
fits : (c : After-new-out) → Few c.args.answers.now (run_in c.args.run.now)
    → c.push_sites.new.self.end ≡ length (site_lines (totals_in c.args.run.now) sites)
    → length (lines_from 1 c.as_chunks.result.0.now) ≡ length (lines_from 1 (first_chunks 4 (length c.args.answers.now / 4) c.args.answers.now))
    → length (text_of c.args.answers.now (run_in c.args.run.now) (totals_in c.args.run.now)) ≤ length c.new-out.result.bytes.now
fits c few end lines =
    let size = text_size few (totals_in c.args.run.now) in
    let most = lines_short few (totals_in c.args.run.now) in
    let same = ap length c.new-out.ensures.bytes in
    elim c.else-text-answers.branch [
      | else-text-answers-via-then-text-answers+else-text-lines_size w ↦ omega (arith, same, size, end, lines, c.opened_count.ensures.0, w.lines_size.ensures, w.if-text-lines_size.false)
      | else-text-answers-via-else-text-answers w ↦ omega (arith, same, size, end, most, c.opened_count.ensures.0, c.as_chunks.ensures.front_len, w.if-text-answers.false)
    ]

pub push_lines-requires : goal.push_lines-requires
push_lines-requires c =
    let at = goal.at.push_lines-requires c in
    let b = at.After-opened_count in
    let room = room_for_lines (few b) (totals_in c.args.run.now) c.new-out.result c.new-out.ensures.end (fits at.After-new-out (few b) (sites_end b) (lines_are b)) in
    (omega (arith, c.as_chunks.ensures.front_len), rw c.as_chunks.ensures.front room)

pub written-requires : goal.written-requires
written-requires c = pushed_within (sites_room (goal.at.written-requires c).After-new-last) c.push_sites.ensures

pub push_transactions-requires : goal.push_transactions-requires
push_transactions-requires c =
    let at = goal.at.push_transactions-requires c in
    let b = at.After-opened_count in
    room_for_transactions (few b) (totals_in c.args.run.now) _ c.new-out.ensures.end (fits at.After-new-out (few b) (sites_end b) (lines_are b))
    (rw c.as_chunks.ensures.front at c.push_lines.ensures)

pub push-requires : goal.push-requires
push-requires c =
    let at = goal.at.push-requires c in
    let b = at.After-opened_count in
    let written = c.written.ensures ∙ pushed_front c.new-last.ensures.end c.push_sites.ensures in
    rw written
    (room_for_sites (few b) (totals_in c.args.run.now) _ c.new-out.ensures.end (fits at.After-new-out (few b) (sites_end b) (lines_are b))
    (rw c.as_chunks.ensures.front at c.push_lines.ensures) c.push_transactions.ensures)

pub returns-clause-text_after : goal.returns-clause-text_after
returns-clause-text_after c =
    let at = goal.at.returns-clause-text_after c in
    let b = at.After-opened_count in
    let written = c.written.ensures ∙ pushed_front c.new-last.ensures.end c.push_sites.ensures in
    let name = sym (c.push.ensures.same ∙ c.push_transactions.ensures.same ∙ c.push_lines.ensures.same ∙ c.new-out.ensures.same) in
    rw (← c.new-out.ensures.bytes)
    (text_all (few b) (totals_in c.args.run.now) _ c.new-out.ensures.end (fits at.After-new-out (few b) (sites_end b) (lines_are b))
    (rw c.as_chunks.ensures.front at c.push_lines.ensures) c.push_transactions.ensures (rw written at c.push.ensures) _ (search rules))

pub returns-clause-too_short : goal.returns-clause-too_short
returns-clause-too_short c =
    let at = goal.at.returns-clause-too_short c in
    let b = at.After-opened_count in
    let room = fits at.After-new-out (few b) (sites_end b) (lines_are b) in
    (λ e. omega (arith, ap length c.new-out.ensures.bytes, room), λ h. refl)

pub returns-clause-len_bound : goal.returns-clause-len_bound
returns-clause-len_bound c = text_short (few (goal.at.returns-clause-len_bound c).After-opened_count) (totals_in c.args.run.now)
