-- `layout::desk::Desk::steps` meets its contract. The invariant goes by what is left: the steps not yet read, over the words counted,
-- give the answer that all of them give. A step has at most 414505 words, so that no sum wraps.
use Rattle.std.specs.Prelude.{◌≡◌, ◌+◌, ◌-◌, ◌*◌, ◌≤◌}
use Rattle.parts.specs.Table.{length_at}
use Rattle.layout.specs.StepReading.{desk_steps}
use Rattle.layout.specs.Layout.{end_read, check_answer}
use Rattle.layout.specs.Inner.CheckLoops.{summed}
use Rattle.layout.proofs.desk.Desk.steps.Given as goal

abbrev pub invariant-loop : goal.invariant-loop
invariant-loop l =
    let words = length_at l.self.device in
    let b = l.self.layout.now in
    let steps = desk_steps l.self.device l.self.range b in
    (l.words + 414505 * (l.count - l.counter) ≤ 12 + 414505 * l.count)
    × (summed words l.words (end_read b (steps (l.count - l.counter) l.at)) ≡ check_answer words (end_read b (steps l.count l.start)))
