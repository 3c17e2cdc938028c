-- `layout::desk::Desk::past_targets` meets its contract. The invariant goes by what is left: the targets not yet read end where all of
-- them do.
use Rattle.std.specs.Prelude.{◌≡◌, ◌-◌}
use Rattle.parts.specs.Table.{count_at}
use Rattle.layout.specs.Ownership.{owns}
use Rattle.layout.specs.StepReading.{targets_at}
use Rattle.layout.specs.Inner.DeskReading.{ended}
use Rattle.layout.proofs.desk.Desk.past_targets.Given as goal

abbrev pub invariant-loop : goal.invariant-loop
invariant-loop l =
    let targets = targets_at (count_at l.self.device) (owns l.self.range) l.self.layout.now in
    ended (targets (l.count - l.counter) l.low l.at) ≡ ended (targets l.count 0 l.start)
