-- `Source::list` meets its contract. The invariant goes by what is left: the steps not yet written, read from where the code
-- stands and written by the writer as it is then, give what all of them give; and they can all be read.
use Rattle.std.proofs.Common.{◌≡◌, true, ◌-◌}
use Rattle.layout.specs.StepReading.{desk_steps}
use Rattle.layout.specs.Laws.AcceptedLayout.{is_read}
use Rattle.compiler.specs.Inner.PacketWriting.{Room, Remains}
use Rattle.compiler.specs.Inner.StepPackets.{list_packets}
use Rattle.compiler.proofs.emit.Source.list.Given as goal

abbrev pub invariant-loop : goal.invariant-loop
invariant-loop l =
    let s = l.self in
    let left = l.count - l.counter in
    let rest = list_packets s.device s.range s.layout.now left l.at in
    (is_read (desk_steps s.device s.range s.layout.now left l.at) ≡ true) × Room l.writer rest
    × Remains l.initial.writer (list_packets s.device s.range s.layout.now l.count l.start) l.writer rest
