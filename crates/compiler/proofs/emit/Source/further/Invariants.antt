-- `Source::further` meets its contract. The invariant goes by what is left: the targets not yet written, read from where the code
-- stands and written by the writer as it is then, give what all of them give.
use Rattle.std.proofs.Common.{◌-◌}
use Rattle.layout.specs.Inner.TargetNumbers.{numbers_at}
use Rattle.stream.specs.Stream.{further}
use Rattle.compiler.specs.Inner.PacketWriting.{Room, Remains}
use Rattle.compiler.proofs.emit.Source.further.Given as goal

abbrev pub invariant-loop : goal.invariant-loop
invariant-loop l =
    let b = l.self.layout.now in
    let rest = further l.self.device (numbers_at b (l.more - l.counter) l.at) in
    Room l.writer rest × Remains l.initial.writer (further l.self.device (numbers_at b l.more l.start)) l.writer rest
