-- `Source::spread` meets its contract. The invariant goes by what is left: the targets not yet written, read from
-- where the code stands, make what all of them make of the memory at first.
use Rattle.std.proofs.Common.{◌≡◌, ◌-◌, length}
use Rattle.parts.specs.Table.{length_at}
use Rattle.layout.specs.ReferenceMachine.{spread}
use Rattle.layout.specs.Inner.TargetNumbers.{numbers_at, Roomy}
use Rattle.reference.proofs.copy.Source.spread.Given as goal

abbrev pub invariant-loop : goal.invariant-loop
invariant-loop l =
    let n = length_at l.self.device in
    let b = l.self.layout.now in
    let left = numbers_at b (l.count - l.counter) l.at in
    Roomy n (length l.initial.memory) left × (length l.memory ≡ length l.initial.memory)
    × (spread n l.frame left l.memory ≡ spread n l.frame (numbers_at b l.count l.targets) l.initial.memory)
