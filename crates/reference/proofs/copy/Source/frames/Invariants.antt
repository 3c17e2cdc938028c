-- `Source::frames` meets its contract. The invariant goes by what is left: the frames not yet written, from where
-- the code stands, make what all of them make of the memory at first.
use Rattle.std.proofs.Common.{◌≡◌, ◌+◌, ◌-◌, ◌*◌, length, drop}
use Rattle.parts.specs.Table.{length_at}
use Rattle.layout.specs.Step.{frames}
use Rattle.layout.specs.ReferenceMachine.{frames_written}
use Rattle.reference.proofs.copy.Source.frames.Given as goal

abbrev pub invariant-loop-i : goal.invariant-loop-i
invariant-loop-i l =
    let n = length_at l.self.device in
    let b = l.self.layout.now in
    (length l.memory ≡ length l.initial.memory)
    × (frames_written n (l.first + l.i) (frames n (l.count - l.i) (drop (l.body + l.size * l.i) b)) l.memory
    ≡ frames_written n l.first (frames n l.count (drop l.body b)) l.initial.memory)
