-- `Source::list` meets its contract. The invariant goes by what is left: the steps not yet done, read from where
-- the code stands, make what all of them make of the memory at first; and they can all be read.
use mathlib.Core.Path.{◌≡◌}
use mathlib.Core.Bool.{true}
use Prim.Native.Nat.{◌-◌}
use lib.ListN.{length}
use Rattle.parts.specs.Table.{length_at}
use Rattle.layout.specs.StepReading.{desk_steps}
use Rattle.layout.specs.ReferenceMachine.{made_of}
use Rattle.layout.specs.Laws.AcceptedLayout.{is_read}
use Rattle.reference.proofs.copy.Source.list.Given as goal

abbrev pub invariant-loop : goal.invariant-loop
invariant-loop l =
    let s = l.self in
    let left = desk_steps s.device s.range s.layout.now (l.count - l.counter) l.at in
    (is_read left ≡ true) × (length l.memory ≡ length l.initial.memory)
    × (made_of (length_at s.device) left l.memory ≡ made_of (length_at s.device) (desk_steps s.device s.range s.layout.now l.count l.start) l.initial.memory)
