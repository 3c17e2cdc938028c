-- `numbers::read_number` meets its contract. The invariant goes by what is left: the groups not yet read, over the value of those
-- that were, give the number.
use Rattle.numbers.specs.Inner.Groups.{GroupsRead}
use Rattle.numbers.proofs.read_number.Given as goal

abbrev pub invariant-loop-i : goal.invariant-loop-i
invariant-loop-i l = GroupsRead l.bytes l.at l.i l.low l.weight
