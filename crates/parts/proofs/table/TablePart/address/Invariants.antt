-- `parts::table::TablePart::address` meets its contract. The invariant goes by what is left: the runs not yet searched, for the number
-- that is left, give what all columns give.
use mathlib.Core.Path.{◌≡◌}
use lib.ListN.{drop}
use Rattle.parts.specs.Columns.{runs, columns_of, columns}
use Rattle.parts.specs.FrameAddress.{address_in}
use Rattle.parts.proofs.table.TablePart.address.Given as goal

abbrev pub invariant-loop-i : goal.invariant-loop-i
invariant-loop-i l = address_in (columns_of (drop l.i (runs l.self.part))) l.left ≡ address_in (columns l.self.part) l.number
