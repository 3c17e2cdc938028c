-- `parts::table::TablePart::number` meets its contract. The invariant goes by what is left: the runs not yet passed, with the number of
-- their first frame, give what all columns give, and the frames passed and left are F, so that no sum wraps.
use mathlib.Core.Path.{◌≡◌}
use Prim.Native.Nat.{◌+◌}
use lib.ListN.{drop}
use Rattle.parts.specs.Table.{frame_count}
use Rattle.parts.specs.Columns.{runs, columns_of, columns, total}
use Rattle.parts.specs.FrameAddress.{number_in}
use Rattle.parts.proofs.table.TablePart.number.Given as goal

abbrev pub invariant-loop-i : goal.invariant-loop-i
invariant-loop-i l =
    (l.first + total (columns_of (drop l.i (runs l.self.part))) ≡ frame_count l.self.part)
    × (number_in (columns_of (drop l.i (runs l.self.part))) l.first l.block l.major l.minor ≡ number_in (columns l.self.part) 0 l.block l.major l.minor)
