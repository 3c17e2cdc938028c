-- `parts::frame::Run::search` meets its contract. The invariant goes by what is left: the columns not yet passed, searched for
-- the number that is left, give what the whole run gives, whatever columns follow. It holds after the leap, by `run_past`.
use mathlib.Core.Path.{◌≡◌}
use mathlib.Core.List.{List, ◌++◌}
use Prim.Native.Nat.{◌+◌, ◌-◌, ◌≤◌}
use Rattle.parts.specs.Columns.{Column, columns_from}
use Rattle.parts.specs.FrameAddress.{address_in}
use Rattle.parts.proofs.frame.Run.search.Given as goal

abbrev pub invariant-loop-i : goal.invariant-loop-i
invariant-loop-i l =
    (l.i ≤ l.fn.self.columns) × (l.left ≤ l.number)
    × ((rest : List Column) → address_in (columns_from (l.fn.self.columns - l.i) l.fn.self.block (l.fn.self.major + l.i) l.fn.self.minors ++ rest) l.left
    ≡ address_in (columns_from l.fn.self.columns l.fn.self.block l.fn.self.major l.fn.self.minors ++ rest) l.number)
