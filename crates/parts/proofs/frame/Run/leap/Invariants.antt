-- `parts::frame::Run::leap` meets its contract: the frames passed are those of the columns passed, and no more than the number.
-- By linear arithmetic; the frames passed stay at or under the number, so that no sum wraps.
use mathlib.Core.Path.{◌≡◌}
use Prim.Native.Nat.{◌-◌, ◌*◌, ◌≤◌}
use Rattle.parts.proofs.frame.Run.leap.Given as goal

abbrev pub invariant-loop-i : goal.invariant-loop-i
invariant-loop-i l = (l.i ≤ l.fn.self.columns) × (l.passed ≡ l.i * l.fn.self.minors) × (l.passed ≤ l.number)

abbrev pub decreases-loop-i : goal.decreases-loop-i
decreases-loop-i l = l.fn.self.columns - l.i
