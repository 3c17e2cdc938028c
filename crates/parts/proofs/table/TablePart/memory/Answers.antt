-- `parts::table::TablePart::memory` meets its contract. That the product fits follows from the memory's limit, and so does that of any
-- other number up to ten thousand with L and F: a wrong number falls at the result.
use Rattle.std.proofs.Common.{arith}
use Rattle.parts.specs.Table.{memory_length}
use Rattle.parts.proofs.Laws.PrintedFigures.{memory_limit}
use Rattle.parts.proofs.table.TablePart.memory.Goals as goal

pub overflow_mul-result-2 : goal.overflow_mul-result-2
unfolding memory_length
overflow_mul-result-2 c = rw (c.length.ensures, c.count.ensures) (omega (arith, memory_limit c.args.self.part c.args.self.limits))
