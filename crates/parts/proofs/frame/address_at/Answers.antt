-- `parts::frame::address_at` meets its contract: what the lookup tells is a word, so that nothing of it is cut off.
-- By the law that every address has 27 bits.
use native.Mathlib.Omega.{arith}
use Rattle.parts.proofs.Laws.FrameNumbers.{told_small}
use Rattle.parts.proofs.frame.address_at.Goals as goal

pub overflow_cast-result : goal.overflow_cast-result
overflow_cast-result c = omega (arith, told_small _ _ _ c.frame_address-answer.ensures, c.answer_value.ensures)
