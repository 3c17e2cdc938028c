-- `seamwillow::sw_frame_address` meets its contract: number and value of the answer; an address is a word.
-- From what the three calls ensure, and the law that every address has 27 bits.
use native.Mathlib.Omega.{arith}
use Rattle.parts.proofs.Laws.FrameNumbers.{told_small}
use Rattle.seamwillow.proofs.sw_frame_address.Goals as goal

pub overflow_cast-address : goal.overflow_cast-address
overflow_cast-address c = omega (arith, told_small _ _ _ c.frame_address-answer.ensures, c.answer_value.ensures)
