-- `parts::frame::address_of` meets its contract: the fields fit, and the sum is the definition's.
-- By linear arithmetic.
use native.Mathlib.Omega.{arith}
use Rattle.parts.specs.FrameAddress.{address}
use Rattle.parts.proofs.frame.address_of.Goals as goal

pub returns : goal.returns
unfolding address
returns c = omega arith
