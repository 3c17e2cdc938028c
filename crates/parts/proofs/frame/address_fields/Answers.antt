-- `parts::frame::address_fields` meets its contract: the quotients and remainders are the definition's fields.
-- By computation.
use mathlib.Core.Path.{refl}
use Rattle.parts.specs.FrameAddress.{block, major, minor}
use Rattle.parts.proofs.frame.address_fields.Goals as goal

pub returns : goal.returns
unfolding block major minor
returns c = refl
