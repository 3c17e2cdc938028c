-- The example of 01 that is marked P, as a closed statement.
-- By computation.
use Rattle.std.specs.Prelude.{◌≡◌, refl}
use Rattle.crc16.specs.CrcRegister.{input, shift, shift_in, feed}

-- 01, "Worked by hand": from CRC zero, word 80000000 to register 0 gives 80C3
pub from_zero : feed 0 0 0x80000000 ≡ 0x80C3
unfolding feed shift_in shift input
from_zero = refl
