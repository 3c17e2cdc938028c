-- The register at a register's address is that register, and the addresses end at 14.
-- By the cases of the registers.
use Rattle.std.specs.Prelude.{◌≡◌, refl, ◌≤◌, Some}
use Rattle.std.proofs.Common.{arith}
use Rattle.registers.specs.RegisterAddresses.{address_of, register_at}
use Rattle.registers.specs.declared.Register.{Register}

pub register_address : (r : Register) → register_at (address_of r) ≡ Some r
unfolding address_of register_at
register_address Register.Crc = refl
register_address Register.Far = refl
register_address Register.Fdri = refl
register_address Register.Cmd = refl
register_address Register.Ctl = refl
register_address Register.Mask = refl
register_address Register.Lout = refl
register_address Register.Cor = refl
register_address Register.Mfwr = refl
register_address Register.Flr = refl
register_address Register.Idcode = refl

-- 001, Table 1: the addresses end at 14
pub address_bound : (r : Register) → address_of r ≤ 14
unfolding address_of
address_bound Register.Crc = omega arith
address_bound Register.Far = omega arith
address_bound Register.Fdri = omega arith
address_bound Register.Cmd = omega arith
address_bound Register.Ctl = omega arith
address_bound Register.Mask = omega arith
address_bound Register.Lout = omega arith
address_bound Register.Cor = omega arith
address_bound Register.Mfwr = omega arith
address_bound Register.Flr = omega arith
address_bound Register.Idcode = omega arith
