-- The registers by address.
-- Sources: 001, Table 1; 01, "Words and packets", the paragraph "Registers".
use Rattle.std.specs.Prelude.{ℕ, Bool, cond, eqb, Option, Some, None}
use Rattle.registers.specs.declared.Register.{Register}

-- 001, Table 1: the binary address of a register
unfoldable pub address_of : Register → ℕ
address_of Register.Crc = 0
address_of Register.Far = 1
address_of Register.Fdri = 2
address_of Register.Cmd = 4
address_of Register.Ctl = 5
address_of Register.Mask = 6
address_of Register.Lout = 8
address_of Register.Cor = 9
address_of Register.Mfwr = 10
address_of Register.Flr = 11
address_of Register.Idcode = 14

-- two registers are one
abbrev pub same : Register → Register → Bool
same x r = eqb (address_of x) (address_of r)

abbrev pub is_fdri : Register → Bool
is_fdri r = eqb (address_of r) 2

abbrev pub is_mfwr : Register → Bool
is_mfwr r = eqb (address_of r) 10

abbrev pub is_lout : Register → Bool
is_lout r = eqb (address_of r) 8

-- 01: the register at an address, not writable where there is none or it can't be written (FDRO 3, STAT 7)
unfoldable pub register_at : ℕ → Option Register
register_at a =
    cond (eqb a 0) (Some Register.Crc)
    (cond (eqb a 1) (Some Register.Far)
    (cond (eqb a 2) (Some Register.Fdri)
    (cond (eqb a 4) (Some Register.Cmd)
    (cond (eqb a 5) (Some Register.Ctl)
    (cond (eqb a 6) (Some Register.Mask)
    (cond (eqb a 8) (Some Register.Lout)
    (cond (eqb a 9) (Some Register.Cor)
    (cond (eqb a 10) (Some Register.Mfwr)
    (cond (eqb a 11) (Some Register.Flr)
    (cond (eqb a 14) (Some Register.Idcode) None))))))))))
