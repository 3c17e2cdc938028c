-- A word written to a register.
-- Sources: 001, "Mask Register"; 01, "Words and packets", the paragraphs "Registers" and "CRC".
use Rattle.std.specs.Prelude.{ℕ, ◌-◌, cond}
use Rattle.std.specs.Int.Bits.{bit_and, bit_or}
use Rattle.crc16.specs.CrcRegister.{feed}
use Rattle.registers.specs.RegisterAddresses.{address_of, same, is_lout}
use Rattle.registers.specs.declared.Register.{Register}
use Rattle.config.specs.declared.Registers.{Registers}

abbrev pub with_crc : ℕ → Registers → Registers
with_crc v q = record {
  crc = v;
  far = q.far;
  fdri = q.fdri;
  cmd = q.cmd;
  ctl = q.ctl;
  mask = q.mask;
  lout = q.lout;
  cor = q.cor;
  mfwr = q.mfwr;
  flr = q.flr;
  idcode = q.idcode;
}

-- 01: "A CTL write changes only bits that are 1 in MASK"
unfoldable pub masked : ℕ → ℕ → ℕ → ℕ
masked mask ctl w = bit_or (bit_and ctl (4294967295 - mask)) (bit_and w mask)

-- each register after a word to register r; 01: "A register (but CRC) holds the last word written to it"
unfoldable pub hold : Register → ℕ → Registers → Registers
hold r w q = record {
  crc = q.crc;
  far = cond (same Register.Far r) w q.far;
  fdri = cond (same Register.Fdri r) w q.fdri;
  cmd = cond (same Register.Cmd r) w q.cmd;
  ctl = cond (same Register.Ctl r) (masked q.mask q.ctl w) q.ctl;
  mask = cond (same Register.Mask r) w q.mask;
  lout = cond (same Register.Lout r) w q.lout;
  cor = cond (same Register.Cor r) w q.cor;
  mfwr = cond (same Register.Mfwr r) w q.mfwr;
  flr = cond (same Register.Flr r) w q.flr;
  idcode = cond (same Register.Idcode r) w q.idcode;
}

-- 01: "Each data word to any register but LOUT is fed", with the register's address
unfoldable pub fed_crc : Register → ℕ → ℕ → ℕ
fed_crc r w v = cond (is_lout r) v (feed v (address_of r) w)

-- a word written: fed to the CRC, then held
abbrev pub written : Register → ℕ → Registers → Registers
written r w q = hold r w (with_crc (fed_crc r w q.crc) q)
