-- A word to a register leaves every other register; a register that raises no flag and a command that has none leave all flags.
-- By the register that is looked at: of the definition only its line is in play.
use Rattle.std.specs.Prelude.{◌≡◌, refl, false, ℕ, eqb}
use Rattle.std.proofs.Common.{sym}
use Rattle.std.proofs.lemmas.Bool.{false≢true}
use Rattle.registers.specs.RegisterAddresses.{address_of, same}
use Rattle.registers.specs.CommandCodes.{LFRM, START, AGHIGH, DESYNC}
use Rattle.config.specs.RegisterWrites.{hold}
use Rattle.config.specs.ControlState.{raised}
use Rattle.config.specs.Commands.{signalled}
use Rattle.registers.specs.declared.Register.{Register}
use Rattle.config.specs.declared.Registers.{Registers}
use Rattle.config.specs.declared.Flags.{Flags}

-- what a register holds
abbrev pub contents : Register → Registers → ℕ
contents Register.Crc q = q.crc
contents Register.Far q = q.far
contents Register.Fdri q = q.fdri
contents Register.Cmd q = q.cmd
contents Register.Ctl q = q.ctl
contents Register.Mask q = q.mask
contents Register.Lout q = q.lout
contents Register.Cor q = q.cor
contents Register.Mfwr q = q.mfwr
contents Register.Flr q = q.flr
contents Register.Idcode q = q.idcode

-- ---- registers

pub hold_other : (x r : Register) (w : ℕ) (q : Registers) → same x r ≡ false → contents x (hold r w q) ≡ contents x q
unfolding hold
hold_other Register.Crc r w q h = refl
hold_other Register.Far r w q h = rw h
hold_other Register.Fdri r w q h = rw h
hold_other Register.Cmd r w q h = rw h
hold_other Register.Ctl r w q h = rw h
hold_other Register.Mask r w q h = rw h
hold_other Register.Lout r w q h = rw h
hold_other Register.Cor r w q h = rw h
hold_other Register.Mfwr r w q h = rw h
hold_other Register.Flr r w q h = rw h
hold_other Register.Idcode r w q h = rw h

-- 01: "A register (but CRC) holds the last word written to it"; of CTL only the bits that are 1 in MASK
pub hold_own : (r : Register) (w : ℕ) (q : Registers) → same Register.Crc r ≡ false → same Register.Ctl r ≡ false → contents r (hold r w q) ≡ w
unfolding hold address_of
hold_own Register.Crc w q h k = absurd (false≢true (sym h))
hold_own Register.Far w q h k = refl
hold_own Register.Fdri w q h k = refl
hold_own Register.Cmd w q h k = refl
hold_own Register.Ctl w q h k = absurd (false≢true (sym k))
hold_own Register.Mask w q h k = refl
hold_own Register.Lout w q h k = refl
hold_own Register.Cor w q h k = refl
hold_own Register.Mfwr w q h k = refl
hold_own Register.Flr w q h k = refl
hold_own Register.Idcode w q h k = refl

-- ---- flags

-- the words of a register other than the four raise nothing
pub raised_none : (r : Register) (f : Flags) → same Register.Idcode r ≡ false → same Register.Flr r ≡ false → same Register.Fdri r ≡ false → same Register.Crc r ≡ false
    → raised r f ≡ f
unfolding raised
raised_none r f i l d c = simp (i, l, d, c)

-- 01: "The others only stand in CMD"
pub signalled_none : (k : ℕ) (f : Flags) → eqb k LFRM ≡ false → eqb k START ≡ false → eqb k AGHIGH ≡ false → eqb k DESYNC ≡ false → signalled k f ≡ f
unfolding signalled
signalled_none k f l s a d = simp (l, s, a, d)
