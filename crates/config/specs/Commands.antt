-- Commands and startup.
-- Sources: 001, Table 2 and the four operations after Table 11; 01, "CMD".
use Rattle.std.specs.Prelude.{ℕ, true, false, cond, ◌&&◌, ◌||◌, eqb}
use Rattle.registers.specs.CommandCodes.{LFRM, START, RCRC, AGHIGH, DESYNC}
use Rattle.config.specs.RegisterWrites.{with_crc}
use Rattle.config.specs.ControlState.{with_registers, with_flags, transition}
use Rattle.config.specs.declared.PartialWord.TheVariants as PartialWord
use Rattle.config.specs.declared.Flags.{Flags}
use Rattle.config.specs.declared.Control.{Control}
use Rattle.config.specs.declared.Phase.{Phase}
use Rattle.config.specs.declared.Event.TheVariants as Event
use Rattle.config.specs.declared.Transition.{Transition}

-- each flag after command k; 01: "AGHIGH and LFRM set and clear GHIGH. START makes a start pending and forgets passed checks";
-- DESYNC: "if a start was pending, a check has passed since, and IDCODE was accepted, the device is started. DESYNC always ends a
-- pending start"; "Started lasts until power-on"
unfoldable pub signalled : ℕ → Flags → Flags
signalled k f = record {
  idcode_ok = f.idcode_ok;
  flr_ok = f.flr_ok;
  buffer_valid = f.buffer_valid;
  ghigh = cond (eqb k AGHIGH) true (cond (eqb k LFRM) false f.ghigh);
  start_pending = cond (eqb k START) true (cond (eqb k DESYNC) false f.start_pending);
  check_passed = cond (eqb k START) false f.check_passed;
  started = cond (eqb k DESYNC) (f.started || (f.start_pending && f.check_passed && f.idcode_ok)) f.started;
}

-- 01: "RCRC makes the CRC zero"
unfoldable pub command_crc : ℕ → ℕ → ℕ
command_crc k v = cond (eqb k RCRC) 0 v

-- 01: "DESYNC returns to hunting with no bytes remembered"; words left in the packet are dropped
unfoldable pub command_phase : ℕ → Phase → Phase
command_phase k p = cond (eqb k DESYNC) (Phase.Hunting PartialWord.Zero) p

-- command k acts: 01, "The others only stand in CMD"
unfoldable pub acted : ℕ → Phase → Control → Transition
acted k p c =
    transition (command_phase k p)
    (with_flags (signalled k c.flags) (with_registers (with_crc (command_crc k c.registers.crc) c.registers) c))
    Event.Nothing
