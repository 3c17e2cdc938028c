-- The control state with one part of it replaced, and what a word can leave: the next phase and state with an event, or a stop.
-- Source: 01, "Words and packets", first paragraph, and "Stops and refusals".
use Rattle.std.specs.Prelude.{true, cond, Option, ℕ}
use Rattle.registers.specs.RegisterAddresses.{same}
use Rattle.registers.specs.declared.Register.{Register}
use Rattle.config.specs.declared.Registers.{Registers}
use Rattle.config.specs.declared.Flags.{Flags}
use Rattle.config.specs.declared.PartialWord.{PartialWord}
use Rattle.config.specs.declared.Control.{Control}
use Rattle.config.specs.declared.Phase.{Phase}
use Rattle.answers.specs.declared.Stop.{Stop}
use Rattle.config.specs.declared.Event.{Event}
use Rattle.config.specs.declared.Transition.{Transition}

abbrev pub with_registers : Registers → Control → Control
with_registers r c = record { device = c.device; registers = r; flags = c.flags; current = c.current; partial = c.partial }

abbrev pub with_flags : Flags → Control → Control
with_flags f c = record { device = c.device; registers = c.registers; flags = f; current = c.current; partial = c.partial }

abbrev pub with_current : Option ℕ → Control → Control
with_current n c = record { device = c.device; registers = c.registers; flags = c.flags; current = n; partial = c.partial }

abbrev pub with_partial : PartialWord → Control → Control
with_partial b c = record { device = c.device; registers = c.registers; flags = c.flags; current = c.current; partial = b }

abbrev pub transition : Phase → Control → Event → Transition
transition p c e = record { phase = p; control = c; event = e }

-- 01: "The bad word is dropped: not fed, not kept, with nothing in the record changed but the phase and an emptied part word"
abbrev pub stopped : Stop → Control → Transition
stopped s c = transition (Phase.Stopped s) (with_partial PartialWord.Zero c) Event.Nothing

-- each flag after a word to register r that raises one: IDCODE and FLR when they are accepted, FDRI at a packet's last word ("from
-- its last word until power-on a frame is in hand"), CRC when the check passes
unfoldable pub raised : Register → Flags → Flags
raised r f = record {
  idcode_ok = cond (same Register.Idcode r) true f.idcode_ok;
  flr_ok = cond (same Register.Flr r) true f.flr_ok;
  buffer_valid = cond (same Register.Fdri r) true f.buffer_valid;
  ghigh = f.ghigh;
  start_pending = f.start_pending;
  check_passed = cond (same Register.Crc r) true f.check_passed;
  started = f.started;
}
