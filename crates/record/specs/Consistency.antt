-- When phase and control state are consistent, item by item in 01's order.
-- Source: 01, "Stops and refusals", "A record is consistent if". The items that the types settle: a partial word has under
-- four bytes, a stop number is 1 to 10, a register in data or waiting for a type 2 header is known and writable.
use Rattle.std.specs.Prelude.{ℕ, ◌+◌, ◌%◌, Bool, true, not, cond, ◌&&◌, eqb, leb, ltb, Option, Some, None}
use Rattle.parts.specs.Table.{length_at, count_at}
use Rattle.registers.specs.RegisterAddresses.{is_fdri, is_mfwr}
use Rattle.registers.specs.CommandCodes.{last_command}
use Rattle.registers.specs.declared.Register.{Register}
use Rattle.config.specs.declared.Control.{Control}
use Rattle.config.specs.declared.Phase.{Phase}

-- "current frame under F or none"
unfoldable pub current_fits : ℕ → Option ℕ → Bool
current_fits d (Some n) = ltb n (count_at d)
current_fits d None = true

-- "1 or 2 for MFWR with a frame in hand, and for FDRI the filled part of the frame under L, with filled plus left a multiple of L"
unfoldable pub data_fits : Register → ℕ → ℕ → Control → Bool
data_fits r left filled c =
    cond (is_fdri r) (ltb filled (length_at c.device) && eqb ((filled + left) % length_at c.device) 0)
    (cond (is_mfwr r) (leb left 2 && c.flags.buffer_valid) true)

-- "while hunting, no start pending"; "in data, words left 1 to 134,217,727"
unfoldable pub phase_fits : Phase → Control → Bool
phase_fits (Phase.Hunting b) c = not c.flags.start_pending
phase_fits (Phase.Header o) c = true
phase_fits (Phase.Data r left filled) c = leb 1 left && leb left 134217727 && data_fits r left filled c
phase_fits Phase.Crc c = true
phase_fits (Phase.Stopped s) c = true

-- "device at most 7; current frame under F or none; CRC under 65,536; CMD at most 13"
unfoldable pub consistent : Phase → Control → Bool
consistent p c =
    leb c.device 7 && current_fits c.device c.current && ltb c.registers.crc 65536 && leb c.registers.cmd last_command && phase_fits p c
