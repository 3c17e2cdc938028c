-- A consistent record of each of 01's five phases, as a single closed statement: what words make of a freshly powered XC3S50.
-- By computation: the bytes of the words are taken one by one.
use Rattle.std.specs.Prelude.{◌≡◌, refl, Bool, true, ℕ, replicate, None}
use mathlib.Core.List.{List, [], ◌∷◌, ◌++◌, map, foldl}
use Rattle.crc16.specs.CrcRegister.{input, shift, shift_in, feed}
use Rattle.words.specs.WordsInBytes.{bytes_of}
use Rattle.parts.specs.Table.{parts, part_of, figure_of, idcode_of, frame_length, frame_count}
use Rattle.registers.specs.RegisterAddresses.{address_of, register_at}
use Rattle.registers.specs.declared.Register.TheVariants as Register
use Rattle.answers.specs.declared.Stop.TheVariants as Stop
use Rattle.config.specs.RegisterWrites.{hold, fed_crc}
use Rattle.config.specs.ControlState.{transition, raised}
use Rattle.config.specs.PacketHeaders.{type1, packet, ready, counted, begin, type_one_write, obeyed}
use Rattle.config.specs.Commands.{signalled, command_crc, command_phase, acted}
use Rattle.config.specs.DataWords.{ended, onward, cmd_word, fdri_word, idcode_word, flr_word, data_word, word}
use Rattle.config.specs.StreamBytes.{is_sync, hunted, gathered, byte}
use Rattle.config.specs.declared.PartialWord.TheVariants as PartialWord
use Rattle.config.specs.declared.Phase.{Phase}
use Rattle.config.specs.declared.Event.TheVariants as Event
use Rattle.config.specs.declared.Transition.{Transition}
use Rattle.record.specs.Consistency.{current_fits, data_fits, phase_fits, consistent}
use Rattle.record.specs.PowerOn.{fresh_control, fresh}

-- the words, to device 0 after power-on
abbrev taken : List ℕ → Transition
taken ws = foldl (λ (f : Transition) (x : ℕ). byte f.phase f.control x) (transition (fresh 0).phase (fresh 0).control Event.Nothing) (bytes_of ws)

-- the phase that they lead to, and whether the record is consistent then
abbrev reached : List ℕ → Phase × Bool
reached ws = let f = taken ws in (f.phase, consistent f.phase f.control)

-- the sync word, FLR 36, the XC3S50's IDCODE, CMD WCFG, the header of an FDRI packet of one frame
abbrev opening : List ℕ
opening = 0xAA995566 ∷ 0x30016001 ∷ 36 ∷ 0x3001C001 ∷ 0x0140D093 ∷ 0x30008001 ∷ 1 ∷ 0x30004025 ∷ []

-- 01: "The device record holds one of five phases: hunting, header, data, crc, stopped"; "A record is consistent if". No word; the sync
-- word; one word of frame data; all 37; and FFFFFFFF as a header, stop 1
pub each_phase :
    map reached ([] ∷ (0xAA995566 ∷ []) ∷ (opening ++ 0 ∷ []) ∷ (opening ++ replicate 37 0) ∷ (0xAA995566 ∷ 0xFFFFFFFF ∷ []) ∷ [])
    ≡ (Phase.Hunting PartialWord.Zero, true) ∷ (Phase.Header None, true) ∷ (Phase.Data Register.Fdri 36 1, true) ∷ (Phase.Crc, true) ∷ (Phase.Stopped Stop.BadHeader, true) ∷ []
unfolding input shift shift_in feed parts part_of figure_of idcode_of frame_length frame_count bytes_of address_of register_at hold fed_crc type1 packet ready counted begin type_one_write obeyed signalled command_crc command_phase acted ended onward cmd_word fdri_word idcode_word flr_word data_word word is_sync hunted gathered byte raised current_fits data_fits phase_fits consistent fresh_control fresh
each_phase = refl
