-- A data word to each register, and a word in each phase.
-- Sources: 001, "Spartan-3 Device Configuration Registers"; 01, "Words and packets", and stops 4, 5, 8, 9 and 10.
use Rattle.std.specs.Prelude.{ℕ, ◌+◌, ◌-◌, cond, eqb, leb, ltb, Option, Some, None}
use Rattle.crc16.specs.CrcRegister.{feed}
use Rattle.parts.specs.Table.{idcode_at, length_at, count_at}
use Rattle.config.specs.CurrentFrame.{named}
use Rattle.registers.specs.RegisterAddresses.{is_fdri}
use Rattle.registers.specs.CommandCodes.{last_command}
use Rattle.config.specs.RegisterWrites.{with_crc, written}
use Rattle.config.specs.ControlState.{with_registers, with_flags, with_current, raised, transition, stopped}
use Rattle.config.specs.PacketHeaders.{header_word}
use Rattle.config.specs.Commands.{acted}
use Rattle.registers.specs.declared.Register.{Register}
use Rattle.config.specs.declared.Control.{Control}
use Rattle.config.specs.declared.Phase.{Phase}
use Rattle.answers.specs.declared.Stop.TheVariants as Stop
use Rattle.config.specs.declared.Event.{Event}
use Rattle.config.specs.declared.Transition.{Transition}

-- ---- the packet goes on

-- the phase after a packet's last word; 01, "FDRI": "The word after the data of a nonzero count is the auto CRC word"; after any
-- other packet comes a header
unfoldable pub ended : Register → Phase
ended r = cond (is_fdri r) Phase.Crc (Phase.Header None)

-- the phase after one of the words left
unfoldable pub onward : Register → ℕ → ℕ → Phase
onward r left filled = cond (leb left 1) (ended r) (Phase.Data r (left - 1) filled)

-- the word is written to its register
abbrev pub put : Register → ℕ → Control → Control
put r w c = with_registers (written r w c.registers) c

-- ---- a word to CRC, and the auto CRC word, which is "treated as a write to CRC"

-- 01: "the check passes if the register is then zero"; at stop 8 "it is fed first, and the CRC stays as it then is"
unfoldable pub checked : ℕ → Phase → Control → Transition
checked v p c =
    cond (eqb v 0) (transition p (with_flags (raised Register.Crc c.flags) (with_registers (with_crc v c.registers) c)) Event.Nothing)
    (stopped Stop.CrcMismatch (with_registers (with_crc v c.registers) c))

abbrev pub crc_word : Phase → Control → ℕ → Transition
crc_word p c w = checked (feed c.registers.crc 0 w) p c

-- ---- FAR and CMD: "A command acts when written and again at each FAR write, after the word is fed"

unfoldable pub far_word : Phase → Control → ℕ → Transition
far_word p c w = acted c.registers.cmd p (with_current (named c.device w) (put Register.Far w c))

-- 01, stop 10: "CMD word above 13"
unfoldable pub cmd_word : Phase → Control → ℕ → Transition
cmd_word p c w = cond (ltb last_command w) (stopped Stop.UnknownCommand c) (acted w p (put Register.Cmd w c))

-- ---- frames

-- 01, "FDRI": the current frame "steps on by one (after F-1: none)"
unfoldable pub stepped : ℕ → ℕ → Option ℕ
stepped d n = cond (ltb (n + 1) (count_at d)) (Some (n + 1)) None

-- a frame that is not the packet's last is stored as its last word arrives; stop 9: "a frame to store, current frame none"
unfoldable pub frame_stored : Option ℕ → ℕ → ℕ → Control → ℕ → Transition
frame_stored (Some n) left filled c w =
    transition (Phase.Data Register.Fdri (left - 1) 0) (with_current (stepped c.device n) (put Register.Fdri w c)) (Event.KeepAndStore filled w n)
frame_stored None left filled c w = stopped Stop.NoCurrentFrame c

-- 01: "Each frame but the packet's last is stored as its last word arrives ... The last is not stored; from its last word until
-- power-on a frame is in hand."
unfoldable pub fdri_word : ℕ → ℕ → Control → ℕ → Transition
fdri_word left filled c w =
    cond (leb left 1) (transition (ended Register.Fdri) (with_flags (raised Register.Fdri c.flags) (put Register.Fdri w c)) (Event.Keep filled w))
    (cond (ltb (filled + 1) (length_at c.device))
    (transition (Phase.Data Register.Fdri (left - 1) (filled + 1)) (put Register.Fdri w c) (Event.Keep filled w))
    (frame_stored c.current left filled c w))

-- 01, "MFWR": "at the second word the frame in hand is stored at the current frame, which doesn't move"
unfoldable pub mfwr_stored : Option ℕ → Control → ℕ → Transition
mfwr_stored (Some n) c w = transition (ended Register.Mfwr) (put Register.Mfwr w c) (Event.Store n)
mfwr_stored None c w = stopped Stop.NoCurrentFrame c

unfoldable pub mfwr_word : ℕ → ℕ → Control → ℕ → Transition
mfwr_word left filled c w =
    cond (leb left 1) (mfwr_stored c.current c w) (transition (Phase.Data Register.Mfwr (left - 1) filled) (put Register.Mfwr w c) Event.Nothing)

-- ---- IDCODE and FLR

-- 01, stop 4: "IDCODE word not the part's"
unfoldable pub idcode_word : Phase → Control → ℕ → Transition
idcode_word p c w =
    cond (eqb w (idcode_at c.device))
    (transition p (with_flags (raised Register.Idcode c.flags) (put Register.Idcode w c)) Event.Nothing)
    (stopped Stop.WrongIdcode c)

-- 01, stop 5: "FLR word not L-1"
unfoldable pub flr_word : Phase → Control → ℕ → Transition
flr_word p c w =
    cond (eqb (w + 1) (length_at c.device))
    (transition p (with_flags (raised Register.Flr c.flags) (put Register.Flr w c)) Event.Nothing)
    (stopped Stop.WrongFrameLength c)

-- ---- a word in each phase

-- 01: "Several words to one register are written in turn"
unfoldable pub data_word : Register → ℕ → ℕ → Control → ℕ → Transition
data_word Register.Crc left filled c w = crc_word (onward Register.Crc left filled) c w
data_word Register.Far left filled c w = far_word (onward Register.Far left filled) c w
data_word Register.Fdri left filled c w = fdri_word left filled c w
data_word Register.Cmd left filled c w = cmd_word (onward Register.Cmd left filled) c w
data_word Register.Ctl left filled c w = transition (onward Register.Ctl left filled) (put Register.Ctl w c) Event.Nothing
data_word Register.Mask left filled c w = transition (onward Register.Mask left filled) (put Register.Mask w c) Event.Nothing
data_word Register.Lout left filled c w = transition (onward Register.Lout left filled) (put Register.Lout w c) Event.Nothing
data_word Register.Cor left filled c w = transition (onward Register.Cor left filled) (put Register.Cor w c) Event.Nothing
data_word Register.Mfwr left filled c w = mfwr_word left filled c w
data_word Register.Flr left filled c w = flr_word (onward Register.Flr left filled) c w
data_word Register.Idcode left filled c w = idcode_word (onward Register.Idcode left filled) c w

-- a whole word; hunting takes bytes and stopped takes nothing, so that both stay as they are
unfoldable pub word : Phase → Control → ℕ → Transition
word (Phase.Hunting b) c w = transition (Phase.Hunting b) c Event.Nothing
word (Phase.Header o) c w = header_word o c w
word (Phase.Data r left filled) c w = data_word r left filled c w
word Phase.Crc c w = crc_word (Phase.Header None) c w
word (Phase.Stopped s) c w = transition (Phase.Stopped s) c Event.Nothing
