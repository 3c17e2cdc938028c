-- The record that bytes would be the image of: total, with any reading for numbers that name nothing.
-- Source: docs/C-INTERFACE.md, "The record's image, edition 1"; each definition cites its row of the table.
use Rattle.std.specs.Prelude.{ℕ, ◌*◌, ◌-◌, ◌/◌, ◌%◌, ◌^◌, List, cond, eqb, Option, Some, None, unwrap_or}
use Rattle.words.specs.WordsInBytes.{word_at, words_at}
use Rattle.registers.specs.RegisterAddresses.{register_at}
use Rattle.registers.specs.declared.Register.{Register}
use Rattle.answers.specs.declared.Stop.{Stop}
use Rattle.config.specs.declared.PartialWord.{PartialWord}
use Rattle.config.specs.declared.Flags.{Flags}
use Rattle.config.specs.declared.Registers.{Registers}
use Rattle.config.specs.declared.Control.{Control}
use Rattle.config.specs.declared.Phase.{Phase}
use Rattle.record.specs.declared.Record.{Record}

-- word k: "words of 32 bits, high byte first"; bytes that are missing are 0
abbrev pub image_word : List ℕ → ℕ → ℕ
image_word bytes k = word_at bytes (4 * k)

-- ---- words 1 to 6: the phase

-- 2, header: "the register that a type 2 header would use, plus 1, or 0 for none"
unfoldable pub open_of : ℕ → Option Register
open_of n = cond (eqb n 0) None (register_at (n - 1))

-- 2, data: "the register", CRC for an address of none that can be written
unfoldable pub register_of : ℕ → Register
register_of n = unwrap_or (register_at n) Register.Crc

-- 2, stopped: "the stop number", the last stop for any other number
unfoldable pub stop_of : ℕ → Stop
stop_of n =
    cond (eqb n 1) Stop.BadHeader
    (cond (eqb n 2) Stop.BadRegister
    (cond (eqb n 3) Stop.ReadOperation
    (cond (eqb n 4) Stop.WrongIdcode
    (cond (eqb n 5) Stop.WrongFrameLength
    (cond (eqb n 6) Stop.NotReady
    (cond (eqb n 7) Stop.WrongCount
    (cond (eqb n 8) Stop.CrcMismatch
    (cond (eqb n 9) Stop.NoCurrentFrame Stop.UnknownCommand))))))))

-- 5 and 6: "how many bytes", 3 for any number over 2; "those bytes as one number, the first byte highest"
unfoldable pub pending_of : ℕ → ℕ → PartialWord
pending_of count number =
    cond (eqb count 0) PartialWord.Zero
    (cond (eqb count 1) (PartialWord.One (number % 2 ^ 8))
    (cond (eqb count 2) (PartialWord.Two (number / 2 ^ 8 % 2 ^ 8) (number % 2 ^ 8))
    (PartialWord.Three (number / 2 ^ 16 % 2 ^ 8) (number / 2 ^ 8 % 2 ^ 8) (number % 2 ^ 8))))

-- 1 to 4: "phase: 0 hunting, 1 header, 2 data, 3 crc, 4 stopped", stopped for any other number
unfoldable pub phase_of : ℕ → ℕ → ℕ → ℕ → PartialWord → Phase
phase_of number argument left filled window =
    cond (eqb number 0) (Phase.Hunting window)
    (cond (eqb number 1) (Phase.Header (open_of argument))
    (cond (eqb number 2) (Phase.Data (register_of argument) left filled)
    (cond (eqb number 3) Phase.Crc (Phase.Stopped (stop_of argument)))))

-- 5 and 6: "the partial word, or ... the sync window while hunting", when the partial word is empty
unfoldable pub partial_of : ℕ → PartialWord → PartialWord
partial_of number bytes = cond (eqb number 0) PartialWord.Zero bytes

-- ---- words 7 to 23: control state

-- 7: "current frame, FFFFFFFF for none"
unfoldable pub current_of : ℕ → Option ℕ
current_of n = cond (eqb n 0xFFFFFFFF) None (Some n)

-- 8: "bit 0 IDCODE accepted, 1 FLR accepted, 2 a frame in the buffer, 3 GHIGH, 4 start pending, 5 a check has passed since START (or
-- power-on), 6 started"
abbrev pub flags_of : ℕ → Flags
flags_of n = record {
  idcode_ok = eqb (n % 2) 1;
  flr_ok = eqb (n / 2 % 2) 1;
  buffer_valid = eqb (n / 4 % 2) 1;
  ghigh = eqb (n / 8 % 2) 1;
  start_pending = eqb (n / 16 % 2) 1;
  check_passed = eqb (n / 32 % 2) 1;
  started = eqb (n / 64 % 2) 1;
}

-- 9 to 23: "registers 0 to 14 at their addresses; 9 is the CRC register"
unfoldable pub registers_of : List ℕ → Registers
registers_of bytes = record {
  crc = image_word bytes 9;
  far = image_word bytes 10;
  fdri = image_word bytes 11;
  cmd = image_word bytes 13;
  ctl = image_word bytes 14;
  mask = image_word bytes 15;
  lout = image_word bytes 17;
  cor = image_word bytes 18;
  mfwr = image_word bytes 19;
  flr = image_word bytes 20;
  idcode = image_word bytes 23;
}

-- 0: "device number"
unfoldable pub control_of : List ℕ → PartialWord → Control
control_of bytes partial = record {
  device = image_word bytes 0;
  registers = registers_of bytes;
  flags = flags_of (image_word bytes 8);
  current = current_of (image_word bytes 7);
  partial = partial;
}

-- ---- the record

-- 24 to 236: "the frame buffer's 213 words", from byte 96 on
unfoldable pub decoded : List ℕ → Record
decoded bytes = record {
  phase = phase_of (image_word bytes 1) (image_word bytes 2) (image_word bytes 3) (image_word bytes 4) (pending_of (image_word bytes 5) (image_word bytes 6));
  control = control_of bytes (partial_of (image_word bytes 1) (pending_of (image_word bytes 5) (image_word bytes 6)));
  frame = words_at bytes 96 213;
}
