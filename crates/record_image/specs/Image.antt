-- The image of a device record: 948 bytes, 237 words of 32 bits, high byte first.
-- Source: docs/C-INTERFACE.md, "The record's image, edition 1"; each definition cites its row of the table.
use Rattle.std.specs.Prelude.{ℕ, ◌+◌, ◌*◌, ◌^◌, List, [], ◌∷◌, ◌++◌, Bool, cond, eqb, length, Option, Some, None}
use Rattle.registers.specs.RegisterAddresses.{address_of, is_fdri}
use Rattle.answers.specs.StopsAndRefusals.{stop_number}
use Rattle.config.specs.declared.PartialWord.{PartialWord}
use Rattle.config.specs.declared.Flags.{Flags}
use Rattle.config.specs.declared.Registers.{Registers}
use Rattle.config.specs.declared.Control.{Control}
use Rattle.config.specs.declared.Phase.{Phase}
use Rattle.record.specs.declared.Record.{Record}
use Rattle.words.specs.WordsInBytes.{bytes_of}
use Rattle.registers.specs.declared.Register.{Register}

-- ---- words 1 to 4: the phase

-- 1: "phase: 0 hunting, 1 header, 2 data, 3 crc, 4 stopped"
abbrev pub phase_number : Phase → ℕ
phase_number (Phase.Hunting b) = 0
phase_number (Phase.Header o) = 1
phase_number (Phase.Data r left filled) = 2
phase_number Phase.Crc = 3
phase_number (Phase.Stopped s) = 4

-- 2, header: "the register that a type 2 header would use, plus 1, or 0 for none"
abbrev pub open_number : Option Register → ℕ
open_number None = 0
open_number (Some r) = address_of r + 1

-- 2: what the phase is about; "data: the register; stopped: the stop number; else 0"
abbrev pub argument : Phase → ℕ
argument (Phase.Hunting b) = 0
argument (Phase.Header o) = open_number o
argument (Phase.Data r left filled) = address_of r
argument Phase.Crc = 0
argument (Phase.Stopped s) = stop_number s

-- 3: "data: words left; else 0"
abbrev pub words_left : Phase → ℕ
words_left (Phase.Hunting b) = 0
words_left (Phase.Header o) = 0
words_left (Phase.Data r left filled) = left
words_left Phase.Crc = 0
words_left (Phase.Stopped s) = 0

-- 4: "data of FDRI: words of the frame filled; else 0"
unfoldable pub words_filled : Phase → ℕ
words_filled (Phase.Hunting b) = 0
words_filled (Phase.Header o) = 0
words_filled (Phase.Data r left filled) = cond (is_fdri r) filled 0
words_filled Phase.Crc = 0
words_filled (Phase.Stopped s) = 0

-- ---- words 5 and 6: bytes of a word that is not yet whole

-- "the partial word, or ... the sync window while hunting"
abbrev pub pending : Phase → PartialWord → PartialWord
pending (Phase.Hunting b) partial = b
pending (Phase.Header o) partial = partial
pending (Phase.Data r left filled) partial = partial
pending Phase.Crc partial = partial
pending (Phase.Stopped s) partial = partial

-- 5: "how many bytes", "0 to 3"
abbrev pub bytes_count : PartialWord → ℕ
bytes_count PartialWord.Zero = 0
bytes_count (PartialWord.One a) = 1
bytes_count (PartialWord.Two a b) = 2
bytes_count (PartialWord.Three a b c) = 3

-- 6: "those bytes as one number, the first byte highest"
abbrev pub bytes_number : PartialWord → ℕ
bytes_number PartialWord.Zero = 0
bytes_number (PartialWord.One a) = a
bytes_number (PartialWord.Two a b) = a * 2 ^ 8 + b
bytes_number (PartialWord.Three a b c) = a * 2 ^ 16 + b * 2 ^ 8 + c

-- ---- words 7 to 23: control state

-- 7: "current frame, FFFFFFFF for none"
abbrev pub current_number : Option ℕ → ℕ
current_number (Some n) = n
current_number None = 0xFFFFFFFF

-- a flag at its place
abbrev pub flag_bit : Bool → ℕ → ℕ
flag_bit on weight = cond on weight 0

-- 8: "bit 0 IDCODE accepted, 1 FLR accepted, 2 a frame in the buffer, 3 GHIGH, 4 start pending, 5 a check has passed since START (or
-- power-on), 6 started; others 0"
unfoldable pub flag_bits : Flags → ℕ
flag_bits f =
    flag_bit f.idcode_ok 1 + flag_bit f.flr_ok 2 + flag_bit f.buffer_valid 4 + flag_bit f.ghigh 8 + flag_bit f.start_pending 16
    + flag_bit f.check_passed 32 + flag_bit f.started 64

-- 9 to 23: "registers 0 to 14 at their addresses; 9 is the CRC register; those that cannot be written or do not exist are 0"
abbrev pub register_words : Registers → List ℕ
register_words r =
    r.crc ∷ r.far ∷ r.fdri ∷ 0
    ∷ r.cmd ∷ r.ctl ∷ r.mask ∷ 0
    ∷ r.lout ∷ r.cor ∷ r.mfwr ∷ r.flr
    ∷ 0 ∷ 0 ∷ r.idcode ∷ []

-- ---- the image

-- words 0 to 23; 0: "device number"
unfoldable pub head_words : Phase → Control → List ℕ
head_words p c =
    c.device ∷ phase_number p ∷ argument p ∷ words_left p ∷ words_filled p ∷ bytes_count (pending p c.partial) ∷ bytes_number (pending p c.partial)
    ∷ current_number c.current ∷ flag_bits c.flags ∷ register_words c.registers

-- 24 to 236: "the frame buffer's 213 words"
abbrev pub image_words : Record → List ℕ
image_words d = head_words d.phase d.control ++ d.frame

-- "237 words of 32 bits, high byte first"
unfoldable pub image : Record → List ℕ
image d = bytes_of (image_words d)

-- "948 bytes"
abbrev pub record_length : ℕ
record_length = 948

-- what writing a record into lent bytes leaves: the image where the length is its length, else the bytes as they were
unfoldable pub encoded : Record → List ℕ → List ℕ
encoded d bytes = cond (eqb (length bytes) record_length) (image d) bytes
