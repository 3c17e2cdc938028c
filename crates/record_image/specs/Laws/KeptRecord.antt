-- Records whose numbers have the sizes that the code's types give them, and what an image keeps of a record.
-- Definitions alone, for the laws beside it: docs/C-INTERFACE.md, "The record's image, edition 1", words 4 to 7.
use Rattle.std.specs.Prelude.{◌^◌, ◌<◌, ◌≡◌, cond, eqb, length as length·, Option, Some, None, ℕ}
use Rattle.words.specs.Laws.ByteLists.{AreWords}
use Rattle.registers.specs.RegisterAddresses.{is_fdri}
use Rattle.config.specs.declared.PartialWord.{PartialWord}
use Rattle.config.specs.declared.Control.{Control}
use Rattle.config.specs.declared.Phase.{Phase}
use Rattle.record.specs.declared.Record.{Record}
use Rattle.record_image.specs.Image.{register_words}

-- ---- sizes

-- bytes of 8 bits
abbrev pub PartialBytes : PartialWord → Type 0
PartialBytes PartialWord.Zero = Unit {0}
PartialBytes (PartialWord.One a) = a < 2 ^ 8
PartialBytes (PartialWord.Two a b) = (a < 2 ^ 8) × (b < 2 ^ 8)
PartialBytes (PartialWord.Three a b c) = (a < 2 ^ 8) × (b < 2 ^ 8) × (c < 2 ^ 8)

abbrev pub PhaseInRange : Phase → Type 0
PhaseInRange (Phase.Hunting b) = PartialBytes b
PhaseInRange (Phase.Header o) = Unit {0}
PhaseInRange (Phase.Data r left filled) = (left < 2 ^ 32) × (filled < 2 ^ 32)
PhaseInRange Phase.Crc = Unit {0}
PhaseInRange (Phase.Stopped s) = Unit {0}

abbrev pub CurrentInRange : Option ℕ → Type 0
CurrentInRange (Some n) = n < 2 ^ 32
CurrentInRange None = Unit {0}

pub record InRange (d : Record) : Type 0 where
  pub phase : PhaseInRange d.phase
  pub device : d.control.device < 2 ^ 32
  pub registers : AreWords (register_words d.control.registers)
  pub current : CurrentInRange d.control.current
  pub partial : PartialBytes d.control.partial
  pub frame : AreWords d.frame
  pub length : length· d.frame ≡ 213

-- ---- what an image keeps

-- 4: words filled "data of FDRI ...; else 0"
abbrev pub kept_phase : Phase → Phase
kept_phase (Phase.Hunting b) = Phase.Hunting b
kept_phase (Phase.Header o) = Phase.Header o
kept_phase (Phase.Data r left filled) = Phase.Data r left (cond (is_fdri r) filled 0)
kept_phase Phase.Crc = Phase.Crc
kept_phase (Phase.Stopped s) = Phase.Stopped s

-- 5 and 6: the window takes the partial word's place while hunting
abbrev pub kept_partial : Phase → PartialWord → PartialWord
kept_partial (Phase.Hunting w) b = PartialWord.Zero
kept_partial (Phase.Header o) b = b
kept_partial (Phase.Data r left filled) b = b
kept_partial Phase.Crc b = b
kept_partial (Phase.Stopped s) b = b

-- 7: "FFFFFFFF for none"
abbrev pub kept_current : Option ℕ → Option ℕ
kept_current (Some n) = cond (eqb n 0xFFFFFFFF) None (Some n)
kept_current None = None

abbrev pub kept_control : Phase → Control → Control
kept_control p c = record { device = c.device; registers = c.registers; flags = c.flags; current = kept_current c.current; partial = kept_partial p c.partial }

-- the record as its image has it
abbrev pub kept : Record → Record
kept d = record { phase = kept_phase d.phase; control = kept_control d.phase d.control; frame = d.frame }

-- a record of which its image loses nothing
pub record Lossless (d : Record) : Type 0 where
  pub range : InRange d
  pub whole : kept d ≡ d
