-- What a state remembers from one byte to the next, beside what consistency says of it, and the word that an event keeps.
-- Definitions alone, for the laws beside it: docs/C-INTERFACE.md, "The record's image, edition 1", words 2 to 23.
use Rattle.std.specs.Prelude.{◌≡◌, cond, ◌^◌, ◌<◌}
use Rattle.words.specs.Laws.ByteLists.{AreWords}
use Rattle.registers.specs.RegisterAddresses.{is_fdri}
use Rattle.config.specs.declared.PartialWord.{PartialWord}
use Rattle.config.specs.declared.Control.{Control}
use Rattle.config.specs.declared.Phase.{Phase}
use Rattle.config.specs.declared.Event.{Event}
use Rattle.record_image.specs.Image.{register_words}
use Rattle.record_image.specs.Laws.KeptRecord.{PartialBytes}

-- no partial word while hunting, and words filled in FDRI's data alone
abbrev pub Held : Phase → PartialWord → Type 0
Held (Phase.Hunting w) b = PartialBytes w × (b ≡ PartialWord.Zero)
Held (Phase.Header o) b = PartialBytes b
Held (Phase.Data r left filled) b = PartialBytes b × (cond (is_fdri r) filled 0 ≡ filled)
Held Phase.Crc b = PartialBytes b
Held (Phase.Stopped s) b = PartialBytes b

pub record Remembered (p : Phase) (c : Control) : Type 0 where
  pub held : Held p c.partial
  pub registers : AreWords (register_words c.registers)

-- a word of 32 bits
abbrev pub KeepsWord : Event → Type 0
KeepsWord Event.Nothing = Unit {0}
KeepsWord (Event.Keep at v) = v < 2 ^ 32
KeepsWord (Event.KeepAndStore at v n) = v < 2 ^ 32
KeepsWord (Event.Store n) = Unit {0}
