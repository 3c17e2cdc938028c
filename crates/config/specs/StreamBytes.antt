-- Bytes: the hunt for the sync word, and words from four bytes, high byte first.
-- Sources: 001, "Command Words"; 01, "Words and packets", second paragraph.
use Rattle.std.specs.Prelude.{ℕ, Bool, cond, ◌&&◌, eqb, None}
use Rattle.words.specs.WordsInBytes.{word_of}
use Rattle.config.specs.ControlState.{with_partial, transition}
use Rattle.config.specs.DataWords.{word}
use Rattle.config.specs.declared.PartialWord.{PartialWord}
use Rattle.config.specs.declared.Control.{Control}
use Rattle.config.specs.declared.Phase.{Phase}
use Rattle.config.specs.declared.Event.TheVariants as Event
use Rattle.config.specs.declared.Transition.{Transition}

-- 01: "Hunting ends when the last four bytes since hunting began are AA 99 55 66"
unfoldable pub is_sync : ℕ → ℕ → ℕ → ℕ → Bool
is_sync a b c d = eqb a 0xAA && eqb b 0x99 && eqb c 0x55 && eqb d 0x66

unfoldable pub hunted : PartialWord → ℕ → Phase
hunted PartialWord.Zero x = Phase.Hunting (PartialWord.One x)
hunted (PartialWord.One a) x = Phase.Hunting (PartialWord.Two a x)
hunted (PartialWord.Two a b) x = Phase.Hunting (PartialWord.Three a b x)
hunted (PartialWord.Three a b c) x = cond (is_sync a b c x) (Phase.Header None) (Phase.Hunting (PartialWord.Three b c x))

-- 01: "Then bytes are taken in fours, high byte first"
unfoldable pub gathered : PartialWord → Phase → Control → ℕ → Transition
gathered PartialWord.Zero p c x = transition p (with_partial (PartialWord.One x) c) Event.Nothing
gathered (PartialWord.One a) p c x = transition p (with_partial (PartialWord.Two a x) c) Event.Nothing
gathered (PartialWord.Two a b) p c x = transition p (with_partial (PartialWord.Three a b x) c) Event.Nothing
gathered (PartialWord.Three a b d) p c x = word p (with_partial PartialWord.Zero c) (word_of a b d x)

-- one byte; a stopped machine takes none
unfoldable pub byte : Phase → Control → ℕ → Transition
byte (Phase.Hunting b) c x = transition (hunted b x) (with_partial PartialWord.Zero c) Event.Nothing
byte (Phase.Header o) c x = gathered c.partial (Phase.Header o) c x
byte (Phase.Data r left filled) c x = gathered c.partial (Phase.Data r left filled) c x
byte Phase.Crc c x = gathered c.partial Phase.Crc c x
byte (Phase.Stopped s) c x = transition (Phase.Stopped s) c Event.Nothing
