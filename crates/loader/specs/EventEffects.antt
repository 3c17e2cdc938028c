-- The frame buffer and the memory, and what an event does to each.
-- Source: 01, "Words and packets", the paragraphs "FDRI" and "MFWR".
use Rattle.std.specs.Prelude.{ℕ, ◌+◌, ◌*◌, List, cond, leb, length, take, set}
use Rattle.words.specs.WordsInBytes.{bytes_of}
use Rattle.parts.specs.FrameMemory.{placed}
use Rattle.config.specs.declared.Event.{Event}

-- the buffer after an event
unfoldable pub buffered : Event → List ℕ → List ℕ
buffered Event.Nothing f = f
buffered (Event.Keep at w) f = set f at w
buffered (Event.KeepAndStore at w n) f = set f at w
buffered (Event.Store n) f = f

-- frame n of frames of l words becomes the first l words of the buffer, where the memory holds that frame, as it does for every
-- consistent record and its part's memory
unfoldable pub store_within : ℕ → ℕ → List ℕ → List ℕ → List ℕ
store_within l n buffer m = cond (leb (4 * l * n + 4 * l) (length m)) (placed l n (bytes_of (take l buffer)) m) m

-- the memory after an event, of frames of l words; a word that is kept and stored is in the frame that is stored
unfoldable pub stored : ℕ → Event → List ℕ → List ℕ → List ℕ
stored l Event.Nothing f m = m
stored l (Event.Keep at w) f m = m
stored l (Event.KeepAndStore at w n) f m = store_within l n (set f at w) m
stored l (Event.Store n) f m = store_within l n f m
