-- Comparing bytes with an image, and the images that are accepted.
-- Source: docs/C-INTERFACE.md: "An image that is the image of no consistent record is refused with 22".
use Rattle.std.specs.Prelude.{ℕ, List, Bool, ◌&&◌, eqb, length}
use Rattle.words.specs.WordsInBytes.{starts}
use Rattle.record.specs.declared.Record.{Record}
use Rattle.record_image.specs.Image.{record_length, image}
use Rattle.record_image.specs.Decode.{decoded}

-- the bytes are the record's image
unfoldable pub is_image : Record → List ℕ → Bool
is_image d bytes = eqb (length bytes) record_length && starts (image d) bytes

-- bytes that are the image of the record that they decode to; that the record is consistent is judged by load
abbrev pub accepted_image : List ℕ → Bool
accepted_image bytes = is_image (decoded bytes) bytes
