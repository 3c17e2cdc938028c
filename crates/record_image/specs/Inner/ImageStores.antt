-- The stores and the comparisons of an image: the head's words and then the frame's.
-- By the laws of words that are joined from two lists.
use Rattle.std.specs.Prelude.{◌≡◌, refl, List, ◌&&◌, ℕ, ◌+◌, ◌*◌, length}
use Rattle.std.proofs.Common.{◌∙◌, arith, length-append}
use Rattle.words.specs.WordsInBytes.{put_words, starts, has_words}
use Rattle.words.proofs.Laws.WordBytes.{bytes_length}
use Rattle.words.proofs.Laws.WordStores.{sets_all, put_append}
use Rattle.words.proofs.Laws.WordTests.{has_append}
use Rattle.config.specs.declared.Phase.{Phase}
use Rattle.config.specs.declared.Control.{Control}
use Rattle.record.specs.declared.Record.{Record}
use Rattle.record_image.specs.Image.{head_words, image_words, image, record_length}

pub head_length : (p : Phase) (c : Control) → length (head_words p c) ≡ 24
unfolding head_words
head_length p c = refl

-- "948 bytes"
pub image_length : (d : Record) → length d.frame ≡ 213 → length (image d) ≡ record_length
unfolding image
image_length d e =
    omega (arith, bytes_length (image_words d), length-append (head_words d.phase d.control) d.frame, head_length d.phase d.control)

module _ (d : Record) where
  abbrev head : List ℕ
  head = head_words d.phase d.control

  head_end : 0 + 4 * length head ≡ 96
  head_end = omega (arith, head_length d.phase d.control)

  -- the head's words stored, and then the frame's
  pub image_put : (bytes : List ℕ) → length d.frame ≡ 213 → length bytes ≡ record_length → put_words (put_words bytes 0 head) 96 d.frame ≡ image d
  unfolding image
  image_put bytes e h =
      rw head_end at (put_append bytes 0 head d.frame) ∙ sets_all bytes (image d) (omega (arith, image_length d e))

  -- the head's words compared, and then the frame's
  pub image_has : (bytes : List ℕ) → starts (image d) bytes ≡ has_words bytes 0 head && has_words bytes 96 d.frame
  unfolding image
  image_has bytes = rw head_end at (has_append bytes 0 head d.frame)
