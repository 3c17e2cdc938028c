-- An accepted image loses nothing of its record, and the image of a record of which nothing is lost is accepted and decodes to it.
-- An image's bytes are bytes, so every number that is read from them has its size; then by the round trip.
use Rattle.std.specs.Prelude.{◌≡◌, true, List, ℕ, ◌*◌, ◌^◌, ◌<◌, eqb, drop}
use Rattle.std.proofs.Common.{◌∙◌, sym, ap, eq-eqb, eqb-true}
use Rattle.std.proofs.Math.Bool.{and-eq-true_iff}
use native.Mathlib.Omega.{arith}
use Rattle.std.proofs.Math.ListN.{length}
use Rattle.parts.specs.Laws.Cases.{either}
use Rattle.words.specs.Laws.ByteLists.{AreBytes, bytes_drop}
use Rattle.words.proofs.Laws.WordBytes.{bytes_small, word_small, words_small, words_length}
use Rattle.config.specs.declared.PartialWord.{PartialWord}
use Rattle.record.specs.declared.Record.{Record}
use Rattle.record_image.specs.Image.{image_words, image, record_length, encoded}
use Rattle.record_image.specs.Compare.{is_image, accepted_image}
use Rattle.record_image.specs.Decode.{image_word, pending_of, phase_of, partial_of, current_of, registers_of, control_of, decoded}
use Rattle.record_image.specs.Laws.KeptRecord.{PartialBytes, PhaseInRange, CurrentInRange, InRange, Lossless}
use Rattle.record_image.proofs.Laws.ImageRoundTrip.{decode_image, accepted_image_lem, image_accepted}

-- ---- numbers that are read from bytes

pending_small : (count number : ℕ) → PartialBytes (pending_of count number)
unfolding pending_of
pending_small count number =
    either PartialBytes (eqb count 0) (λ _. tt)
    (λ _. either PartialBytes (eqb count 1) (λ _. omega arith)
    (λ _. either PartialBytes (eqb count 2) (λ _. omega arith) (λ _. omega arith)))

module _ (bytes : List ℕ) (small : AreBytes bytes) where
  image_word_small : (k : ℕ) → image_word bytes k < 2 ^ 32
  image_word_small k = word_small bytes (4 * k) small

  phase_small : (number argument j k : ℕ) (window : PartialWord) → PartialBytes window → PhaseInRange (phase_of number argument (image_word bytes j) (image_word bytes k) window)
  unfolding phase_of
  phase_small number argument j k window h =
      either PhaseInRange (eqb number 0) (λ _. h)
      (λ _. either PhaseInRange (eqb number 1) (λ _. tt)
      (λ _. either PhaseInRange (eqb number 2) (λ _. (image_word_small j, image_word_small k))
      (λ _. either PhaseInRange (eqb number 3) (λ _. tt) (λ _. tt))))

  partial_small : (number : ℕ) (b : PartialWord) → PartialBytes b → PartialBytes (partial_of number b)
  unfolding partial_of
  partial_small number b h = either PartialBytes (eqb number 0) (λ _. tt) (λ _. h)

  current_small : (k : ℕ) → CurrentInRange (current_of (image_word bytes k))
  unfolding current_of
  current_small k = either CurrentInRange (eqb (image_word bytes k) 0xFFFFFFFF) (λ _. tt) (λ _. image_word_small k)

  -- a record that is read from bytes is in range
  pub decoded_range : InRange (decoded bytes)
  unfolding decoded control_of registers_of
  decoded_range =
      let w = image_word_small in
      let z : 0 < 2 ^ 32 = omega arith in
      let pending = pending_small (image_word bytes 5) (image_word bytes 6) in
      record {
        phase = phase_small (image_word bytes 1) (image_word bytes 2) 3 4 _ pending;
        device = w 0;
        registers = (w 9, (w 10, (w 11, (z, (w 13, (w 14, (w 15, (z, (w 17, (w 18, (w 19, (w 20, (z, (z, (w 23, tt)))))))))))))));
        current = current_small 7;
        partial = partial_small (image_word bytes 1) _ pending;
        frame = words_small 213 (drop 96 bytes) (bytes_drop 96 bytes small);
        length = words_length 213 (drop 96 bytes);
      }

-- ---- accepted images

image_bytes : (d : Record) → AreBytes (image d)
unfolding image
image_bytes d = bytes_small (image_words d)

pub accepted_bytes : (bytes : List ℕ) → accepted_image bytes ≡ true → AreBytes bytes
accepted_bytes bytes h = rw (accepted_image_lem bytes h) at (image_bytes (decoded bytes))

pub accepted_length : (bytes : List ℕ) → accepted_image bytes ≡ true → length bytes ≡ record_length
unfolding is_image
accepted_length bytes h = eqb-true (length bytes) record_length ((and-eq-true_iff (eqb (length bytes) record_length) _).0 h).0

-- an accepted image loses nothing of the record that it decodes to
pub accepted_lossless : (bytes : List ℕ) → accepted_image bytes ≡ true → Lossless (decoded bytes)
accepted_lossless bytes h =
    let r = decoded_range bytes (accepted_bytes bytes h) in
    record { range = r; whole = sym (decode_image (decoded bytes) r) ∙ ap decoded (accepted_image_lem bytes h) }

-- ---- records of which nothing is lost

module _ (d : Record) (bytes : List ℕ) (sized : length bytes ≡ record_length) where
  pub encoded_image : encoded d bytes ≡ image d
  unfolding encoded
  encoded_image = rw (eq-eqb (length bytes) record_length sized)

  -- written as an image and read again, it is accepted, and it is the record again
  pub written_accepted : Lossless d → accepted_image (encoded d bytes) ≡ true
  written_accepted k = rw encoded_image (image_accepted d k.range)

  pub written_decoded : Lossless d → decoded (encoded d bytes) ≡ d
  written_decoded k = rw encoded_image (decode_image d k.range ∙ k.whole)
