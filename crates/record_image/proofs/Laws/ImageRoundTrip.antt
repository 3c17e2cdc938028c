-- Encoding and decoding are inverse to each other, as far as an image keeps a record.
-- Word by word: each number of the head reads back, and the frame's words from their bytes.
use Rattle.std.specs.Prelude.{◌≡◌, refl, Bool, true, false, cond, List, [], ◌++◌, ℕ, ◌≤◌, eqb, length, get_or, drop, Option, Some, None}
use Rattle.std.proofs.Common.{◌∙◌, sym, ap, append-nil, arith, drop_of_length-le}
use Rattle.std.proofs.Math.Bool.{and-eq-true_iff}
use borrow.Author.Tests.{eq-eqb, eqb-true}
use Rattle.std.proofs.Math.Seq.{drop_at}
use Rattle.registers.specs.RegisterAddresses.{is_fdri}
use Rattle.config.specs.declared.Control.{Control}
use Rattle.config.specs.declared.Phase.{Phase}
use Rattle.words.specs.WordsInBytes.{bytes_of, words_at, starts}
use Rattle.words.specs.Laws.ByteLists.{AreWords, words_join}
use Rattle.words.proofs.Laws.WordBytes.{bytes_length, bytes_append, words_length, words_bytes, word_of_words}
use Rattle.words.proofs.Laws.WordTests.{starts_self, starts_true}
use Rattle.record.specs.declared.Record.{Record}
use Rattle.record_image.specs.Image.{words_filled, current_number, head_words, image_words, image, record_length}
use Rattle.record_image.specs.Compare.{is_image, accepted_image}
use Rattle.record_image.specs.Decode.{image_word, control_of, registers_of, decoded}
use Rattle.record_image.specs.Laws.KeptRecord.{InRange, kept_current, kept_phase, kept_control, kept}
use Rattle.record_image.specs.Inner.ImageStores.{head_length, image_length}
use Rattle.record_image.specs.Laws.ImageNumbers.{head_words_lem}
use Rattle.record_image.specs.Laws.DecodedHead.{phase_of_lem, partial_of_lem, current_of_lem, flags_of_lem}

-- ---- decoding an image

module _ (d : Record) (r : InRange d) where
  image_words_lem : AreWords (image_words d)
  image_words_lem = words_join (head_words d.phase d.control) d.frame (head_words_lem d r) r.frame

  word_image : (k : ℕ) → image_word (image d) k ≡ get_or (image_words d) k 0
  unfolding image
  word_image k = word_of_words (image_words d) k image_words_lem

  frame_image : words_at (image d) 96 213 ≡ d.frame
  unfolding image
  frame_image =
      let head = head_words d.phase d.control in
      rw (bytes_append head d.frame, drop_at (bytes_of head) (bytes_of d.frame) 96 (omega (arith, bytes_length head, head_length d.phase d.control)), ← r.length)
      (words_bytes d.frame r.frame)

  -- an image decodes to what it keeps of its record
  pub decode_image : decoded (image d) ≡ kept d
  unfolding decoded control_of registers_of head_words
  decode_image =
      rw frame_image
      (simp word_image
      (rw (
        phase_of_lem d.phase d.control.partial r.phase,
        partial_of_lem d.phase d.control.partial r.partial,
        current_of_lem d.control.current,
        flags_of_lem d.control.flags,
      )))

-- ---- encoding what is kept

cond_twice : (on : Bool) (n : ℕ) → cond on (cond on n 0) 0 ≡ cond on n 0
cond_twice true n = refl
cond_twice false n = refl

frame_kept : (none : Bool) (n : ℕ) → eqb n 0xFFFFFFFF ≡ none → current_number (cond none None (Some n)) ≡ n
frame_kept true n e = sym (eqb-true n 0xFFFFFFFF e)
frame_kept false n e = refl

current_kept : (c : Option ℕ) → current_number (kept_current c) ≡ current_number c
current_kept (Some n) = frame_kept (eqb n 0xFFFFFFFF) n refl
current_kept None = refl

head_kept : (p : Phase) (c : Control) → head_words (kept_phase p) (kept_control p c) ≡ head_words p c
unfolding head_words words_filled
head_kept (Phase.Hunting b) c = rw (current_kept c.current)
head_kept (Phase.Header o) c = rw (current_kept c.current)
head_kept (Phase.Data r left filled) c = rw (cond_twice (is_fdri r) filled, current_kept c.current)
head_kept Phase.Crc c = rw (current_kept c.current)
head_kept (Phase.Stopped s) c = rw (current_kept c.current)

-- what is left of a record in its image has the same image
pub image_kept : (d : Record) → image (kept d) ≡ image d
unfolding image
image_kept d = rw (head_kept d.phase d.control)

-- an image is what encoding the record decoded from it gives
pub image_decode : (d : Record) → InRange d → image (decoded (image d)) ≡ image d
image_decode d r = ap image (decode_image d r) ∙ image_kept d

-- ---- accepted images

starts_equal : (xs ys : List ℕ) → length ys ≡ length xs → starts xs ys ≡ true → xs ≡ ys
starts_equal xs ys e h =
    let none : length ys ≤ length xs = omega arith in
    sym (starts_true xs ys h ∙ ap (λ zs. xs ++ zs) (drop_of_length-le ys none) ∙ append-nil xs)

module _ (d : Record) (e : length d.frame ≡ 213) where
  -- the test tells the image of a record from all other bytes
  pub image_matches : is_image d (image d) ≡ true
  unfolding is_image
  image_matches = rw (eq-eqb _ record_length (image_length d e)) (rw (append-nil (image d)) at (starts_self (image d) []))

  pub matches_image : (bytes : List ℕ) → is_image d bytes ≡ true → image d ≡ bytes
  unfolding is_image
  matches_image bytes h =
      let both = (and-eq-true_iff (eqb (length bytes) record_length) (starts (image d) bytes)).0 h in
      starts_equal (image d) bytes (omega (arith, eqb-true (length bytes) record_length both.0, image_length d e)) both.1

decoded_frame : (bytes : List ℕ) → length (decoded bytes).frame ≡ 213
unfolding decoded
decoded_frame bytes = words_length 213 (drop 96 bytes)

-- "Encoding the record decoded from an accepted image gives the image."
pub accepted_image_lem : (bytes : List ℕ) → accepted_image bytes ≡ true → image (decoded bytes) ≡ bytes
accepted_image_lem bytes h = matches_image (decoded bytes) (decoded_frame bytes) bytes h

-- the image of every record in range is accepted
pub image_accepted : (d : Record) → InRange d → accepted_image (image d) ≡ true
image_accepted d r = ap (is_image (decoded (image d))) (sym (image_decode d r)) ∙ image_matches (decoded (image d)) (decoded_frame (image d))
