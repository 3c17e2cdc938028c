-- A load by pieces, with the record's image between them, ends as the joined load.
-- The image between two pieces decodes to the very record that the first has left, so the loader's law joins them.
use Rattle.std.specs.Prelude.{◌≡◌, refl, List, ◌++◌, Bool, true, false, ℕ, ◌+◌}
use Rattle.std.proofs.Common.{◌∙◌, sym, ap}
use Rattle.words.specs.Laws.ByteLists.{AreBytes}
use Rattle.answers.specs.AnswerNumbers.{load_number}
use Rattle.record.specs.PowerOn.{Outcome}
use Rattle.loader.specs.Load.{load}
use Rattle.loader.specs.Laws.LoadKeeps.{load_pieces}
use Rattle.record_image.specs.Image.{encoded}
use Rattle.record_image.specs.Decode.{decoded}
use Rattle.record_image.specs.Compare.{accepted_image}
use Rattle.record_image.proofs.Laws.AcceptedImages.{accepted_length, accepted_lossless, encoded_image, written_accepted, written_decoded}
use Rattle.seamwillow.specs.RecordCalls.{Result, result_of, loaded_image}
use Rattle.seamwillow.specs.Laws.RefusedCalls.{loaded_refused, loaded_done}
use Rattle.seamwillow.specs.Laws.LeftImages.{load_lossless}

-- with n bytes taken before
abbrev pub later_result : ℕ → Result → Result
later_result n r = record { code = r.code; image = r.image; memory = r.memory; taken = n + r.taken }

-- 01: "A load by pieces, cut at any byte, ends as the joined load": the number, the record's image, the memory and the bytes
-- taken in all, whatever the image, the memory and the second piece are; the first piece is of bytes, as a `&[u8]` is
pub loaded_pieces : (i m a b : List ℕ) → AreBytes a
    → loaded_image i m (a ++ b) ≡ later_result (loaded_image i m a).taken (loaded_image (loaded_image i m a).image (loaded_image i m a).memory b)
loaded_pieces i m a b bytes = go (accepted_image i) refl
  where
    go : (t : Bool) → accepted_image i ≡ t
        → loaded_image i m (a ++ b) ≡ later_result (loaded_image i m a).taken (loaded_image (loaded_image i m a).image (loaded_image i m a).memory b)
    go false t = rw (loaded_refused i m (a ++ b) t, loaded_refused i m a t, loaded_refused i m b t)
    go true t =
        let d = decoded i in
        let o = load d m a in
        let j = encoded o.«record» i in
        let k = load_lossless d m a bytes (accepted_lossless i t) in
        let sized = accepted_length i t in
        let again = written_accepted o.«record» i sized k in
        let x = load o.«record» o.memory b in
        let same : encoded x.«record» i ≡ encoded x.«record» j = encoded_image x.«record» i sized ∙ sym (encoded_image x.«record» j (accepted_length j again)) in
        loaded_done i m (a ++ b) t ∙ ap (λ (y : Outcome). result_of y i) (load_pieces d m a b (accepted_lossless i t).range.length)
        ∙ ap (λ bytes. record { code = load_number x.answer; image = bytes; memory = x.memory; taken = o.taken + x.taken }) same
        ∙ sym (rw (loaded_done i m a t, loaded_done j o.memory b again, written_decoded o.«record» i sized k))
