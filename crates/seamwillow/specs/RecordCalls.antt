-- What the C interface makes of a record's image: power-on, load and reconfiguration.
-- Sources: include/seamwillow.h; docs/C-INTERFACE.md, "The record's image, edition 1".
use Rattle.std.specs.Prelude.{ℕ, List, cond, eqb, length, Err}
use Rattle.answers.specs.StopsAndRefusals.{refusal_number}
use Rattle.answers.specs.AnswerNumbers.{answer_number, answer_value, load_number, refused, Answer}
use Rattle.answers.specs.declared.Refusal.TheVariants as Refusal
use Rattle.record.specs.PowerOn.{Outcome, power_on}
use Rattle.loader.specs.Load.{load}
use Rattle.layout.specs.declared.FrameRange.{FrameRange}
use Rattle.reconfigure.specs.Reconfigured.{Reconfigured, reconfigured}
use Rattle.record_image.specs.Image.{record_length, encoded}
use Rattle.record_image.specs.Decode.{decoded}
use Rattle.record_image.specs.Compare.{accepted_image}

-- the number returned, and the record's image, the memory and the count that are written
pub record Result : Type 0 where
  pub code : ℕ
  pub image : List ℕ
  pub memory : List ℕ
  pub taken : ℕ

-- 22, and nothing changed
abbrev pub refused_image : List ℕ → List ℕ → Result
refused_image i m = record { code = refusal_number Refusal.Inconsistent; image = i; memory = m; taken = 0 }

-- the outcome of a call, its record as an image in place of the one handed in
abbrev pub result_of : Outcome → List ℕ → Result
result_of o i = record { code = load_number o.answer; image = encoded o.«record» i; memory = o.memory; taken = o.taken }

-- "22 where record_len is not 948, judged first, and then nothing is written"
unfoldable pub powered_image : ℕ → List ℕ → List ℕ → Result
powered_image d i m = cond (eqb (length i) record_length) (result_of (power_on d m) i) (refused_image i m)

-- "An image that is the image of no consistent record is refused with 22, and nothing is changed": bytes that are no image
-- here, the image of an inconsistent record by load itself
unfoldable pub loaded_image : List ℕ → List ℕ → List ℕ → Result
loaded_image i m s = cond (accepted_image i) (result_of (load (decoded i) m s) i) (refused_image i m)

-- what a reconfiguration returns and writes: the output too, and the value told beside the number
pub record Changed : Type 0 where
  pub code : ℕ
  pub image : List ℕ
  pub memory : List ℕ
  pub output : List ℕ
  pub value : ℕ

-- an answer's number and value, and nothing changed
abbrev pub kept_image : Answer → List ℕ → List ℕ → List ℕ → Changed
kept_image a i m out = record { code = answer_number a; image = i; memory = m; output = out; value = answer_value a }

-- a reconfiguration, its record as an image in place of the one handed in
abbrev pub changed_of : Reconfigured → List ℕ → Changed
changed_of x i =
    record { code = answer_number x.answer; image = encoded x.«record» i; memory = x.memory; output = x.output; value = answer_value x.answer }

-- "22 and 23 as sw_load, then 24 ...; then 37, the layout's refusals and 36 as sw_compile": 22 for bytes that are no image here, all
-- else by the reconfiguration itself
unfoldable pub reconfigured_image : List ℕ → List ℕ → FrameRange → List ℕ → List ℕ → Changed
reconfigured_image i m r b out = cond (accepted_image i) (changed_of (reconfigured (decoded i) m r b out) i) (kept_image (Err (refused Refusal.Inconsistent 0)) i m out)
