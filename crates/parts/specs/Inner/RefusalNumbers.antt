-- The number of a refusal of the table, and of one on a frame's number, is that of any answer.
-- By the cases of each.
use Rattle.std.specs.Prelude.{◌≡◌, refl, ℕ, Option, Some, None, Result, Ok, Err}
use Rattle.answers.specs.AnswerNumbers.{refused_number}
use Rattle.answers.specs.declared.Refusal.{Refusal}
use Rattle.parts.specs.Table.{part_refusal}
use Rattle.parts.specs.FrameAddress.{number_refusal}
use Rattle.parts.specs.declared.table.Part.{Part}

pub part_refused : (a : Result Part Refusal) → refused_number a ≡ part_refusal a
part_refused (Ok p) = refl
part_refused (Err c) = refl

pub number_refused : (a : Result (Option ℕ) Refusal) → refused_number a ≡ number_refusal a
number_refused (Ok (Some n)) = refl
number_refused (Ok None) = refl
number_refused (Err c) = refl
