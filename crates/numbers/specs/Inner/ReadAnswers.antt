-- The number of a number's refusal is that of any answer.
-- By its two cases.
use Rattle.std.specs.Prelude.{◌≡◌, refl, Ok, Err}
use Rattle.answers.specs.AnswerNumbers.{refused_number}
use Rattle.numbers.specs.Number.{NumberRead, read_refusal}

pub read_refused : (a : NumberRead) → refused_number a ≡ read_refusal a
read_refused (Ok n) = refl
read_refused (Err c) = refl
