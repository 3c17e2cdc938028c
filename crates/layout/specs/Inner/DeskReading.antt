-- What a desk reads, a number whose refusal is told at its offset, and the end of a list, as the code passes them on.
use Rattle.std.specs.Prelude.{◌≡◌, ℕ, ◌+◌, ◌*◌, ◌≤◌, List, Bool, cond, ltb, length, Result, Ok, Err}
use Rattle.std.specs.Borrow.{Bor}
use Rattle.answers.specs.AnswerNumbers.{refused}
use Rattle.answers.specs.declared.Refusal.{Refusal}
use Rattle.answers.specs.declared.Refused.{Refused}
use Rattle.numbers.specs.Number.{NumberRead, number_at}
use Rattle.numbers.specs.Laws.ShortestForm.{number_spans}
use Rattle.numbers.specs.declared.Number.{Number}
use Rattle.layout.specs.Ownership.{for_desk}
use Rattle.layout.specs.Step.{Reading}
use Rattle.layout.specs.declared.FrameRange.{FrameRange}
use Rattle.layout.specs.declared.desk.Desk.{Desk}

-- the desk that names a device and a range and lends a layout
abbrev pub lender : ℕ → FrameRange → Bor (List ℕ) → Desk
lender d r layout = record { device = d; range = r; layout = layout }

-- what is read of a layout, for the device and the range of the desk that lends it
abbrev pub of_desk : {A : Type 0} → (ℕ → ℕ → (ℕ → Bool) → List ℕ → A) → Desk → A
of_desk read desk = for_desk read desk.device desk.range desk.layout.now

-- a number, its refusal told at the offset where it starts
abbrev pub ToldAt : ℕ → NumberRead → Result Number Refused → Type 0
ToldAt at x (Ok n) = x ≡ Ok n
ToldAt at x (Err e) = (x ≡ Err e.refusal) × (e.told ≡ at)

-- the offset after what was read
unfoldable pub ended : {A : Type 0} → Reading A → Result ℕ Refused
ended (Reading.Read x next) = Ok next
ended (Reading.Refused c at) = Err (refused c at)

-- the offset after k frames of 4·l bytes from an offset on, where the layout has them
unfoldable pub past_frames : ℕ → List ℕ → ℕ → ℕ → Result ℕ Refused
past_frames l b k body = cond (ltb (length b) (body + 4 * l * k)) (Err (refused Refusal.Missing (length b))) (Ok (body + 4 * l * k))

-- a number that is read ends in the layout
pub number_within : (b : List ℕ) (at : ℕ) (n : Number) → number_at b at ≡ Ok n → n.next ≤ length b
number_within b at n e = (number_spans b at n.value n.next e).within
