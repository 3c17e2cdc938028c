-- 02, W2: "31 is no longer given": no layout is refused with 31, neither as a whole nor at a step of it.
-- No refusal has that number, whatever it is a refusal of.
use Rattle.std.specs.Prelude.{◌≡◌, List, ℕ, Ok, Err}
use Rattle.std.proofs.Common.{arith}
use Rattle.answers.specs.AnswerNumbers.{answer_number}
use Rattle.answers.proofs.Laws.SeparateNumbers.{no_refusal_31, no_answer_31}
use Rattle.layout.specs.Layout.{check}
use Rattle.layout.specs.StepReading.{StepRead, step_refusal}
use Rattle.layout.specs.declared.FrameRange.{FrameRange}
use Rattle.layout.specs.declared.step.PlacedStep.{PlacedStep}

pub no_layout_31 : (d : ℕ) (r : FrameRange) (b : List ℕ) → answer_number (check d r b) ≡ 31 → ⊥
no_layout_31 d r b = no_answer_31 (check d r b)

pub no_step_31 : (s : StepRead) → step_refusal s ≡ 31 → ⊥
no_step_31 (Ok (PlacedStep.FrameWrite n k body next)) h = omega (arith, h)
no_step_31 (Ok (PlacedStep.MultiFrameWrite k body targets next)) h = omega (arith, h)
no_step_31 (Err e) h = no_refusal_31 e.refusal h
