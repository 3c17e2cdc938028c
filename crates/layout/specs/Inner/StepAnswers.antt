-- The number of a step's refusal is that of any answer.
-- By the cases of a step.
use Rattle.std.specs.Prelude.{◌≡◌, refl, Ok, Err}
use Rattle.answers.specs.AnswerNumbers.{answer_number}
use Rattle.layout.specs.declared.step.PlacedStep.{PlacedStep}
use Rattle.layout.specs.StepReading.{StepRead, step_refusal}

pub step_refused_number : (s : StepRead) → answer_number s ≡ step_refusal s
step_refused_number (Ok (PlacedStep.FrameWrite n k body next)) = refl
step_refused_number (Ok (PlacedStep.MultiFrameWrite k body targets next)) = refl
step_refused_number (Err e) = refl
