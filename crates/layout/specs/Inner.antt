pub mod StepSizes  -- the bytes and the words of a step are few
pub mod DeskReading  -- what a desk reads, a number whose refusal is told at its offset, and the end of a list
pub mod FirstStep  -- the first step of a list that was read, and the others from the offset after it
pub mod CheckLoops  -- one turn of each loop of the check, and its own refusals in their order
pub mod TargetNumbers  -- the targets of an accepted step as numbers one after the other
pub mod StepAnswers  -- the number of a step's refusal
