-- The layout reader: what is made of a layout and an offset in it.
-- Source: 01, "Layouts": "A layout reader holds the lent layout and its place in it".
use Rattle.std.specs.Prelude.{ℕ, List}
use Rattle.std.specs.Borrow.{Bor}
use Rattle.layout.specs.StepReading.{StepRead, desk_step}
use Rattle.layout.specs.Layout.{check_at}
use Rattle.layout.specs.declared.FrameRange.{FrameRange}
use Rattle.layout.specs.declared.reader.LayoutReader.{LayoutReader}
use Rattle.answers.specs.AnswerNumbers.{Answer}

-- a reader of the layout, at an offset: 01's place; `now` is the bytes that are lent
abbrev pub opened : Bor (List ℕ) → ℕ → LayoutReader
opened layout at = record { layout = layout; at = at }

-- the step at the offset
abbrev pub step : ℕ → FrameRange → LayoutReader → StepRead
step d r reader = desk_step d r reader.layout.now reader.at

-- the check of the layout that begins at the offset
abbrev pub check : ℕ → FrameRange → LayoutReader → Answer
check d r reader = check_at d r reader.layout.now reader.at
