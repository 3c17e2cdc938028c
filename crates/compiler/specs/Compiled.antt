-- A layout compiled into an output: the check's refusals, then 36, then the stream.
-- Sources: 01, "Layouts": "Checks: 21, 37, then the layout from front to back, then 36"; "36 tells the length needed"; "No refusal
-- touches the output; success answers 0 and the stream's length and touches only its bytes"; "The stream that is written".
use Rattle.std.specs.Prelude.{ℕ, List, [], ◌++◌, cond, ltb, length, drop, Ok, Err}
use Rattle.answers.specs.declared.Refusal.TheVariants as Refusal
use Rattle.layout.specs.Step.{Step, Reading}
use Rattle.layout.specs.Layout.{desk_layout, check}
use Rattle.layout.specs.declared.FrameRange.{FrameRange}
use Rattle.stream.specs.Stream.{stream}
use Rattle.answers.specs.AnswerNumbers.{refused, Answer}

-- "A refused layout has no stream"
unfoldable pub stream_of : ℕ → Reading (List Step) → List ℕ
stream_of d (Reading.Read ss next) = stream d ss
stream_of d (Reading.Refused c at) = []

-- the stream of a layout that is read for a device and a range
abbrev pub stream_for : ℕ → FrameRange → List ℕ → List ℕ
stream_for d r b = stream_of d (desk_layout d r b)

pub record Compiled : Type 0 where
  pub answer : Answer
  pub output : List ℕ

abbrev pub compiles : Answer → List ℕ → Compiled
compiles v out = record { answer = v; output = out }

-- "touches only its bytes": the output's own follow those of the stream
abbrev pub overwritten : List ℕ → List ℕ → List ℕ
overwritten bytes out = bytes ++ drop (length bytes) out

-- what a check's answer leads to
unfoldable pub compiled_after : Answer → ℕ → FrameRange → List ℕ → List ℕ → Compiled
compiled_after (Ok n) d r b out =
    cond (ltb (length out) n) (compiles (Err (refused Refusal.ShortOutput n)) out) (compiles (Ok n) (overwritten (stream_for d r b) out))
compiled_after (Err e) d r b out = compiles (Err e) out

abbrev pub compiled : ℕ → FrameRange → List ℕ → List ℕ → Compiled
compiled d r b out = compiled_after (check d r b) d r b out
