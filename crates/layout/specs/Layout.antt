-- Reading a whole layout, and checking it for a device and the range that the desk names.
-- Sources: 01, "Layouts": "A layout: edition 1, device, step count (at most 4096), steps, end"; "Checks: 21, 37, then the layout
-- from front to back"; "The stream that is written": the count of words; 02, W2, for the numbers of Trailing and TooManySteps.
use Rattle.std.specs.Prelude.{ℕ, ◌+◌, ◌*◌, List, [], ◌∷◌, Bool, cond, eqb, ltb, length, Result, Ok, Err}
use Rattle.parts.specs.Table.{part_of, length_at, count_at}
use Rattle.answers.specs.declared.Refusal.{Refusal}
use Rattle.numbers.specs.Number.{NumberRead, number_at}
use Rattle.layout.specs.Ownership.{for_desk}
use Rattle.layout.specs.Step.{Step, FrameWrite, MultiFrameWrite, Reading, Read, Refused}
use Rattle.layout.specs.StepReading.{steps_at}
use Rattle.layout.specs.declared.FrameRange.{FrameRange}
use Rattle.layout.specs.declared.step.StepList.{StepList}
use Rattle.answers.specs.AnswerNumbers.{refused, Answer}
use Rattle.parts.specs.declared.table.Part.{Part}

-- "for extra bytes, the first of them", 47 by 02
unfoldable pub end_read : List ℕ → Reading (List Step) → Reading (List Step)
end_read b (Reading.Read ss next) = cond (ltb next (length b)) (Refused Refusal.Trailing next) (Read ss next)
end_read b (Reading.Refused c at) = Refused c at

-- "step count (at most 4096)", more are 46 by 02
abbrev pub most_steps : ℕ
most_steps = 4096

module _ (l f : ℕ) (own : ℕ → Bool) (b : List ℕ) where
  unfoldable pub count_read : ℕ → NumberRead → Reading (List Step)
  count_read at (Ok n) = cond (ltb most_steps n.value) (Refused Refusal.TooManySteps at) (end_read b (steps_at l f own b n.value n.next))
  count_read at (Err c) = Refused c at

  -- the layout's device is d
  unfoldable pub device_read : ℕ → ℕ → NumberRead → Reading (List Step)
  device_read d at (Ok v) = cond (eqb v.value d) (count_read v.next (number_at b v.next)) (Refused Refusal.WrongDevice at)
  device_read d at (Err c) = Refused c at

  -- "edition 1"
  unfoldable pub edition_read : ℕ → ℕ → NumberRead → Reading (List Step)
  edition_read d at (Ok v) = cond (eqb v.value 1) (device_read d v.next (number_at b v.next)) (Refused Refusal.WrongEdition at)
  edition_read d at (Err c) = Refused c at

  -- the layout that begins at an offset
  abbrev pub layout_at : ℕ → ℕ → Reading (List Step)
  layout_at d at = edition_read d at (number_at b at)

  -- a layout from its first byte on
  abbrev pub layout_read : ℕ → Reading (List Step)
  layout_read d = layout_at d 0

-- ---- a layout, as a desk reads it

-- the layout that begins at an offset, for the desk's device number d and range r
abbrev pub desk_layout_at : ℕ → FrameRange → List ℕ → ℕ → Reading (List Step)
desk_layout_at d r b at = for_desk layout_at d r b d at

abbrev pub desk_layout : ℕ → FrameRange → List ℕ → Reading (List Step)
desk_layout d r b = for_desk layout_read d r b d

-- how many steps an accepted layout has, and the offset at which they begin: its step count is its third number, after an edition and a
-- device of one byte each. None where no number stands there
unfoldable pub step_list_of : NumberRead → StepList
step_list_of (Ok n) = record { count = n.value; start = n.next }
step_list_of (Err c) = record { count = 0; start = 0 }

abbrev pub step_list : List ℕ → StepList
step_list b = step_list_of (number_at b 2)

-- ---- the words of the stream

-- "plus 7 + (k+1)·L for kind 1, 7 + L + 5k for kind 2"
unfoldable pub step_word_count : ℕ → Step → ℕ
step_word_count l (FrameWrite n fs) = 7 + (length fs + 1) * l
step_word_count l (MultiFrameWrite x ts) = 7 + l + 5 * length ts

unfoldable pub steps_word_count : ℕ → List Step → ℕ
steps_word_count l [] = 0
steps_word_count l (s ∷ ss) = step_word_count l s + steps_word_count l ss

-- "Words: 12, plus"
abbrev pub stream_word_count : ℕ → List Step → ℕ
stream_word_count l ss = 12 + steps_word_count l ss

-- ---- the check

unfoldable pub check_answer : ℕ → Reading (List Step) → Answer
check_answer l (Reading.Read ss next) = Ok (4 * stream_word_count l ss)
check_answer l (Reading.Refused c at) = Err (refused c at)

-- "Checks: 21, 37, then the layout"; 37: "seat's first frame plus count above F"; "21 and 37 tell 0"
unfoldable pub check_for : Result Part Refusal → ℕ → FrameRange → Reading (List Step) → Answer
check_for (Ok p) d r x = cond (ltb (count_at d) (r.first + r.count)) (Err (refused Refusal.WrongRange 0)) (check_answer (length_at d) x)
check_for (Err c) d r x = Err (refused c 0)

-- the check of the layout that begins at an offset
abbrev pub check_at : ℕ → FrameRange → List ℕ → ℕ → Answer
check_at d r b at = check_for (part_of d) d r (desk_layout_at d r b at)

abbrev pub check : ℕ → FrameRange → List ℕ → Answer
check d r b = check_at d r b 0
