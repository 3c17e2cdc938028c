-- The example of 01's layouts that is marked P, as a closed statement.
-- By computation.
use Rattle.std.specs.Prelude.{◌≡◌, refl, [], ◌∷◌}
use Rattle.parts.specs.Table.{parts, part_of, figure_of, frame_length, frame_count}
use Rattle.answers.specs.AnswerNumbers.{answer_number, answer_value}
use Rattle.numbers.specs.Number.{last_group, low_group, groups}
use Rattle.layout.specs.Ownership.{range, owns, owns_run}
use Rattle.layout.specs.StepReading.{judged_write, write_count, write_first, step_kind, and_step, steps_at}
use Rattle.layout.specs.Layout.{end_read, count_read, device_read, edition_read, check_answer, check_for, check}

-- 01, "Worked by hand": frame 256 of device 0 is outside the 256 frames from 0 on; refused with 35 at the first frame, offset 4
pub frame_outside :
    (let v = check 0 (range 0 256) (1 ∷ 0 ∷ 1 ∷ 1 ∷ 128 ∷ 2 ∷ 1 ∷ []) in answer_number v ∷ answer_value v ∷ [])
    ≡ 35 ∷ 4 ∷ []
unfolding parts part_of figure_of frame_length frame_count last_group low_group groups owns owns_run judged_write write_count write_first step_kind and_step steps_at end_read count_read device_read edition_read check_answer check_for
frame_outside = refl
