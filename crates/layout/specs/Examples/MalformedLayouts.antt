-- 02, W2: a layout that each of 41 to 47 is given for, "at the same places" as 01's examples have them; device 0, the whole part.
-- By computation.
use Rattle.std.specs.Prelude.{◌≡◌, refl, List, [], ◌∷◌, ◌++◌, ℕ, replicate}
use Rattle.parts.specs.Table.{parts, part_of, figure_of, frame_length, frame_count}
use Rattle.answers.specs.AnswerNumbers.{answer_number, answer_value}
use Rattle.numbers.specs.Number.{last_group, low_group, groups}
use Rattle.layout.specs.Ownership.{range, owns}
use Rattle.layout.specs.StepReading.{judged_target, and_target, targets_at, targets_read, judged_write, write_count, write_first, judged_multi, multi_count, step_kind, and_step, steps_at}
use Rattle.layout.specs.Step.{before}
use Rattle.layout.specs.Layout.{end_read, count_read, device_read, edition_read, check_answer, check_for, check}

-- number and place of the answer to a layout
abbrev told : List ℕ → List ℕ
told b = let v = check 0 (range 0 368) b in answer_number v ∷ answer_value v ∷ []

-- 81 00 00 00: the edition is not in its shortest form
pub bad_form : told (129 ∷ 0 ∷ 0 ∷ 0 ∷ []) ≡ 41 ∷ 0 ∷ []
unfolding parts part_of figure_of frame_length frame_count last_group low_group groups edition_read check_answer check_for
bad_form = refl

-- no bytes
pub missing : told [] ≡ 42 ∷ 0 ∷ []
unfolding parts part_of figure_of frame_length frame_count groups edition_read check_answer check_for
missing = refl

-- 01 00 FF: "A number cut short by the end of the file is 42", where it starts
pub cut_short : told (1 ∷ 0 ∷ 255 ∷ []) ≡ 42 ∷ 2 ∷ []
unfolding parts part_of figure_of frame_length frame_count last_group low_group groups count_read device_read edition_read check_answer check_for
cut_short = refl

-- 01 00 01 03: a step of kind 3
pub unknown_kind : told (1 ∷ 0 ∷ 1 ∷ 3 ∷ []) ≡ 43 ∷ 3 ∷ []
unfolding parts part_of figure_of frame_length frame_count last_group groups step_kind and_step steps_at end_read count_read device_read edition_read check_answer check_for
unknown_kind = refl

-- 01 00 01 01 07 00: no frames from frame 7 on
pub zero_count : told (1 ∷ 0 ∷ 1 ∷ 1 ∷ 7 ∷ 0 ∷ []) ≡ 44 ∷ 5 ∷ []
unfolding parts part_of figure_of frame_length frame_count last_group groups judged_write write_count write_first step_kind and_step steps_at end_read count_read device_read edition_read check_answer check_for
zero_count = refl

-- 01 00 01 02 02, a frame of zeros, 03 03: target 3 twice
pub not_rising : told ((1 ∷ 0 ∷ 1 ∷ 2 ∷ 2 ∷ []) ++ replicate 148 0 ++ (3 ∷ 3 ∷ [])) ≡ 45 ∷ 154 ∷ []
unfolding parts part_of figure_of frame_length frame_count last_group groups owns before judged_target and_target targets_at targets_read judged_multi multi_count step_kind and_step steps_at end_read count_read device_read edition_read check_answer check_for
not_rising = refl

-- 01 00 81 20: 4,097 steps
pub too_many_steps : told (1 ∷ 0 ∷ 129 ∷ 32 ∷ []) ≡ 46 ∷ 2 ∷ []
unfolding parts part_of figure_of frame_length frame_count last_group low_group groups count_read device_read edition_read check_answer check_for
too_many_steps = refl

-- 01 00 00 00: no steps, and a byte more
pub trailing : told (1 ∷ 0 ∷ 0 ∷ 0 ∷ []) ≡ 47 ∷ 3 ∷ []
unfolding parts part_of figure_of frame_length frame_count last_group groups steps_at end_read count_read device_read edition_read check_answer check_for
trailing = refl
