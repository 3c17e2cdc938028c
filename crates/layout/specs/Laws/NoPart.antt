-- A step that is read for a device number that names no part is always refused: one that has its form, and a count, as a frame
-- outside the part. There F is 0, and so every first frame plus count, and every count but 0, is above it.
use Rattle.std.specs.Prelude.{◌≡◌, refl, ℕ, ◌+◌, ◌≤◌, ◌<◌, List, Ok, Err}
use Rattle.std.proofs.Common.{arith}
use borrow.Author.Tests.{le-ltb, lt-ltb, ne_eqb}
use Rattle.parts.specs.Table.{part_of, figure_of, count_at, length_at}
use Rattle.answers.specs.AnswerNumbers.{refused}
use Rattle.answers.specs.declared.Refusal.{Refusal}
use Rattle.numbers.specs.Number.{read, number_at}
use Rattle.layout.specs.Ownership.{owns}
use Rattle.layout.specs.StepReading.{StepRead, judged_write, write_count, write_first, judged_multi, multi_count, step_kind, desk_step}
use Rattle.layout.specs.Laws.StepViews.{write_view, multi_view}
use Rattle.layout.specs.declared.FrameRange.{FrameRange}
use Rattle.layout.specs.declared.step.PlacedStep.{PlacedStep}

no_frames : (d : ℕ) → 8 ≤ d → count_at d ≡ 0
unfolding part_of figure_of
no_frames d h = rw (le-ltb d 8 h)

module _ (d : ℕ) (r : FrameRange) (b : List ℕ) (none : 8 ≤ d) where
  -- no step is read
  pub no_part_refused : (at : ℕ) → (c : Refusal) × (told : ℕ) × (desk_step d r b at ≡ Err (refused c told))
  no_part_refused at = go (desk_step d r b at) refl
    where
      go : (s : StepRead) → desk_step d r b at ≡ s → (c : Refusal) × (told : ℕ) × (s ≡ Err (refused c told))
      go (Ok (PlacedStep.FrameWrite n k body next)) e =
          let v = write_view (length_at d) (count_at d) (owns r) b at n k body next e in absurd (omega (arith, v.positive, v.part, no_frames d none))
      go (Ok (PlacedStep.MultiFrameWrite k body targets next)) e =
          let v = multi_view (length_at d) (count_at d) (owns r) b at k body targets next e in absurd (omega (arith, v.positive, v.part, no_frames d none))
      go (Err x) e = (x.refusal, x.told, refl)

  -- kind 1: 34 at the first frame
  pub no_part_write : (at first n count k body : ℕ) → number_at b at ≡ Ok (read 1 first) → number_at b first ≡ Ok (read n count)
      → number_at b count ≡ Ok (read k body) → 0 < k → desk_step d r b at ≡ Err (refused Refusal.OutsidePart first)
  unfolding step_kind write_first write_count judged_write
  no_part_write at first n count k body kind_read first_read count_read_lem positive =
      rw (kind_read, first_read, count_read_lem, ne_eqb k 0 (omega arith), lt-ltb (count_at d) (n + k) (omega (arith, no_frames d none)))

  -- kind 2: 34 at the count
  pub no_part_multi : (at count k body : ℕ) → number_at b at ≡ Ok (read 2 count) → number_at b count ≡ Ok (read k body) → 0 < k
      → desk_step d r b at ≡ Err (refused Refusal.OutsidePart count)
  unfolding step_kind multi_count judged_multi
  no_part_multi at count k body kind_read count_read_lem positive =
      rw (kind_read, count_read_lem, ne_eqb k 0 (omega arith), lt-ltb (count_at d) k (omega (arith, no_frames d none)))
