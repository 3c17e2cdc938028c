-- The bytes of a step's frames, and the words that it has in the stream, are few, so that no sum of the code wraps.
-- By the limits of the parts: L is at most 213, F at most 1945.
use Rattle.std.specs.Prelude.{◌≡◌, ℕ, ◌+◌, ◌*◌, ◌≤◌, List, Ok}
use Rattle.std.proofs.Common.{arith}
use native.Mathlib.Nat.{mul-le-mul}
use Rattle.parts.specs.Table.{length_at, count_at}
use Rattle.parts.proofs.Laws.Figures.{length_fits, count_fits}
use Rattle.layout.specs.StepReading.{desk_step}
use Rattle.layout.specs.Laws.StepViews.{write_view, multi_view}
use Rattle.layout.specs.declared.FrameRange.{FrameRange}
use Rattle.layout.specs.declared.step.PlacedStep.{PlacedStep}

-- k frames of the part
pub frames_small : (d k : ℕ) → k ≤ count_at d → 4 * length_at d * k ≤ 852 * 1945
frames_small d k h = mul-le-mul {n₁ = 4 * length_at d} {n₂ = 852} {m₂ = 1945} (omega (arith, length_fits d)) (omega (arith, h, count_fits d))

module _ (d : ℕ) (r : FrameRange) (b : List ℕ) (at : ℕ) where
  pub write_words : (n k body next : ℕ) → desk_step d r b at ≡ Ok (PlacedStep.FrameWrite n k body next) → 7 + (k + 1) * length_at d ≤ 414505
  write_words n k body next e =
      let few : k ≤ 1945 = omega (arith, (write_view _ _ _ _ _ n k body next e).part, count_fits d) in
      omega (arith, mul-le-mul {n₁ = k + 1} {n₂ = 1946} {m₂ = 213} (omega arith) (length_fits d))

  pub multi_words : (k body targets next : ℕ) → desk_step d r b at ≡ Ok (PlacedStep.MultiFrameWrite k body targets next) → 7 + length_at d + 5 * k ≤ 414505
  multi_words k body targets next e = omega (arith, (multi_view _ _ _ _ _ k body targets next e).part, count_fits d, length_fits d)
