-- A list of steps done one by one: the first, then the others from the offset after it.
-- A machine that does two lists does the first, then the second; the first step of a list that was read is one of the two.
use Rattle.std.specs.Prelude.{◌≡◌, refl, ℕ, ◌+◌, ◌-◌, ◌*◌, ◌≤◌, ◌<◌, List, [], ◌∷◌, ◌++◌, Bool, true, Ok}
use Rattle.std.proofs.Common.{arith, mul-le-mul_left}
use Rattle.layout.specs.Step.{Step, Reading, listed}
use Rattle.layout.specs.StepReading.{StepRead, step_at, steps_at, step_offset}
use Rattle.layout.specs.ReferenceMachine.{step_applied, steps_applied, made_of}
use Rattle.layout.specs.Laws.StepViews.{write_view, multi_view}
use Rattle.layout.specs.Inner.TargetNumbers.{numbers_at, Roomy, targets_numbers}
use Rattle.layout.specs.Laws.AcceptedLayout.{is_read}
use Rattle.layout.specs.Inner.FirstStep.{step_of, steps_none, steps_first}
use Rattle.layout.specs.declared.step.PlacedStep.{PlacedStep}

-- a step's frames lie in a memory of n bytes
abbrev pub StepRoom : ℕ → List ℕ → ℕ → PlacedStep → Type 0
StepRoom l b n (PlacedStep.FrameWrite first k body next) = 4 * l * (first + k) ≤ n
StepRoom l b n (PlacedStep.MultiFrameWrite k body targets next) = Roomy l n (numbers_at b k targets)

done_append : (l : ℕ) (xs ys : List Step) (m : List ℕ) → steps_applied l (xs ++ ys) m ≡ steps_applied l ys (steps_applied l xs m)
unfolding steps_applied
done_append l [] ys m = refl
done_append l (x ∷ xs) ys m = done_append l xs ys (step_applied l x m)

made_listed : (l : ℕ) (r : Reading (List Step)) (m : List ℕ) → made_of l r m ≡ steps_applied l (listed r) m
unfolding made_of steps_applied listed
made_listed l (Reading.Read ss next) m = refl
made_listed l (Reading.Refused c at) m = refl

module _ (l f : ℕ) (own : ℕ → Bool) (b : List ℕ) where
  pub none_done : (n at : ℕ) (m : List ℕ) → n ≡ 0 → made_of l (steps_at l f own b n at) m ≡ m
  unfolding steps_applied
  none_done n at m e = rw (made_listed l (steps_at l f own b n at) m, steps_none l f own b n at e)

  pub step_made : (n at : ℕ) (s : StepRead) (m : List ℕ) → step_at l f own b at ≡ s → 0 < n → is_read (steps_at l f own b n at) ≡ true
      → (is_read (steps_at l f own b (n - 1) (step_offset s)) ≡ true)
      × (made_of l (steps_at l f own b (n - 1) (step_offset s)) (steps_applied l (step_of l b s) m) ≡ made_of l (steps_at l f own b n at) m)
  step_made n at s m e h t =
      let split = steps_first l f own b n at s e h t in
      let rest = steps_at l f own b (n - 1) (step_offset s) in (
        split.0,
        rw (made_listed l (steps_at l f own b n at) m, made_listed l rest (steps_applied l (step_of l b s) m), split.1, done_append l (step_of l b s) (listed rest) m),
      )

  -- a step that was read finds its frames in a memory of f frames
  pub step_roomy : (at n : ℕ) (s : PlacedStep) → step_at l f own b at ≡ Ok s → 4 * l * f ≤ n → StepRoom l b n s
  step_roomy at n (PlacedStep.FrameWrite first k body next) e h =
      let v = write_view l f own b at first k body next e in
      omega (arith, mul-le-mul_left (4 * l) v.part)
  step_roomy at n (PlacedStep.MultiFrameWrite k body targets next) e h =
      let v = multi_view l f own b at k body targets next e in
      let all = targets_numbers l f own b k 0 targets v.list next v.list_read in
      rw all.0 (all.1 n h)
