-- A list of steps that was read: its first step, from where its bytes lie in the layout, and the others from the offset after it.
-- By one turn of the reading; where a list was read, so were the others of it.
use Rattle.std.proofs.Math.Path.{◌≡◌}
use Rattle.std.specs.Prelude.{refl, ℕ, ◌+◌, ◌-◌, ◌*◌, ◌≤◌, ◌<◌, List, [], ◌∷◌, ◌++◌, Bool, true, length, take, drop, Ok, Err}
use Rattle.std.proofs.Math.Bool.{false}
use Rattle.std.proofs.Common.{arith}
use Rattle.answers.specs.declared.Refused.{Refused}
use Rattle.layout.specs.Step.{Step, FrameWrite, MultiFrameWrite, Reading, before, listed, frames}
use Rattle.layout.specs.StepReading.{StepRead, step_at, and_step, steps_at, step_offset}
use Rattle.layout.specs.Laws.StepViews.{write_view, multi_view}
use Rattle.layout.specs.Inner.CheckLoops.{steps_more}
use Rattle.layout.specs.Inner.TargetNumbers.{numbers_at, targets_numbers}
use Rattle.layout.specs.Laws.AcceptedLayout.{is_read}
use Rattle.layout.specs.declared.step.PlacedStep.{PlacedStep}

-- the one step that lies there, or none
unfoldable pub step_of : ℕ → List ℕ → StepRead → List Step
step_of l b (Ok (PlacedStep.FrameWrite n k body next)) = FrameWrite n (frames l k (drop body b)) ∷ []
step_of l b (Ok (PlacedStep.MultiFrameWrite k body targets next)) = MultiFrameWrite (take (4 * l) (drop body b)) (numbers_at b k targets) ∷ []
step_of l b (Err e) = []

-- its frames' bytes lie in the layout
abbrev pub StepBytes : ℕ → List ℕ → StepRead → Type 0
StepBytes l b (Ok (PlacedStep.FrameWrite n k body next)) = body + 4 * l * k ≤ length b
StepBytes l b (Ok (PlacedStep.MultiFrameWrite k body targets next)) = body + 4 * l ≤ length b
StepBytes l b (Err e) = Unit {0}

first_listed : (s : Step) (r : Reading (List Step)) → is_read (before s r) ≡ true → (is_read r ≡ true) × (listed (before s r) ≡ s ∷ listed r)
unfolding is_read before listed
first_listed s (Reading.Read ss next) e = (refl, refl)
first_listed s (Reading.Refused c at) e = let z : ◌≡◌ {A = ℕ} 0 1 = cc in absurd (omega arith)

module _ (l f : ℕ) (own : ℕ → Bool) (b : List ℕ) where
  pub steps_none : (n at : ℕ) → n ≡ 0 → listed (steps_at l f own b n at) ≡ []
  unfolding steps_at listed
  steps_none n at e = rw e

  -- where a list was read, no step of it is refused
  pub step_there : (n at : ℕ) (x : Refused) → step_at l f own b at ≡ Err x → 0 < n → is_read (steps_at l f own b n at) ≡ true → ⊥
  unfolding and_step is_read
  step_there n at x e h t =
      let none : is_read (steps_at l f own b n at) ≡ false = rw (steps_more l f own b n at h, e) in
      let z : ◌≡◌ {A = ℕ} 0 1 = cc in
      omega arith

  -- a list that was read goes on after its first step, whichever it is
  pub steps_first : (n at : ℕ) (s : StepRead) → step_at l f own b at ≡ s → 0 < n → is_read (steps_at l f own b n at) ≡ true
      → (is_read (steps_at l f own b (n - 1) (step_offset s)) ≡ true)
      × (listed (steps_at l f own b n at) ≡ step_of l b s ++ listed (steps_at l f own b (n - 1) (step_offset s)))
  unfolding and_step listed is_read step_offset step_of
  steps_first n at (Ok (PlacedStep.FrameWrite first k body next)) e h t =
      let more = steps_more l f own b n at h in
      rw (more, e) (first_listed (FrameWrite first (frames l k (drop body b))) _ (rw (more, e) at t))
  steps_first n at (Ok (PlacedStep.MultiFrameWrite k body targets next)) e h t =
      let v = multi_view l f own b at k body targets next e in
      let same = (targets_numbers l f own b k 0 targets v.list next v.list_read).0 in
      let more = steps_more l f own b n at h in
      rw (same, more, e, v.list_read) (first_listed (MultiFrameWrite (take (4 * l) (drop body b)) v.list) _ (rw (more, e, v.list_read) at t))
  steps_first n at (Err x) e h t = absurd (step_there n at x e h t)

  -- a step that was read finds its bytes
  pub step_bytes : (at : ℕ) (s : StepRead) → step_at l f own b at ≡ s → StepBytes l b s
  step_bytes at (Ok (PlacedStep.FrameWrite first k body next)) e = let v = write_view l f own b at first k body next e in rw (← v.size) v.within
  step_bytes at (Ok (PlacedStep.MultiFrameWrite k body targets next)) e = let v = multi_view l f own b at k body targets next e in rw (← v.place) v.room
  step_bytes at (Err x) e = tt
