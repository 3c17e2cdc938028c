-- The reference machine, which does a layout's steps on the frames of a memory.
-- Source: 01, "Layouts", second paragraph: "Demand 3 does the steps on a plain machine: F frames of 4·L bytes, at first the
-- memory before the load. It is fed the part and the layout, and sees no record and no stream. Each step works on what the last one left."
use Rattle.std.specs.Prelude.{ℕ, ◌+◌, List, [], ◌∷◌}
use Rattle.parts.specs.Table.{length_at, count_at}
use Rattle.parts.specs.FrameMemory.{placed}
use Rattle.layout.specs.Ownership.{range}
use Rattle.layout.specs.Step.{Step, FrameWrite, MultiFrameWrite, Reading}
use Rattle.layout.specs.Layout.{desk_layout}

module _ (l : ℕ) where
  -- "Kind 1 at first frame f: for each i under k, frame f+i becomes the step's frame i"
  unfoldable pub frames_written : ℕ → List (List ℕ) → List ℕ → List ℕ
  frames_written n [] m = m
  frames_written n (x ∷ xs) m = frames_written (n + 1) xs (placed l n x m)

  -- "Kind 2: each target becomes the step's one frame"
  unfoldable pub spread : List ℕ → List ℕ → List ℕ → List ℕ
  spread x [] m = m
  spread x (t ∷ ts) m = spread x ts (placed l t x m)

  unfoldable pub step_applied : Step → List ℕ → List ℕ
  step_applied (FrameWrite n fs) m = frames_written n fs m
  step_applied (MultiFrameWrite x ts) m = spread x ts m

  -- "Each step works on what the last one left"; "after no steps, all" frames stay
  unfoldable pub steps_applied : List Step → List ℕ → List ℕ
  steps_applied [] m = m
  steps_applied (s ∷ ss) m = steps_applied ss (step_applied s m)

  -- "A refused layout has no stream and does nothing"
  unfoldable pub made_of : Reading (List Step) → List ℕ → List ℕ
  made_of (Reading.Read ss next) m = steps_applied ss m
  made_of (Reading.Refused c at) m = m

-- "It is fed the part and the layout": it reads the layout for the whole part
abbrev pub machine : ℕ → List ℕ → List ℕ → List ℕ
machine d b m = made_of (length_at d) (desk_layout d (range 0 (count_at d)) b) m
