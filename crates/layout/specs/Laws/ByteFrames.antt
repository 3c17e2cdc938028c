-- The frames of a layout's steps are bytes, since the layout is.
-- By induction over the steps; each frame is a part of the layout.
use Rattle.std.specs.Prelude.{◌≡◌, Bool, drop}
use Rattle.std.proofs.Common.{ap}
use Rattle.std.proofs.Math.Path.{subst}
use Prim.Native.Nat.{ℕ, zero, suc, ◌*◌}
use mathlib.Core.List.{List, [], ◌∷◌}
use Rattle.words.specs.Laws.ByteLists.{AreBytes, bytes_take, bytes_drop}
use Rattle.layout.specs.Step.{Step, FrameWrite, MultiFrameWrite, Read, listed, frames}
use Rattle.layout.specs.StepReading.{steps_at}
use Rattle.layout.specs.Layout.{layout_read}
use Rattle.layout.specs.Laws.LayoutViews.{FirstStep, first_step, layout_view}

-- frames of bytes
abbrev pub AllBytes : List (List ℕ) → Type 0
AllBytes [] = Unit {0}
AllBytes (x ∷ xs) = AreBytes x × AllBytes xs

-- a step whose frames are bytes, and a list of such
abbrev pub ByteStep : Step → Type 0
ByteStep (FrameWrite n fs) = AllBytes fs
ByteStep (MultiFrameWrite x ts) = AreBytes x

abbrev pub ByteSteps : List Step → Type 0
ByteSteps [] = Unit {0}
ByteSteps (s ∷ ss) = ByteStep s × ByteSteps ss

frames_bytes : (l k : ℕ) (xs : List ℕ) → AreBytes xs → AllBytes (frames l k xs)
unfolding frames
frames_bytes l zero xs h = tt
frames_bytes l (suc k) xs h = (bytes_take (4 * l) xs h, frames_bytes l k (drop (4 * l) xs) (bytes_drop (4 * l) xs h))

module _ (l f : ℕ) (own : ℕ → Bool) (b : List ℕ) (bytes : AreBytes b) where
  steps_bytes : (n at : ℕ) (ss : List Step) (next : ℕ) → steps_at l f own b n at ≡ Read ss next → ByteSteps ss
  unfolding steps_at listed
  steps_bytes zero at ss next e = subst ByteSteps (ap listed e) tt
  steps_bytes (suc n) at ss next e = go (first_step l f own b n at ss next e) (λ after rest. steps_bytes n after rest next)
    where
      go : FirstStep l f own b n at ss next → ((after : ℕ) (rest : List Step) → steps_at l f own b n after ≡ Read rest next → ByteSteps rest) → ByteSteps ss
      go (FirstStep.write first k body after rest v split r) later = rw split (frames_bytes l k (drop body b) (bytes_drop body b bytes), later after rest r)
      go (FirstStep.multi k body targets after rest v split r) later = rw split (bytes_take (4 * l) (drop body b) (bytes_drop body b bytes), later after rest r)

  pub accepted_bytes : (d : ℕ) (ss : List Step) (next : ℕ) → layout_read l f own b d ≡ Read ss next → ByteSteps ss
  accepted_bytes d ss next e = let v = layout_view l f own b d ss next e in steps_bytes v.number v.first ss next v.all_read
