-- The packets of what reading gives, a step or a refusal, and of the steps after it.
-- By the definitions' clauses, and by the first step of a list that was read.
use Rattle.std.specs.Prelude.{◌≡◌, refl, Bool, true, ℕ, ◌+◌, ◌-◌, ◌*◌, ◌≤◌, ◌<◌, List, [], ◌∷◌, ◌++◌, drop, replicate, Ok, Err}
use Rattle.parts.specs.Table.{length_at}
use Rattle.answers.specs.AnswerNumbers.{refused}
use Rattle.answers.specs.declared.Refusal.{Refusal}
use Rattle.layout.specs.Step.{listed}
use Rattle.layout.specs.StepReading.{StepRead, step_at, and_step, steps_at, step_offset}
use Rattle.layout.specs.Laws.AcceptedLayout.{is_read}
use Rattle.layout.specs.Inner.CheckLoops.{steps_more}
use Rattle.layout.specs.Inner.FirstStep.{step_of}
use Rattle.layout.specs.Inner.TargetNumbers.{numbers_at}
use Rattle.layout.specs.declared.step.PlacedStep.{PlacedStep}
use Rattle.words.specs.WordsInBytes.{words_from}
use Rattle.stream.specs.StreamPackets.{Packet}
use Rattle.stream.specs.Stream.{to_frame, spread_packets, steps_packets}
use Rattle.compiler.specs.Inner.StepPackets.{write_packets as placed_write, multi_packets as placed_multi, step_put as placed_put, step_count as placed_count}

-- a step's frames are of a part of f frames, or it has a target
abbrev pub StepCount : ℕ → StepRead → Type 0
StepCount f (Ok (PlacedStep.FrameWrite n k body next)) = n + k ≤ f
StepCount f (Ok (PlacedStep.MultiFrameWrite k body targets next)) = 0 < k
StepCount f (Err e) = Unit {0}

module _ (d : ℕ) (b : List ℕ) (s : StepRead) where
  pub write_packets : (n k body next : ℕ) → s ≡ Ok (PlacedStep.FrameWrite n k body next)
      → steps_packets d (step_of (length_at d) b s)
      ≡ Packet.Command 1 ∷ to_frame d n ∷ Packet.FrameData (words_from (k * length_at d) (drop body b) ++ replicate (length_at d) 0) ∷ []
  write_packets n k body next e = rw e (placed_write d b (PlacedStep.FrameWrite n k body next) n k body next refl)

  pub multi_packets : (k body targets next : ℕ) → s ≡ Ok (PlacedStep.MultiFrameWrite k body targets next)
      → steps_packets d (step_of (length_at d) b s)
      ≡ Packet.Command 1 ∷ Packet.FrameData (words_from (length_at d) (drop body b) ++ replicate 0 0) ∷ spread_packets d (numbers_at b k targets)
  multi_packets k body targets next e = rw e (placed_multi d b (PlacedStep.MultiFrameWrite k body targets next) k body targets next refl)

  pub no_packets : (c : Refusal) (at : ℕ) → s ≡ Err (refused c at) → steps_packets d (step_of (length_at d) b s) ≡ []
  unfolding steps_packets step_of
  no_packets c at e = rw e

module _ (d l f : ℕ) (own : ℕ → Bool) (b : List ℕ) where
  pub step_put : (n at : ℕ) (s : StepRead) → step_at l f own b at ≡ s → 0 < n → is_read (steps_at l f own b n at) ≡ true
      → (is_read (steps_at l f own b (n - 1) (step_offset s)) ≡ true)
      × (steps_packets d (listed (steps_at l f own b n at)) ≡ steps_packets d (step_of l b s) ++ steps_packets d (listed (steps_at l f own b (n - 1) (step_offset s))))
  unfolding and_step is_read
  step_put n at (Ok s) e h t = placed_put d l f own b n at s e h t
  step_put n at (Err x) e h t = let no = rw (steps_more l f own b n at h, e) at t in cc

  pub step_count : (at : ℕ) (s : StepRead) → step_at l f own b at ≡ s → StepCount f s
  step_count at (Ok (PlacedStep.FrameWrite first k body next)) e = placed_count d l f own b at (PlacedStep.FrameWrite first k body next) e
  step_count at (Ok (PlacedStep.MultiFrameWrite k body targets next)) e = placed_count d l f own b at (PlacedStep.MultiFrameWrite k body targets next) e
  step_count at (Err x) e = tt
