-- The packets of a list of steps one by one: those of the first, then those of the others from the offset after it.
-- By the first step of a list that was read, and by induction over the steps.
use Rattle.std.specs.Prelude.{◌≡◌, refl, Bool, true, ℕ, ◌+◌, ◌-◌, ◌*◌, ◌≤◌, ◌<◌, drop, replicate, Ok}
use Rattle.std.proofs.Common.{◌∙◌, sym, ap, mul-le-mul, arith}
use mathlib.Core.List.{List, [], ◌∷◌, ◌++◌, append-nil, append_assoc}
use Rattle.parts.specs.Table.{length_at, count_at}
use Rattle.parts.proofs.Laws.Figures.{length_fits, count_fits}
use Rattle.layout.specs.Step.{Step, listed}
use Rattle.layout.specs.StepReading.{step_at, steps_at, step_offset, desk_steps}
use Rattle.layout.specs.Layout.{desk_layout}
use Rattle.layout.specs.Laws.StepViews.{write_view, multi_view}
use Rattle.layout.specs.Inner.TargetNumbers.{numbers_at}
use Rattle.layout.specs.Laws.AcceptedLayout.{is_read}
use Rattle.layout.specs.Inner.FirstStep.{step_of, steps_none, steps_first}
use Rattle.layout.specs.declared.FrameRange.{FrameRange}
use Rattle.layout.specs.declared.step.PlacedStep.{PlacedStep}
use Rattle.stream.specs.StreamPackets.{Packet}
use Rattle.words.specs.WordsInBytes.{words_from}
use Rattle.stream.specs.Stream.{to_frame, further, spread_packets, step_packets, steps_packets}
use Rattle.words.proofs.Laws.WordReads.{words_take}
use Rattle.stream.specs.Laws.FrameWords.{frames_from}

-- the packets of a step that was read, of the steps of a list, and of a layout's, as a desk reads them
abbrev pub packets_at : ℕ → List ℕ → PlacedStep → List Packet
packets_at d b s = steps_packets d (step_of (length_at d) b (Ok s))

abbrev pub list_packets : ℕ → FrameRange → List ℕ → ℕ → ℕ → List Packet
list_packets d r b n at = steps_packets d (listed (desk_steps d r b n at))

abbrev pub layout_packets : ℕ → FrameRange → List ℕ → List Packet
layout_packets d r b = steps_packets d (listed (desk_layout d r b))

-- a step's frames are of a part of f frames, or it has a target
abbrev pub StepCount : ℕ → PlacedStep → Type 0
StepCount f (PlacedStep.FrameWrite n k body next) = n + k ≤ f
StepCount f (PlacedStep.MultiFrameWrite k body targets next) = 0 < k

-- the first of the further targets
pub further_first : (d t : ℕ) (ts rest : List ℕ) → ts ≡ t ∷ rest → further d ts ≡ to_frame d t ∷ Packet.MultiFrame ∷ further d rest
unfolding further
further_first d t ts rest e = rw e

pub further_none : (d : ℕ) (ts : List ℕ) → ts ≡ [] → further d ts ≡ []
unfolding further
further_none d ts e = rw e

-- the first of the targets
pub spread_first : (d t : ℕ) (ts rest : List ℕ) → ts ≡ t ∷ rest → spread_packets d ts ≡ to_frame d t ∷ Packet.Command 2 ∷ Packet.MultiFrame ∷ further d rest
unfolding spread_packets
spread_first d t ts rest e = rw e

pub spread_none : (d : ℕ) (ts : List ℕ) → ts ≡ [] → spread_packets d ts ≡ []
unfolding spread_packets
spread_none d ts e = rw e

-- ---- the packets of one step, from where its bytes lie

module _ (d : ℕ) (b : List ℕ) (s : PlacedStep) where
  pub write_packets : (n k body next : ℕ) → s ≡ PlacedStep.FrameWrite n k body next
      → packets_at d b s
      ≡ Packet.Command 1 ∷ to_frame d n ∷ Packet.FrameData (words_from (k * length_at d) (drop body b) ++ replicate (length_at d) 0) ∷ []
  unfolding steps_packets step_packets step_of
  write_packets n k body next e = rw (e, frames_from (length_at d) k (drop body b))

  pub multi_packets : (k body targets next : ℕ) → s ≡ PlacedStep.MultiFrameWrite k body targets next
      → packets_at d b s
      ≡ Packet.Command 1 ∷ Packet.FrameData (words_from (length_at d) (drop body b) ++ replicate 0 0) ∷ spread_packets d (numbers_at b k targets)
  unfolding steps_packets step_packets step_of
  multi_packets k body targets next e =
      rw (e, words_take (length_at d) (drop body b), append-nil (words_from (length_at d) (drop body b)), append-nil (spread_packets d (numbers_at b k targets)))

-- the words of a step's frames and of the one after them are few
pub few_words : (d n k : ℕ) → n + k ≤ count_at d → k * length_at d + length_at d < 134217728
few_words d n k h =
    let bound : k * length_at d ≤ 1945 * 213 = mul-le-mul {n₂ = 1945} (omega (arith, count_fits d)) (length_fits d) in
    omega (arith, length_fits d)

-- ---- a list of steps

packets_append : (d : ℕ) (xs ys : List Step) → steps_packets d (xs ++ ys) ≡ steps_packets d xs ++ steps_packets d ys
unfolding steps_packets
packets_append d [] ys = refl
packets_append d (x ∷ xs) ys =
    ap (λ (ps : List Packet). step_packets d x ++ ps) (packets_append d xs ys) ∙ sym (append_assoc (step_packets d x) (steps_packets d xs) (steps_packets d ys))

module _ (d l f : ℕ) (own : ℕ → Bool) (b : List ℕ) where
  pub none_put : (n at : ℕ) → n ≡ 0 → steps_packets d (listed (steps_at l f own b n at)) ≡ []
  unfolding steps_packets
  none_put n at e = rw (steps_none l f own b n at e)

  pub step_put : (n at : ℕ) (s : PlacedStep) → step_at l f own b at ≡ Ok s → 0 < n → is_read (steps_at l f own b n at) ≡ true
      → (is_read (steps_at l f own b (n - 1) (step_offset (Ok s))) ≡ true)
      × (steps_packets d (listed (steps_at l f own b n at)) ≡ steps_packets d (step_of l b (Ok s)) ++ steps_packets d (listed (steps_at l f own b (n - 1) (step_offset (Ok s)))))
  step_put n at s e h t =
      let split = steps_first l f own b n at (Ok s) e h t in
      (split.0, ap (steps_packets d) split.1 ∙ packets_append d (step_of l b (Ok s)) _)

  pub step_count : (at : ℕ) (s : PlacedStep) → step_at l f own b at ≡ Ok s → StepCount f s
  step_count at (PlacedStep.FrameWrite first k body next) e = (write_view l f own b at first k body next e).part
  step_count at (PlacedStep.MultiFrameWrite k body targets next) e = (multi_view l f own b at k body targets next e).positive
