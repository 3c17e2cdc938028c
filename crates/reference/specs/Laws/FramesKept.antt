-- An accepted layout changes no frame outside the range, and a refused one no byte.
-- The reference machine does the steps that the check read, and these name frames of the range alone.
use Rattle.std.specs.Prelude.{◌≡◌, refl, ◌≢◌, ℕ, List, false, eqb, length, Ok, Err}
use Rattle.std.proofs.Common.{◌∙◌, eqb-true}
use Rattle.parts.specs.Laws.Cases.{either}
use Rattle.parts.specs.Table.{length_at, count_at, memory_at}
use Rattle.parts.proofs.Laws.Figures.{memory_size}
use Rattle.parts.specs.FrameMemory.{frame_of}
use Rattle.answers.specs.AnswerNumbers.{answer_number, Answer}
use Rattle.layout.specs.Ownership.{owns}
use Rattle.layout.specs.Layout.{check}
use Rattle.layout.specs.ReferenceMachine.{machine}
use Rattle.layout.specs.Laws.AcceptedSteps.{accepted_fits}
use Rattle.layout.specs.Laws.UnownedFrames.{outside_kept}
use Rattle.layout.specs.declared.FrameRange.{FrameRange}
use Rattle.reference.specs.Applied.{Applied, applied_after, applied}
use Rattle.layout.specs.Laws.AcceptedLayout.{accepted, machine_done}

-- 01: "Other frames stay"
pub machine_keeps : (d n k : ℕ) (r : FrameRange) (b m : List ℕ) → check d r b ≡ Ok n → length m ≡ memory_at d → owns r k ≡ false
    → frame_of (length_at d) k (machine d b m) ≡ frame_of (length_at d) k m
machine_keeps d n k r b m e size out =
    let t = accepted d n r b e in
    let fits = accepted_fits (length_at d) (count_at d) (owns r) b d t.steps t.next t.was_read in
    rw (machine_done d r b m t.steps t.next t.was_read) (outside_kept (length_at d) (count_at d) (owns r) t.steps m k fits (size ∙ memory_size d) out)

-- whatever the answer, no frame outside the range changes
pub applied_keeps : (d k : ℕ) (r : FrameRange) (b m : List ℕ) → owns r k ≡ false → frame_of (length_at d) k (applied d r b m).memory ≡ frame_of (length_at d) k m
unfolding applied_after
applied_keeps d k r b m out = go (check d r b) refl
  where
    go : (v : Answer) → check d r b ≡ v → frame_of (length_at d) k (applied_after v d b m).memory ≡ frame_of (length_at d) k m
    go (Ok n) e =
        either (λ (x : Applied). frame_of (length_at d) k x.memory ≡ frame_of (length_at d) k m) (eqb (length m) (memory_at d))
        (λ same. machine_keeps d n k r b m e (eqb-true _ _ same) out) (λ other. refl)
    go (Err x) e = refl

-- 01: a refused layout "does nothing"
pub refused_stays : (d : ℕ) (r : FrameRange) (b m : List ℕ) → answer_number (applied d r b m).answer ≢ 0 → (applied d r b m).memory ≡ m
unfolding applied_after
refused_stays d r b m = go (check d r b)
  where
    go : (v : Answer) → answer_number (applied_after v d b m).answer ≢ 0 → (applied_after v d b m).memory ≡ m
    go (Ok n) =
        either (λ (x : Applied). answer_number x.answer ≢ 0 → x.memory ≡ m) (eqb (length m) (memory_at d)) (λ same some. absurd (some refl)) (λ other some. refl)
    go (Err e) = λ some. refl
