-- The machine keeps every frame that is not owned, and the memory's length; after no steps the memory is the same.
-- By induction over steps, frames and targets: each frame that is placed is owned, so it is another than one that is not.
use Rattle.std.specs.Prelude.{◌≡◌, refl, ℕ, ◌+◌, ◌*◌, ◌≤◌, ◌<◌, Bool, true, false, length}
use Rattle.std.proofs.Common.{◌∙◌, sym, ap, arith}
use mathlib.Core.List.{List, [], ◌∷◌}
use Rattle.std.proofs.Math.Bool.{and-eq-true_iff}
use Rattle.std.proofs.lemmas.Bool.{false≢true}
use Rattle.parts.specs.FrameMemory.{frame_of, placed}
use Rattle.parts.specs.Laws.FramePlacing.{placed_other, placed_length, frame_end}
use Rattle.layout.specs.Ownership.{owns_run}
use Rattle.layout.specs.Step.{Step, FrameWrite, MultiFrameWrite}
use Rattle.layout.specs.ReferenceMachine.{frames_written, spread, step_applied, steps_applied}
use Rattle.layout.specs.Laws.AcceptedSteps.{Sized, Targets, Fits, AllFit}

module _ (l f : ℕ) (own : ℕ → Bool) where
  -- a memory after another: as long, and the same in each frame that is not owned
  pub record KeepsUnowned (m m' : List ℕ) : Type 0 where
    pub size : length m' ≡ length m
    pub others : (k : ℕ) → own k ≡ false → frame_of l k m' ≡ frame_of l k m

  keeps_all : (m : List ℕ) → KeepsUnowned m m
  keeps_all m = record { size = refl; others = λ k o. refl }

  keeps_trans : (a b c : List ℕ) → KeepsUnowned a b → KeepsUnowned b c → KeepsUnowned a c
  keeps_trans a b c p q = record { size = q.size ∙ p.size; others = λ k o. q.others k o ∙ p.others k o }

  placed_keeps : (n : ℕ) (x m : List ℕ) → n < f → own n ≡ true → length x ≡ 4 * l → length m ≡ 4 * l * f → KeepsUnowned m (placed l n x m)
  placed_keeps n x m inside o size full =
      let fits : 4 * l * n + 4 * l ≤ length m = omega (arith, frame_end l n f inside) in
      record {
        size = placed_length l n x m fits size;
        others = λ k none. placed_other l n x m fits size k (λ same. false≢true (sym none ∙ ap own same ∙ o));
      }

  written_keeps : (n : ℕ) (fs : List (List ℕ)) (m : List ℕ) → n + length fs ≤ f → owns_run own (length fs) n ≡ true → Sized l fs → length m ≡ 4 * l * f
      → KeepsUnowned m (frames_written l n fs m)
  unfolding frames_written owns_run
  written_keeps n [] m inside o sized full = keeps_all m
  written_keeps n (x ∷ xs) m inside o sized full =
      let both = (and-eq-true_iff (own n) (owns_run own (length xs) (n + 1))).0 o in
      let one = placed_keeps n x m (omega arith) both.0 sized.0 full in
      keeps_trans m (placed l n x m) _ one (written_keeps (n + 1) xs (placed l n x m) (omega arith) both.1 sized.1 (one.size ∙ full))

  spread_keeps : (x : List ℕ) (low : ℕ) (ts m : List ℕ) → length x ≡ 4 * l → Targets l f own low ts → length m ≡ 4 * l * f → KeepsUnowned m (spread l x ts m)
  unfolding spread
  spread_keeps x low [] m size fit full = keeps_all m
  spread_keeps x low (t ∷ ts) m size fit full =
      let one = placed_keeps t x m fit.1 fit.2 size full in
      keeps_trans m (placed l t x m) _ one (spread_keeps x (t + 1) ts (placed l t x m) size fit.3 (one.size ∙ full))

  pub done_keeps : (s : Step) (m : List ℕ) → Fits l f own s → length m ≡ 4 * l * f → KeepsUnowned m (step_applied l s m)
  unfolding step_applied
  done_keeps (FrameWrite n fs) m fit full = written_keeps n fs m fit.part fit.owned fit.sized full
  done_keeps (MultiFrameWrite x ts) m fit full = spread_keeps x 0 ts m fit.size fit.targets full

  pub all_keeps : (ss : List Step) (m : List ℕ) → AllFit l f own ss → length m ≡ 4 * l * f → KeepsUnowned m (steps_applied l ss m)
  unfolding steps_applied
  all_keeps [] m fit full = keeps_all m
  all_keeps (s ∷ ss) m fit full =
      let one = done_keeps s m fit.0 full in
      keeps_trans m (step_applied l s m) _ one (all_keeps ss (step_applied l s m) fit.1 (one.size ∙ full))

  -- every frame outside the owned ones reads the same after the steps
  pub outside_kept : (ss : List Step) (m : List ℕ) (k : ℕ) → AllFit l f own ss → length m ≡ 4 * l * f → own k ≡ false
      → frame_of l k (steps_applied l ss m) ≡ frame_of l k m
  outside_kept ss m k fit full none = (all_keeps ss m fit full).others k none

  pub length_kept : (ss : List Step) (m : List ℕ) → AllFit l f own ss → length m ≡ 4 * l * f → length (steps_applied l ss m) ≡ length m
  length_kept ss m fit full = (all_keeps ss m fit full).size

-- "after no steps, all" frames stay
pub no_steps : (l : ℕ) (m : List ℕ) → steps_applied l [] m ≡ m
unfolding steps_applied
no_steps l m = refl
