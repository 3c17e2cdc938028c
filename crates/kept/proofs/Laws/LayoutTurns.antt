-- One turn of the reader's loops over targets and steps, by the count k that is left: what is left after it gives what was to be read.
-- By the turn at n - i of n, from the first on.
use Rattle.std.specs.Prelude.{◌≡◌, refl, List, Bool, ℕ, zero, suc, ◌+◌, ◌-◌, ◌*◌, ◌≤◌, ◌<◌, length, Ok, Err}
use Rattle.std.proofs.Common.{arith}
use Rattle.std.proofs.Math.Nat.{suc-sub-suc, sub-zero}
use Rattle.answers.specs.AnswerNumbers.{refused}
use Rattle.answers.specs.declared.Refusal.{Refusal}
use Rattle.numbers.specs.Number.{number_at, read}
use Rattle.layout.specs.Step.{Reading, before}
use Rattle.layout.specs.StepReading.{judged_target, and_target, targets_at, targets_read, step_at, steps_at}
use Rattle.layout.specs.Layout.{end_read}
use Rattle.layout.specs.Inner.CheckLoops.{summed, step_refused as refused_left, step_write as write_left, step_multi as multi_left, steps_trailing as trailing_left, steps_accepted as accepted_left}
use Rattle.layout.specs.declared.step.PlacedStep.{PlacedStep}

module _ (l f : ℕ) (own : ℕ → Bool) (b : List ℕ) where
  -- ---- targets

  targets_more : (k low at : ℕ) → 0 < k → targets_at f own b k low at ≡ and_target at (judged_target f own low (number_at b at)) (λ t next. targets_at f own b (k - 1) t next)
  unfolding targets_at
  targets_more zero low at h = absurd (omega arith)
  targets_more (suc k) low at h = simp (suc-sub-suc k 0, sub-zero)

  -- a step does not tell its targets
  unlisted : (n body t : ℕ) (r : Reading (List ℕ)) → targets_read l n body (before t r) ≡ targets_read l n body r
  unfolding targets_read before
  unlisted n body t (Reading.Read ts next) = refl
  unlisted n body t (Reading.Refused c at) = refl

  pub target_refused : (n body k low at : ℕ) (c : Refusal) → 0 < k → judged_target f own low (number_at b at) ≡ Err c
      → targets_read l n body (targets_at f own b k low at) ≡ Err (refused c at)
  unfolding and_target targets_read
  target_refused n body k low at c h e = rw (targets_more k low at h, e)

  pub target_next : (n body k low at t next : ℕ) → 0 < k → judged_target f own low (number_at b at) ≡ Ok (read t next)
      → targets_read l n body (targets_at f own b k low at) ≡ targets_read l n body (targets_at f own b (k - 1) (t + 1) next)
  unfolding and_target
  target_next n body k low at t next h e = rw (targets_more k low at h, e) (unlisted n body t _)

  -- ---- steps

  pub step_refused : (w k at : ℕ) (c : Refusal) (told : ℕ) → 0 < k → step_at l f own b at ≡ Err (refused c told)
      → summed l w (end_read b (steps_at l f own b k at)) ≡ Err (refused c told)
  step_refused w k at c told h e = rw sub-zero at (refused_left l f own b w k 0 at (refused c told) h e)

  pub step_write : (w k at n count body next : ℕ) → 0 < k → step_at l f own b at ≡ Ok (PlacedStep.FrameWrite n count body next)
      → summed l w (end_read b (steps_at l f own b k at)) ≡ summed l (w + (7 + (count + 1) * l)) (end_read b (steps_at l f own b (k - 1) next))
  step_write w k at n count body next h e = rw sub-zero at (write_left l f own b w k 0 at n count body next h e)

  pub step_multi : (w k at count body targets next : ℕ) → 0 < k → step_at l f own b at ≡ Ok (PlacedStep.MultiFrameWrite count body targets next)
      → summed l w (end_read b (steps_at l f own b k at)) ≡ summed l (w + (7 + l + 5 * count)) (end_read b (steps_at l f own b (k - 1) next))
  step_multi w k at count body targets next h e = rw sub-zero at (multi_left l f own b w k 0 at count body targets next h e)

  pub steps_trailing : (w k at : ℕ) → k ≤ 0 → at < length b → summed l w (end_read b (steps_at l f own b k at)) ≡ Err (refused Refusal.Trailing at)
  steps_trailing w k at z h = rw sub-zero at (trailing_left l f own b w k 0 at z h)

  pub steps_accepted : (w k at : ℕ) → k ≤ 0 → length b ≤ at → summed l w (end_read b (steps_at l f own b k at)) ≡ Ok (4 * w)
  steps_accepted w k at z h = rw sub-zero at (accepted_left l f own b w k 0 at z h)
