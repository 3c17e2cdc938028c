-- One turn of each loop of the code: what is left after it gives what was to be read before it; and the check's own refusals.
-- By the definitions' clauses at a count that is not 0, and at each case of the part.
use Rattle.std.specs.Prelude.{◌≡◌, List, ◌∷◌, Bool, cond, ◌&&◌, ltb, length, drop, Result, Ok, Err}
use Rattle.std.specs.List.{list_all, range_with_len}
use Rattle.std.proofs.Common.{◌∙◌, sym, add-zero, arith, lt-ltb, le-ltb}
use Rattle.std.proofs.Math.Path.{refl, ap}
use Rattle.std.proofs.Math.Bool.{true, false}
use Prim.Native.Nat.{ℕ, zero, suc, ◌+◌, ◌-◌, ◌*◌, ◌≤◌, ◌<◌}
use Rattle.std.proofs.Math.Nat.{sub-zero}
use Rattle.parts.specs.Table.{part_of, length_at, count_at}
use Rattle.parts.specs.declared.table.Part.{Part}
use Rattle.answers.specs.declared.Refusal.{Refusal}
use Rattle.answers.specs.declared.Refused.{Refused}
use Rattle.numbers.specs.Number.{number_at}
use Rattle.numbers.specs.declared.Number.{Number}
use Rattle.layout.specs.Ownership.{owns_run}
use Rattle.layout.specs.Step.{Step, Reading, Read, before, listed}
use Rattle.layout.specs.StepReading.{judged_target, and_target, targets_at, step_at, and_step, steps_at}
use Rattle.layout.specs.Inner.DeskReading.{ended}
use Rattle.layout.specs.Layout.{end_read, step_word_count, steps_word_count, check_answer, check_for}
use Rattle.layout.specs.Laws.StepViews.{multi_view}
use Rattle.layout.specs.Laws.AcceptedSteps.{frames_length, targets_fit}
use Rattle.layout.specs.declared.FrameRange.{FrameRange}
use Rattle.layout.specs.declared.step.PlacedStep.{PlacedStep}
use Rattle.answers.specs.AnswerNumbers.{refused, Answer}

-- a run is owned where each frame of it is
pub run_all : (own : ℕ → Bool) (k n : ℕ) → list_all own (range_with_len n k) ≡ owns_run own k n
unfolding owns_run
run_all own zero n = refl
run_all own (suc k) n = ap (λ t. own n && t) (run_all own k (n + 1))

-- the answer on a list of steps, over the words that are counted already
unfoldable pub summed : ℕ → ℕ → Reading (List Step) → Answer
summed l w (Reading.Read ss next) = Ok (4 * (w + steps_word_count l ss))
summed l w (Reading.Refused c at) = Err (refused c at)

pub answer_summed : (l : ℕ) (r : Reading (List Step)) → check_answer l r ≡ summed l 12 r
unfolding check_answer summed
answer_summed l (Reading.Read ss next) = refl
answer_summed l (Reading.Refused c at) = refl

module _ (l f : ℕ) (own : ℕ → Bool) (b : List ℕ) where
  -- ---- targets

  targets_more : (n i low at : ℕ) → i < n
      → targets_at f own b (n - i) low at ≡ and_target at (judged_target f own low (number_at b at)) (λ t next. targets_at f own b (n - (i + 1)) t next)
  unfolding targets_at
  targets_more n i low at h = let e : n - i ≡ suc (n - (i + 1)) = omega arith in rw e

  -- a target before the others changes nothing of the end
  ended_before : (t : ℕ) (r : Reading (List ℕ)) → ended (before t r) ≡ ended r
  unfolding ended before
  ended_before t (Reading.Read ts next) = refl
  ended_before t (Reading.Refused c at) = refl

  pub target_refused : (n i low at : ℕ) (c : Refusal) → i < n → judged_target f own low (number_at b at) ≡ Err c
      → ended (targets_at f own b (n - i) low at) ≡ Err (refused c at)
  unfolding and_target ended
  target_refused n i low at c h e = rw (targets_more n i low at h, e)

  pub target_next : (n i low at : ℕ) (t : Number) → i < n → judged_target f own low (number_at b at) ≡ Ok t
      → ended (targets_at f own b (n - i) low at) ≡ ended (targets_at f own b (n - (i + 1)) (t.value + 1) t.next)
  unfolding and_target
  target_next n i low at t h e = rw (targets_more n i low at h, e) (ended_before t.value _)

  pub targets_done : (n i low at : ℕ) → n ≤ i → ended (targets_at f own b (n - i) low at) ≡ Ok at
  unfolding targets_at ended
  targets_done n i low at h = let e : n - i ≡ 0 = omega arith in rw e

  -- ---- steps

  -- the steps that are left from the i-th of n on
  steps_left : (n i at : ℕ) → i < n → steps_at l f own b (n - i) at ≡ and_step l f own b (step_at l f own b at) (λ next. steps_at l f own b (n - (i + 1)) next)
  unfolding steps_at
  steps_left n i at h = let e : n - i ≡ suc (n - (i + 1)) = omega arith in rw e

  -- a list of one step or more goes on after its first
  pub steps_more : (k at : ℕ) → 0 < k → steps_at l f own b k at ≡ and_step l f own b (step_at l f own b at) (λ next. steps_at l f own b (k - 1) next)
  steps_more k at h = rw sub-zero at (steps_left k 0 at h)

  -- a step before the others changes nothing of the end
  summed_before : (w : ℕ) (s : Step) (r : Reading (List Step)) → summed l w (end_read b (before s r)) ≡ summed l (w + step_word_count l s) (end_read b r)
  unfolding before end_read summed steps_word_count
  summed_before w s (Reading.Read ss next) = go (ltb next (length b))
    where
      go : (t : Bool) → summed l w (cond t (Reading.Refused Refusal.Trailing next) (Read (s ∷ ss) next)) ≡ summed l (w + step_word_count l s) (cond t (Reading.Refused Refusal.Trailing next) (Read ss next))
      go true = refl
      go false = ap Ok (omega arith)
  summed_before w s (Reading.Refused c at) = refl

  pub step_refused : (w n i at : ℕ) (e : Refused) → i < n → step_at l f own b at ≡ Err e
      → summed l w (end_read b (steps_at l f own b (n - i) at)) ≡ Err e
  unfolding and_step end_read summed
  step_refused w n i at x h e = rw (steps_left n i at h, e)

  pub step_write : (w n i at first count body next : ℕ) → i < n → step_at l f own b at ≡ Ok (PlacedStep.FrameWrite first count body next)
      → summed l w (end_read b (steps_at l f own b (n - i) at)) ≡ summed l (w + (7 + (count + 1) * l)) (end_read b (steps_at l f own b (n - (i + 1)) next))
  unfolding and_step step_word_count
  step_write w n i at first count body next h e =
      rw (steps_left n i at h, e) (summed_before w _ _ ∙ rw (frames_length l count (drop body b)))

  pub step_multi : (w n i at count body targets next : ℕ) → i < n → step_at l f own b at ≡ Ok (PlacedStep.MultiFrameWrite count body targets next)
      → summed l w (end_read b (steps_at l f own b (n - i) at)) ≡ summed l (w + (7 + l + 5 * count)) (end_read b (steps_at l f own b (n - (i + 1)) next))
  unfolding and_step step_word_count listed
  step_multi w n i at count body targets next h e =
      let v = multi_view l f own b at count body targets next e in
      rw (steps_left n i at h, e)
      (summed_before w _ _ ∙ rw (v.list_read, (targets_fit l f own b count 0 targets v.list next v.list_read).0))

  pub steps_trailing : (w n i at : ℕ) → n ≤ i → at < length b → summed l w (end_read b (steps_at l f own b (n - i) at)) ≡ Err (refused Refusal.Trailing at)
  unfolding steps_at end_read summed
  steps_trailing w n i at z h = let e : n - i ≡ 0 = omega arith in rw e (simp (lt-ltb at (length b) h))

  pub steps_accepted : (w n i at : ℕ) → n ≤ i → length b ≤ at → summed l w (end_read b (steps_at l f own b (n - i) at)) ≡ Ok (4 * w)
  unfolding steps_at end_read summed steps_word_count
  steps_accepted w n i at z h = let e : n - i ≡ 0 = omega arith in rw e (simp (le-ltb at (length b) h, add-zero))

-- ---- the check's own refusals, in their order

module _ (d : ℕ) (r : FrameRange) (x : Reading (List Step)) (q : Result Part Refusal) (e : q ≡ part_of d) where
  pub check_no_part : (c : Refusal) → q ≡ Err c → Err (refused c 0) ≡ check_for (part_of d) d r x
  unfolding check_for
  check_no_part c k = ap (λ (v : Result Part Refusal). check_for v d r x) (sym k ∙ e)

  pub check_wrong_range : (p : Part) → q ≡ Ok p → count_at d < r.first + r.count → Err (refused Refusal.WrongRange 0) ≡ check_for (part_of d) d r x
  unfolding check_for
  check_wrong_range p k h = simp (lt-ltb (count_at d) (r.first + r.count) h) at (ap (λ (v : Result Part Refusal). check_for v d r x) (sym k ∙ e))

  pub check_layout : (p : Part) → q ≡ Ok p → r.first + r.count ≤ count_at d → check_answer (length_at d) x ≡ check_for (part_of d) d r x
  unfolding check_for
  check_layout p k h = simp (le-ltb (count_at d) (r.first + r.count) h) at (ap (λ (v : Result Part Refusal). check_for v d r x) (sym k ∙ e))
