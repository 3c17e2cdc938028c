-- Reading the steps of a layout's bytes b, for frames of l words, a part of f frames, and the frames that `own` says are owned.
-- Sources: 01, "Layouts", the paragraphs on the form and on "Checks": "At each number: form, then value"; "The place is where the
-- offending number starts (for kind 1, the first frame; for a zero count, that count; for missing frame bytes, the layout's length"; 02,
-- W2, whose numbers override 01's for a malformed layout, "at the same places" and in 01's order.
use Rattle.std.specs.Prelude.{ℕ, zero, suc, ◌+◌, ◌*◌, List, [], Bool, cond, eqb, ltb, length, take, drop, Result, Ok, Err}
use Rattle.answers.specs.AnswerNumbers.{refused}
use Rattle.answers.specs.StopsAndRefusals.{refusal_number}
use Rattle.answers.specs.declared.Refusal.{Refusal}
use Rattle.answers.specs.declared.Refused.{Refused}
use Rattle.numbers.specs.Number.{NumberRead, number_at}
use Rattle.layout.specs.Ownership.{for_desk, owns_run}
use Rattle.layout.specs.Step.{Step, FrameWrite, MultiFrameWrite, Reading, Read, before, listed, frames}
use Rattle.layout.specs.declared.FrameRange.{FrameRange}
use Rattle.layout.specs.declared.step.PlacedStep.{PlacedStep}

-- what reading gives: a step with its offsets, or why there is none, told with an offset
abbrev pub StepRead : Type 0
StepRead = Result PlacedStep Refused

-- 01: "each target: not rising", 45 by 02, then 34, 35; low is the least that rises
unfoldable pub judged_target : ℕ → (ℕ → Bool) → ℕ → NumberRead → NumberRead
judged_target f own low (Ok t) =
    cond (ltb t.value low) (Err Refusal.NotRising)
    (cond (ltb t.value f) (cond (own t.value) (Ok t) (Err Refusal.OutsideRange)) (Err Refusal.OutsidePart))
judged_target f own low (Err c) = Err c

-- a target before those that `go` reads from the next least number and the next offset on
unfoldable pub and_target : ℕ → NumberRead → (ℕ → ℕ → Reading (List ℕ)) → Reading (List ℕ)
and_target at (Ok t) go = before t.value (go (t.value + 1) t.next)
and_target at (Err c) go = Reading.Refused c at

module _ (f : ℕ) (own : ℕ → Bool) (b : List ℕ) where
  -- k targets, the first at least low
  unfoldable pub targets_at : ℕ → ℕ → ℕ → Reading (List ℕ)
  targets_at zero low at = Read [] at
  targets_at (suc k) low at = and_target at (judged_target f own low (number_at b at)) (λ t next. targets_at k t next)

-- a step of k targets whose frame of 4·l bytes lies at an offset, once its targets are read
unfoldable pub targets_read : ℕ → ℕ → ℕ → Reading (List ℕ) → StepRead
targets_read l k body (Reading.Read ts next) = Ok (PlacedStep.MultiFrameWrite k body (body + 4 * l) next)
targets_read l k body (Reading.Refused c at) = Err (refused c at)

module _ (l f : ℕ) (own : ℕ → Bool) (b : List ℕ) where
  -- kind 1, "judged when its count is read": k = 0, 44 by 02, then 34, 35, "then missing bytes", 42 by 02; first frame n, read at
  -- offset at; count k, read at offset count; its frames begin at offset body
  unfoldable pub judged_write : ℕ → ℕ → ℕ → ℕ → ℕ → StepRead
  judged_write n at k count body =
      cond (eqb k 0) (Err (refused Refusal.ZeroCount count))
      (cond (ltb f (n + k)) (Err (refused Refusal.OutsidePart at))
      (cond (owns_run own k n)
      (cond (ltb (length b) (body + 4 * l * k)) (Err (refused Refusal.Missing (length b))) (Ok (PlacedStep.FrameWrite n k body (body + 4 * l * k))))
      (Err (refused Refusal.OutsideRange at))))

  unfoldable pub write_count : ℕ → ℕ → ℕ → NumberRead → StepRead
  write_count n at count (Ok k) = judged_write n at k.value count k.next
  write_count n at count (Err c) = Err (refused c count)

  unfoldable pub write_first : ℕ → NumberRead → StepRead
  write_first at (Ok n) = write_count n.value at n.next (number_at b n.next)
  write_first at (Err c) = Err (refused c at)

  -- kind 2: k = 0, 44 by 02, "k above F (34), missing bytes", 42 by 02; "each target"
  unfoldable pub judged_multi : ℕ → ℕ → ℕ → StepRead
  judged_multi k at body =
      cond (eqb k 0) (Err (refused Refusal.ZeroCount at))
      (cond (ltb f k) (Err (refused Refusal.OutsidePart at))
      (cond (ltb (length b) (body + 4 * l)) (Err (refused Refusal.Missing (length b)))
      (targets_read l k body (targets_at f own b k 0 (body + 4 * l)))))

  unfoldable pub multi_count : ℕ → NumberRead → StepRead
  multi_count at (Ok k) = judged_multi k.value at k.next
  multi_count at (Err c) = Err (refused c at)

  -- the step at an offset: where its frames and its targets lie, and the offset after it; a kind other than 1 and 2 is 43 by 02
  unfoldable pub step_kind : ℕ → NumberRead → StepRead
  step_kind at (Ok kind) =
      cond (eqb kind.value 1) (write_first kind.next (number_at b kind.next))
      (cond (eqb kind.value 2) (multi_count kind.next (number_at b kind.next)) (Err (refused Refusal.UnknownKind at)))
  step_kind at (Err c) = Err (refused c at)

  abbrev pub step_at : ℕ → StepRead
  step_at at = step_kind at (number_at b at)

  -- a step before those that `go` reads from the next offset on
  unfoldable pub and_step : StepRead → (ℕ → Reading (List Step)) → Reading (List Step)
  and_step (Ok (PlacedStep.FrameWrite n k body next)) go = before (FrameWrite n (frames l k (drop body b))) (go next)
  and_step (Ok (PlacedStep.MultiFrameWrite k body targets next)) go = before (MultiFrameWrite (take (4 * l) (drop body b)) (listed (targets_at f own b k 0 targets))) (go next)
  and_step (Err e) go = Reading.Refused e.refusal e.told

  -- n steps
  unfoldable pub steps_at : ℕ → ℕ → Reading (List Step)
  steps_at zero at = Read [] at
  steps_at (suc n) at = and_step (step_at at) (λ next. steps_at n next)

-- ---- the steps, as a desk reads them

-- the step at an offset, for the desk's device number d and range r. A number that names no part has no frames: 01 leaves the step
-- free there, and it is refused (specs/Laws/NoPart.antt)
abbrev pub desk_step : ℕ → FrameRange → List ℕ → ℕ → StepRead
desk_step d r b at = for_desk step_at d r b at

-- n steps
abbrev pub desk_steps : ℕ → FrameRange → List ℕ → ℕ → ℕ → Reading (List Step)
desk_steps d r b n at = for_desk steps_at d r b n at

-- the number of a step's refusal, 0 where it was read
abbrev pub step_refusal : StepRead → ℕ
step_refusal (Ok (PlacedStep.FrameWrite n k body next)) = 0
step_refusal (Ok (PlacedStep.MultiFrameWrite k body targets next)) = 0
step_refusal (Err e) = refusal_number e.refusal

-- the offset told: the one after the step, or the one of what is refused
unfoldable pub step_offset : StepRead → ℕ
step_offset (Ok (PlacedStep.FrameWrite n k body next)) = next
step_offset (Ok (PlacedStep.MultiFrameWrite k body targets next)) = next
step_offset (Err e) = e.told
