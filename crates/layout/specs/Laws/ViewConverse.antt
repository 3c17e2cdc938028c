-- A view is enough: where the bytes are as a view of a target or of a step says, that target or step is what is read there.
-- Each number and each test of the reader has the value that the view tells, so the reader computes.
use Rattle.std.specs.Prelude.{◌≡◌, ℕ, suc, ◌+◌, ◌*◌, ◌≤◌, List, Bool, Ok}
use Rattle.std.proofs.Common.{arith}
use Rattle.std.proofs.Math.ListN.{length}
use borrow.Author.Tests.{lt-ltb, le-ltb, ne_eqb}
use Rattle.layout.specs.Step.{Read, before}
use Rattle.layout.specs.StepReading.{judged_target, and_target, targets_at, judged_write, write_count, write_first, targets_read, judged_multi, multi_count, step_kind, step_at}
use Rattle.layout.specs.Laws.StepViews.{TargetView, WriteView, MultiView}
use Rattle.layout.specs.declared.step.PlacedStep.{PlacedStep}

module _ (l f : ℕ) (own : ℕ → Bool) (b : List ℕ) where
  pub target_reads : (k low at : ℕ) (ts : List ℕ) (next : ℕ) → TargetView l f own b k low at ts next → targets_at f own b (suc k) low at ≡ Read ts next
  unfolding targets_at judged_target and_target before
  target_reads k low at ts next v =
      rw (v.target_read, le-ltb _ _ v.rising, lt-ltb _ _ v.part, v.owned, v.rest_read, v.split)

  pub write_reads : (at n k body next : ℕ) → WriteView l f own b at n k body next → step_at l f own b at ≡ Ok (PlacedStep.FrameWrite n k body next)
  unfolding step_kind write_first write_count judged_write
  write_reads at n k body next v =
      let fits : body + 4 * l * k ≤ length b = rw v.size at v.within in
      rw (v.kind_read, v.first_read, v.count_read_lem, ne_eqb k 0 (λ z. omega arith), le-ltb _ _ v.part, v.owned, le-ltb _ _ fits, v.size)

  pub multi_reads : (at k body targets next : ℕ) → MultiView l f own b at k body targets next → step_at l f own b at ≡ Ok (PlacedStep.MultiFrameWrite k body targets next)
  unfolding step_kind multi_count judged_multi targets_read
  multi_reads at k body targets next v =
      let fits : body + 4 * l ≤ length b = rw v.place at v.room in
      rw (v.kind_read, v.count_read_lem, ne_eqb k 0 (λ z. omega arith), le-ltb _ _ v.part, le-ltb _ _ fits, ← v.place, v.list_read) (rw v.place)
