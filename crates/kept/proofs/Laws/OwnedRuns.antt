-- A run of frames that is owned, frame by frame.
-- By the definition's clause at a count that is not 0.
use Rattle.std.specs.Prelude.{◌≡◌, Bool, ◌&&◌, ℕ, zero, suc, ◌+◌, ◌-◌, ◌<◌}
use Rattle.std.proofs.Common.{arith}
use Rattle.std.proofs.Math.Nat.{suc-sub-suc, sub-zero}
use Rattle.layout.specs.Ownership.{owns_run}

pub run_more : (own : ℕ → Bool) (k n : ℕ) → 0 < k → owns_run own k n ≡ (own n && owns_run own (k - 1) (n + 1))
unfolding owns_run
run_more own zero n h = absurd (omega arith)
run_more own (suc k) n h = simp (suc-sub-suc k 0, sub-zero)
