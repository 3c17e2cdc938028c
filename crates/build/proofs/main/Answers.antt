-- The buffer that is lent has its length, by a law: computing it on so many elements is too deep for the checker.
use Rattle.std.proofs.Common.{sym, ℕ}
use Rattle.std.proofs.lemmas.List.{length-replicate}
use Rattle.build.proofs.main.Goals as goal

pub slice_bounds-build-end : goal.slice_bounds-build-end
slice_bounds-build-end c = sym (length-replicate {A = ℕ} 1700001 0)
