-- The reference machine frame by frame and step by step, as the code does it.
-- By one turn of each definition.
use Rattle.std.specs.Prelude.{◌≡◌, ℕ, suc, ◌+◌, ◌-◌, ◌*◌, ◌<◌, List, [], ◌∷◌, take, drop}
use Rattle.std.proofs.Common.{arith, mul-suc, drop-drop}
use Rattle.parts.specs.FrameMemory.{placed}
use Rattle.layout.specs.Step.{frames}
use Rattle.layout.specs.ReferenceMachine.{frames_written, spread}

-- the first of the frames that are left is placed
pub write_next : (l first count i body : ℕ) (b m : List ℕ) → i < count
    → frames_written l (first + (i + 1)) (frames l (count - (i + 1)) (drop (body + 4 * l * (i + 1)) b)) (placed l (first + i) (take (4 * l) (drop (body + 4 * l * i) b)) m)
    ≡ frames_written l (first + i) (frames l (count - i) (drop (body + 4 * l * i) b)) m
unfolding frames_written frames
write_next l first count i body b m h =
    let k : count - i ≡ suc (count - (i + 1)) = omega arith in
    let n : first + (i + 1) ≡ first + i + 1 = omega arith in
    let from : body + 4 * l * (i + 1) ≡ body + 4 * l * i + 4 * l = omega (arith, mul-suc (4 * l) i) in
    rw (k, n, from, ← drop-drop (4 * l) (body + 4 * l * i) b)

pub write_none : (l n k : ℕ) (xs m : List ℕ) → k ≡ 0 → frames_written l n (frames l k xs) m ≡ m
unfolding frames_written frames
write_none l n k xs m e = rw e

-- the first of the targets that are left is written
pub spread_one : (l : ℕ) (x : List ℕ) (t : ℕ) (rest ts m : List ℕ) → ts ≡ t ∷ rest → spread l x rest (placed l t x m) ≡ spread l x ts m
unfolding spread
spread_one l x t rest ts m e = rw e

pub spread_none : (l : ℕ) (x ts m : List ℕ) → ts ≡ [] → spread l x ts m ≡ m
unfolding spread
spread_none l x ts m e = rw e
