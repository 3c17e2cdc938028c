-- Bytes copied one by one, and frames placed one by one: what is left of them, done from here, gives what all of them give.
-- By the first of what is left.
use Rattle.std.specs.Prelude.{◌≡◌, ℕ, suc, ◌+◌, ◌-◌, ◌*◌, ◌≤◌, ◌<◌, List, length, get_or, take, drop, set}
use Rattle.std.proofs.Common.{ap, arith, mul-suc, length-drop, length-take-le, drop-drop, drop-cons}
use Rattle.std.proofs.lemmas.List.Edits.{sets}
use Rattle.parts.specs.FrameMemory.{placed}
use Rattle.layout.specs.Step.{frames}
use Rattle.layout.specs.ReferenceMachine.{frames_written}

pub copy_next : (size i at body : ℕ) (b m : List ℕ) → i < size → body + size ≤ length b →
    sets (set m (at + i) (get_or b (body + i) 0)) (at + (i + 1)) (take (size - (i + 1)) (drop (body + (i + 1)) b))
    ≡ sets m (at + i) (take (size - i) (drop (body + i) b))
copy_next size i at body b m h fits =
    let e : size - i ≡ suc (size - (i + 1)) = omega arith in
    let f : body + (i + 1) ≡ suc (body + i) = omega arith in
    let g : at + (i + 1) ≡ suc (at + i) = omega arith in
    rw (e, f, g, drop-cons b (body + i) 0 (omega arith))

-- k frames of 4·l bytes from an offset on, of which one or more are left, have room for one
pub room : (l from k n : ℕ) → 0 < k → from + 4 * l * k ≤ n → from + 4 * l + 4 * l * (k - 1) ≤ n
room l from k n h fits =
    let e : k ≡ suc (k - 1) = omega arith in
    let g : from + 4 * l * suc (k - 1) ≤ n = rw (← e) fits in
    omega (arith, mul-suc (4 * l) (k - 1))

-- a frame of the layout has its length
pub frame_size : (l from : ℕ) (b : List ℕ) → from + 4 * l ≤ length b → length (take (4 * l) (drop from b)) ≡ 4 * l
frame_size l from b h = length-take-le (4 * l) (drop from b) (rw length-drop (omega arith))

-- the first of the frames that are left is placed
pub write_one : (l n k from : ℕ) (b m : List ℕ) → 0 < k
    → frames_written l (n + 1) (frames l (k - 1) (drop (from + 4 * l) b)) (placed l n (take (4 * l) (drop from b)) m) ≡ frames_written l n (frames l k (drop from b)) m
unfolding frames_written frames
write_one l n k from b m h =
    let e : suc (k - 1) ≡ k = omega arith in
    rw (← drop-drop (4 * l) from b) (ap (λ (j : ℕ). frames_written l n (frames l j (drop from b)) m) e)
