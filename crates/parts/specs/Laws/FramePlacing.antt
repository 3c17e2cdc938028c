-- A frame that was placed reads back, every other frame keeps its bytes, and the memory keeps its length.
-- The frame's bytes are pasted between the bytes before it and those after it; another frame lies in one of these two.
use Rattle.std.specs.Prelude.{◌≡◌, ◌≢◌, ℕ, ◌+◌, ◌-◌, ◌*◌, ◌≤◌, ◌<◌, drop}
use Rattle.std.proofs.Common.{◌∙◌, mul-suc, mul-le-mul_left, arith, length-drop, take-append-drop, length-take-le, take_all, take_at, drop-drop}
use Rattle.std.proofs.Math.Path.{sym, ap}
use mathlib.Core.List.{List, ◌++◌, append_assoc}
use Rattle.std.proofs.Math.Decide.{dec_lt}
use Rattle.std.proofs.Math.ListN.{length, take}
use Rattle.std.proofs.lemmas.List.Edits.{sets, length-paste, drop-paste}
use Rattle.std.proofs.Math.Seq.{sets-eq, drop_at, paste}
use Rattle.std.proofs.lemmas.List.{take-append-le, drop-append-le}
use Rattle.parts.specs.FrameMemory.{frame_of, placed}

-- ---- a window of s bytes from j on

-- one that lies in the first list
window_before : (j s : ℕ) (p q : List ℕ) → j + s ≤ length p → take s (drop j (p ++ q)) ≡ take s (drop j p)
window_before j s p q h =
    let f : j ≤ length p = omega arith in
    rw (drop-append-le j p q f) (take-append-le s (drop j p) q (rw length-drop (omega arith)))

-- one that lies where two lists are the same
window_after : (e j s : ℕ) (p q : List ℕ) → drop e p ≡ drop e q → e ≤ j → take s (drop j p) ≡ take s (drop j q)
window_after e j s p q same h =
    let split : j ≡ e + (j - e) = omega arith in
    rw (split, ← drop-drop (j - e) e p, ← drop-drop (j - e) e q, same)

-- a frame ends where the next begins, or before a later one
pub frame_end : (l k n : ℕ) → k < n → 4 * l * k + 4 * l ≤ 4 * l * n
frame_end l k n h = omega (arith, mul-le-mul_left (4 * l) h, mul-suc (4 * l) k)

-- ---- a frame that has its place in the memory

module _ (l n : ℕ) (b m : List ℕ) (fits : 4 * l * n + 4 * l ≤ length m) (size : length b ≡ 4 * l) where
  front_size : length (take (4 * l * n) m) ≡ 4 * l * n
  front_size = length-take-le (4 * l * n) m (omega arith)

  placed_pastes : placed l n b m ≡ paste m (4 * l * n) b (4 * l)
  unfolding placed
  placed_pastes = rw (take_all (4 * l) b (omega (arith, size)))

  pub placed_sets : sets m (4 * l * n) b ≡ placed l n b m
  unfolding placed
  placed_sets = sets-eq b m (4 * l * n) (omega (arith, size)) ∙ rw size

  pub placed_length : length (placed l n b m) ≡ length m
  placed_length = rw placed_pastes (length-paste m (4 * l * n) b (4 * l) fits (omega (arith, size)))

  pub placed_reads_back : frame_of l n (placed l n b m) ≡ b
  unfolding placed frame_of
  placed_reads_back =
      rw (append_assoc (take (4 * l * n) m) b (drop (4 * l * n + 4 * l) m), drop_at (take (4 * l * n) m) _ (4 * l * n) front_size)
      (take_at b _ (4 * l) size)

  placed_drop : drop (4 * l * n + 4 * l) (placed l n b m) ≡ drop (4 * l * n + 4 * l) m
  placed_drop = rw placed_pastes (drop-paste m (4 * l * n) b (4 * l) (omega arith) (omega (arith, size)))

  pub placed_other : (k : ℕ) → k ≢ n → frame_of l k (placed l n b m) ≡ frame_of l k m
  unfolding placed frame_of
  placed_other k ne =
      elim (dec_lt k n) [
        | yes h ↦
            let in_front : 4 * l * k + 4 * l ≤ length (take (4 * l * n) m) = omega (arith, front_size, frame_end l k n h) in
            rw (append_assoc (take (4 * l * n) m) b (drop (4 * l * n + 4 * l) m))
            (window_before (4 * l * k) (4 * l) (take (4 * l * n) m) _ in_front
            ∙ sym (window_before (4 * l * k) (4 * l) (take (4 * l * n) m) (drop (4 * l * n) m) in_front)
            ∙ ap (λ (x : List ℕ). take (4 * l) (drop (4 * l * k) x)) (take-append-drop (4 * l * n) m))
        | no h ↦ window_after (4 * l * n + 4 * l) (4 * l * k) (4 * l) _ m placed_drop (frame_end l n k (omega arith))
      ]
