-- The steps of a layout, and what a reading of a list gives.
-- Source: 01, "Layouts": "Step kind 1: first frame, count k (at least 1), k frames of bytes. Kind 2: count k (1 to F), one frame
-- of bytes, k frame numbers, strictly rising."
use Rattle.std.specs.Prelude.{ℕ, zero, suc, ◌*◌, List, [], ◌∷◌, take, drop}
use Rattle.answers.specs.declared.Refusal.{Refusal}

-- FrameWrite, 01's kind 1: the first frame's number, then the frames. MultiFrameWrite, kind 2: the frame, then its targets.
pub data Step : Type 0 where
  FrameWrite : ℕ → List (List ℕ) → Step
  MultiFrameWrite : List ℕ → List ℕ → Step

-- what was read, with the offset after it; or why nothing was, with the offset that is told
pub data Reading (A : Type 0) : Type 0 where
  Read : A → ℕ → Reading A
  Refused : Refusal → ℕ → Reading A

-- one before the others of a list
unfoldable pub before : {A : Type 0} → A → Reading (List A) → Reading (List A)
before x (Reading.Read xs next) = Reading.Read (x ∷ xs) next
before x (Reading.Refused c at) = Reading.Refused c at

-- the list that was read, empty where it was refused
unfoldable pub listed : {A : Type 0} → Reading (List A) → List A
listed (Reading.Read xs next) = xs
listed (Reading.Refused c at) = []

-- k frames of 4·l bytes each, one after the other
unfoldable pub frames : ℕ → ℕ → List ℕ → List (List ℕ)
frames l zero xs = []
frames l (suc k) xs = take (4 * l) xs ∷ frames l k (drop (4 * l) xs)
