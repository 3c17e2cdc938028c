-- The memory of a part: frames of 4·L bytes, one after the other.
-- Source: 01, "The eight parts": "Memory is 4·L·F bytes, frame 0 first, each word high byte first".
use Rattle.std.specs.Prelude.{ℕ, ◌+◌, ◌*◌, List, ◌++◌, take, drop}

-- the bytes of frame k, of frames of l words
unfoldable pub frame_of : ℕ → ℕ → List ℕ → List ℕ
frame_of l k m = take (4 * l) (drop (4 * l * k) m)

-- frame n of frames of l words becomes these bytes
unfoldable pub placed : ℕ → ℕ → List ℕ → List ℕ → List ℕ
placed l n bytes m = take (4 * l * n) m ++ bytes ++ drop (4 * l * n + 4 * l) m
