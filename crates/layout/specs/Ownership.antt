-- The frames that the desk names.
-- Source: 01, "Layouts": "A seat is a first frame and a count of frames from it on, given by the desk; count 0 owns nothing".
use Rattle.std.specs.Prelude.{ℕ, zero, suc, ◌+◌, Bool, true, ◌&&◌, leb, ltb}
use Rattle.parts.specs.Table.{length_at, count_at}
use Rattle.layout.specs.declared.FrameRange.{FrameRange}

-- 01's seat: a first frame and a count
abbrev pub range : ℕ → ℕ → FrameRange
range first count = record { first = first; count = count }

-- the range owns frame n
unfoldable pub owns : FrameRange → ℕ → Bool
owns r n = leb r.first n && ltb n (r.first + r.count)

-- each of k frames from n on is owned
unfoldable pub owns_run : (ℕ → Bool) → ℕ → ℕ → Bool
owns_run own zero n = true
owns_run own (suc k) n = own n && owns_run own k (n + 1)

-- what is read for frames of l words, f frames and the frames that are owned, as a desk reads it: for the device number d and the range r
-- that it names
abbrev pub for_desk : {A : Type 0} → (ℕ → ℕ → (ℕ → Bool) → A) → ℕ → FrameRange → A
for_desk read d r = read (length_at d) (count_at d) (owns r)
