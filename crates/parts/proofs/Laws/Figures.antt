-- A device number of at most 7 names a part, and L and F at the number are the part's; a frame under F has its place in the memory.
-- By one lookup in the table of parts; the limits hold at every number, since the figures are 0 where it names no part.
use Rattle.std.specs.Prelude.{◌≡◌, refl, ℕ, ◌+◌, ◌*◌, ◌≤◌, ◌<◌, get_or, Result, Ok, Err}
use Rattle.std.proofs.Common.{sym, arith, lt-ltb}
use Rattle.parts.specs.Table.{part, parts, part_of, figure_of, figure, idcode_of, frame_length, frame_count, memory_length, idcode_at, length_at, count_at, memory_at}
use Rattle.parts.proofs.Laws.PrintedFigures.{known_limits, length_limit, count_limit, idcode_limit}
use Rattle.parts.specs.Inner.PartLimits.{Limits}
use Rattle.parts.specs.Laws.KnownParts.{figure_known}
use Rattle.parts.specs.Laws.FramePlacing.{frame_end}
use Rattle.answers.specs.declared.Refusal.{Refusal}
use Rattle.parts.specs.declared.table.Part.{Part}

pub record Figures (d : ℕ) : Type 0 where
  pub part : Part
  pub known : part_of d ≡ Ok part
  pub length : length_at d ≡ frame_length part
  pub count : count_at d ≡ frame_count part
  pub length_positive : 0 < length_at d
  pub length_limit : length_at d ≤ 213

length_positive : (p : Part) → 0 < frame_length p
unfolding frame_length
length_positive p = omega arith

known_part : (d : ℕ) → d ≤ 7 → part_of d ≡ Ok (get_or parts d (part 0 0 0 0))
unfolding part_of
known_part d h = simp (lt-ltb d 8 (omega arith))

pub figures : (d : ℕ) → d ≤ 7 → Figures d
figures d h =
    let p = get_or parts d (part 0 0 0 0) in
    let k = known_part d h in
    let l = sym (figure_known frame_length d (part_of d) p refl k) in
    record {
      part = p;
      known = k;
      length = l;
      count = sym (figure_known frame_count d (part_of d) p refl k);
      length_positive = omega (arith, length_positive p);
      length_limit = omega (arith, length_limit p (known_limits d p k));
    }

-- ---- at every number

memory_frames : (q : Result Part Refusal) → figure_of memory_length q ≡ 4 * figure_of frame_length q * figure_of frame_count q
unfolding figure_of memory_length
memory_frames (Ok p) = refl
memory_frames (Err c) = refl

-- 01: "Memory is 4·L·F bytes"
pub memory_size : (d : ℕ) → memory_at d ≡ 4 * length_at d * count_at d
memory_size d = memory_frames (part_of d)

-- and so a frame under F has its place in it
pub frame_fits : (d n : ℕ) → n < count_at d → 4 * length_at d * n + 4 * length_at d ≤ memory_at d
frame_fits d n h = rw (memory_size d) (frame_end (length_at d) n (count_at d) h)

-- a limit of every part is a limit of the figure at every number
figure_limit : (f : Part → ℕ) (n d : ℕ) → ((p : Part) → Limits p → f p ≤ n) → figure f d ≤ n
unfolding figure_of
figure_limit f n d h = go (part_of d) refl
  where
    go : (q : Result Part Refusal) → part_of d ≡ q → figure_of f q ≤ n
    go (Ok p) e = h p (known_limits d p e)
    go (Err c) e = omega arith

-- 01: "a frame in hand of 213 words, of which the first L count"
pub length_fits : (d : ℕ) → length_at d ≤ 213
length_fits d = figure_limit frame_length 213 d length_limit

pub count_fits : (d : ℕ) → count_at d ≤ 1945
count_fits d = figure_limit frame_count 1945 d count_limit

pub idcode_fits : (d : ℕ) → idcode_at d ≤ 0xFFFFFFFF
idcode_fits d = figure_limit idcode_of 0xFFFFFFFF d idcode_limit
