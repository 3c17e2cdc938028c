-- The columns of a part in the order in which its frames are numbered: by block, then major, then minor.
-- Sources: 01, "The eight parts", second paragraph; 001, Tables 12 and 13.
use Rattle.std.specs.Prelude.{ℕ, zero, suc, ◌+◌, List, [], ◌∷◌, ◌++◌}
use Rattle.parts.specs.declared.table.Part.{Part}
use Rattle.parts.specs.declared.frame.Run.{Run}

-- a column: its place in a frame address, and how many frames (minors) it has
pub record Column : Type 0 where
  pub block : ℕ
  pub major : ℕ
  pub minors : ℕ

abbrev pub run : ℕ → ℕ → ℕ → ℕ → Run
run b m n k = record { block = b; major = m; columns = n; minors = k }

-- n columns of one block, of k minors each, from major m on
unfoldable pub columns_from : ℕ → ℕ → ℕ → ℕ → List Column
columns_from zero b m k = []
columns_from (suc n) b m k = record { block = b; major = m; minors = k } ∷ columns_from n b (m + 1) k

-- 01: "Block 0: major 0 has 3 minors, major 1 has 2, majors 2 to C+3 have 19, major C+4 has 2. Block 1: majors 0 to B-1,
-- 76 minors. Block 2: majors 0 to B-1, 19 minors."
unfoldable pub runs : Part → List Run
runs p =
    run 0 0 1 3
    ∷ run 0 1 1 2
    ∷ run 0 2 (p.columns + 2) 19
    ∷ run 0 (p.columns + 4) 1 2
    ∷ run 1 0 p.ram_columns 76
    ∷ run 2 0 p.ram_columns 19
    ∷ []

abbrev pub run_columns : Run → List Column
run_columns r = columns_from r.columns r.block r.major r.minors

unfoldable pub columns_of : List Run → List Column
columns_of [] = []
columns_of (r ∷ rs) = run_columns r ++ columns_of rs

-- 01: "Frames are numbered by block, then major, then minor."
abbrev pub columns : Part → List Column
columns p = columns_of (runs p)

-- how many frames the columns have
unfoldable pub total : List Column → ℕ
total [] = 0
total (c ∷ cs) = c.minors + total cs
