-- The eight parts and the figures that follow from R, C and B.
-- Sources: 01, "The eight parts"; 001, Tables 7 and 8.
use Rattle.std.specs.Prelude.{ℕ, ◌+◌, ◌*◌, List, [], ◌∷◌, cond, ltb, get_or, Result, Ok, Err}
use Rattle.answers.specs.StopsAndRefusals.{refusal_number}
use Rattle.answers.specs.declared.Refusal.{Refusal}
use Rattle.parts.specs.declared.table.Part.{Part}

abbrev pub part : ℕ → ℕ → ℕ → ℕ → Part
part i r c b = record { idcode = i; rows = r; columns = c; ram_columns = b }

-- 01: the table of IDCODE, R, C and B by device number; the IDCODEs are 001's, Table 8
unfoldable pub parts : List Part
parts =
    part 0x0140D093 16 12 1
    ∷ part 0x01414093 24 20 2
    ∷ part 0x0141C093 32 28 2
    ∷ part 0x11428093 48 40 2
    ∷ part 0x01434093 64 52 2
    ∷ part 0x01440093 80 64 2
    ∷ part 0x01448093 96 72 4
    ∷ part 0x01450093 104 80 4
    ∷ []

-- 01, refusal 21: device number above 7
unfoldable pub part_of : ℕ → Result Part Refusal
part_of d = cond (ltb d 8) (Ok (get_or parts d (part 0 0 0 0))) (Err Refusal.UnknownDevice)

-- the number of an answer, 0 where there is a part
abbrev pub part_refusal : Result Part Refusal → ℕ
part_refusal (Ok p) = 0
part_refusal (Err c) = refusal_number c

-- a figure of a part, for the part that a device number names; 0 where it names none
unfoldable pub figure_of : (Part → ℕ) → Result Part Refusal → ℕ
figure_of f (Ok p) = f p
figure_of f (Err c) = 0

abbrev pub figure : (Part → ℕ) → ℕ → ℕ
figure f d = figure_of f (part_of d)

-- 001, Table 8
unfoldable pub idcode_of : Part → ℕ
idcode_of p = p.idcode

-- 01: "Frame length L = 2R + 5 words"
unfoldable pub frame_length : Part → ℕ
frame_length p = 2 * p.rows + 5

-- 01: "Frames F = 45 + 19C + 95B"
unfoldable pub frame_count : Part → ℕ
frame_count p = 45 + 19 * p.columns + 95 * p.ram_columns

-- 01: "Memory is 4·L·F bytes"
unfoldable pub memory_length : Part → ℕ
memory_length p = 4 * frame_length p * frame_count p

-- ---- the figures of a device number

abbrev pub idcode_at : ℕ → ℕ
idcode_at d = figure idcode_of d

-- L
abbrev pub length_at : ℕ → ℕ
length_at d = figure frame_length d

-- F
abbrev pub count_at : ℕ → ℕ
count_at d = figure frame_count d

-- 4·L·F
abbrev pub memory_at : ℕ → ℕ
memory_at d = figure memory_length d
