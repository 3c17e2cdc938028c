-- The frame address of a frame number and the frame number of a frame address.
-- Sources: 01, "The eight parts", second paragraph; 001, Figure 2 and "Configuration Frame Addressing".
use Rattle.std.specs.Prelude.{ℕ, ◌+◌, ◌-◌, ◌*◌, ◌/◌, ◌%◌, ◌^◌, List, [], ◌∷◌, Bool, cond, ◌&&◌, eqb, ltb, Option, Some, None, Result, Ok, Err}
use Rattle.answers.specs.StopsAndRefusals.{refusal_number}
use Rattle.answers.specs.AnswerNumbers.{answer_value, refused, Answer}
use Rattle.answers.specs.declared.Refusal.{Refusal}
use Rattle.parts.specs.Table.{part_of, frame_count}
use Rattle.parts.specs.Columns.{Column, columns}
use Rattle.parts.specs.declared.frame.AddressFields.{AddressFields}
use Rattle.parts.specs.declared.table.Part.{Part}

-- 01: "block in bits 26..25, major in 24..17, minor in 16..9"
unfoldable pub address : ℕ → ℕ → ℕ → ℕ
address b m k = b * 2 ^ 25 + m * 2 ^ 17 + k * 2 ^ 9

unfoldable pub block : ℕ → ℕ
block a = a / 2 ^ 25 % 2 ^ 2

unfoldable pub major : ℕ → ℕ
major a = a / 2 ^ 17 % 2 ^ 8

unfoldable pub minor : ℕ → ℕ
minor a = a / 2 ^ 9 % 2 ^ 8

-- 01: "block in bits 26..25, major in 24..17, minor in 16..9; other bits are ignored"
abbrev pub address_fields : ℕ → AddressFields
address_fields a = record { block = block a; major = major a; minor = minor a }

-- 01: "other bits are ignored": the address without them
abbrev pub cleared : ℕ → ℕ
cleared a = address (block a) (major a) (minor a)

-- the address of frame n, counted from the first of the columns
unfoldable pub address_in : List Column → ℕ → Answer
address_in [] n = Err (refused Refusal.OutsidePart 0)
address_in (c ∷ cs) n = cond (ltb n c.minors) (Ok (address c.block c.major n)) (address_in cs (n - c.minors))

-- block b, major m, minor k is a frame of the column
unfoldable pub names : Column → ℕ → ℕ → ℕ → Bool
names c b m k = eqb c.block b && eqb c.major m && ltb k c.minors

-- the number of the frame at block b, major m, minor k, where the first of the columns begins at frame `first`
unfoldable pub number_in : List Column → ℕ → ℕ → ℕ → ℕ → Option ℕ
number_in [] first b m k = None
number_in (c ∷ cs) first b m k = cond (names c b m k) (Some (first + k)) (number_in cs (first + c.minors) b m k)

-- 01: "Lookups refuse 21, then 34 for a number not under F"
unfoldable pub address_for : Result Part Refusal → ℕ → Answer
address_for (Ok p) n = cond (ltb n (frame_count p)) (address_in (columns p) n) (Err (refused Refusal.OutsidePart 0))
address_for (Err c) n = Err (refused c 0)

abbrev pub frame_address : ℕ → ℕ → Answer
frame_address d n = address_for (part_of d) n

-- the frame address, 0 where it is refused
abbrev pub address_at : ℕ → ℕ → ℕ
address_at d n = answer_value (frame_address d n)

-- 01: "Lookups refuse 21"; "an address of no frame gives none"
unfoldable pub number_for : Result Part Refusal → ℕ → Result (Option ℕ) Refusal
number_for (Ok p) a = Ok (number_in (columns p) 0 (block a) (major a) (minor a))
number_for (Err c) a = Err c

abbrev pub frame_number : ℕ → ℕ → Result (Option ℕ) Refusal
frame_number d a = number_for (part_of d) a

-- the number of an answer, 0 where nothing is refused: no frame is an answer too
abbrev pub number_refusal : Result (Option ℕ) Refusal → ℕ
number_refusal (Ok (Some n)) = 0
number_refusal (Ok None) = 0
number_refusal (Err c) = refusal_number c
