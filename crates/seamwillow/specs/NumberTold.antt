-- What the C interface writes for an answer on a frame's number, beside 01's number that it returns.
-- Source: docs/C-INTERFACE.md, sw_frame_number.
use Rattle.std.specs.Prelude.{ℕ, Option, Some, None, Result, Ok, Err}
use Rattle.answers.specs.declared.Refusal.{Refusal}

-- the frame number, FFFFFFFF for none and where refused
abbrev pub number_told : Result (Option ℕ) Refusal → ℕ
number_told (Ok (Some n)) = n
number_told (Ok None) = 0xFFFFFFFF
number_told (Err c) = 0xFFFFFFFF
