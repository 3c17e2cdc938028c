-- The frame that an address names.
-- Source: 01, "Words and packets", the paragraph "Registers".
use Rattle.std.specs.Prelude.{ℕ, Option, Some, None, Result, Ok, Err}
use Rattle.parts.specs.FrameAddress.{frame_number}
use Rattle.answers.specs.declared.Refusal.{Refusal}

unfoldable pub current_from : Result (Option ℕ) Refusal → Option ℕ
current_from (Ok (Some n)) = Some n
current_from (Ok None) = None
current_from (Err c) = None

-- 01: "A FAR write makes the frame it names the current one, or none"
abbrev pub named : ℕ → ℕ → Option ℕ
named d a = current_from (frame_number d a)
