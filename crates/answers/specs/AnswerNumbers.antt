-- The number of an answer, 0 where it is done, and the value told beside it.
-- Sources: 01, "Stops and refusals"; "Layouts", the paragraph "Checks".
use Rattle.std.specs.Prelude.{ℕ, Result, Ok, Err}
use Rattle.answers.specs.StopsAndRefusals.{stop_number, refusal_number}
use Rattle.answers.specs.declared.Refusal.{Refusal}
use Rattle.answers.specs.declared.Refused.{Refused}
use Rattle.answers.specs.declared.LoadError.{LoadError}

-- what a call answers, and what power-on or a load answers
abbrev pub Answer : Type 0
Answer = Result ℕ Refused

abbrev pub LoadAnswer : Type 0
LoadAnswer = Result Unit LoadError

-- a refusal with what it tells
abbrev pub refused : Refusal → ℕ → Refused
refused c told = record { refusal = c; told = told }

-- of whatever is told where nothing is refused
abbrev pub refused_number : {A : Type 0} → Result A Refusal → ℕ
refused_number (Ok x) = 0
refused_number (Err c) = refusal_number c

abbrev pub answer_number : {A : Type 0} → Result A Refused → ℕ
answer_number (Ok x) = 0
answer_number (Err e) = refusal_number e.refusal

-- the value that the call is done with, or what its refusal tells: "success answers 0 and the stream's length"; "The place is where the
-- offending number starts"; "36 tells the length needed; 21 and 37 tell 0"
abbrev pub answer_value : Answer → ℕ
answer_value (Ok n) = n
answer_value (Err e) = e.told

-- "A load answers its stop number (0 for none)"
abbrev pub load_number : LoadAnswer → ℕ
load_number (Ok u) = 0
load_number (Err (LoadError.Stopped s)) = stop_number s
load_number (Err (LoadError.Refused c)) = refusal_number c
