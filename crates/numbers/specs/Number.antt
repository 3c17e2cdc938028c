-- The number that begins at an offset.
-- Sources: 01, "Layouts": "A layout's numbers are groups of seven bits, low group first, top bit set on all but the last byte,
-- shortest form only, at most 4,294,967,295 (so a fifth byte above 15 is a bad form at once)"; 02, W2: "A number cut short by the end of
-- the file is 42", the number of Missing.
use Rattle.std.specs.Prelude.{ℕ, zero, suc, ◌+◌, ◌-◌, ◌*◌, List, [], ◌∷◌, Bool, true, false, cond, not, ◌&&◌, eqb, ltb, drop, Result, Ok, Err}
use Rattle.answers.specs.StopsAndRefusals.{refusal_number}
use Rattle.answers.specs.declared.Refusal.{Refusal}
use Rattle.numbers.specs.declared.Number.{Number}

-- what reading gives: a number with the offset after it, or why there is none
abbrev pub NumberRead : Type 0
NumberRead = Result Number Refusal

-- the number v that was read, with the offset after it
abbrev pub read : ℕ → ℕ → Number
read v next = record { value = v; next = next }

-- the last byte of a number; "shortest form only": it is 0 only where it is the first byte too
unfoldable pub last_group : Bool → ℕ → ℕ → NumberRead
last_group first x next = cond (eqb x 0 && not first) (Err Refusal.BadForm) (Ok (read x next))

-- "low group first": a group of seven bits before the number of the other groups
unfoldable pub low_group : ℕ → NumberRead → NumberRead
low_group x (Ok n) = Ok (read (x + 128 * n.value) n.next)
low_group x (Err c) = Err c

-- the bytes from offset i on, of which k may have the top bit set
unfoldable pub groups : ℕ → Bool → ℕ → List ℕ → NumberRead
groups k first i [] = Err Refusal.Missing
groups zero first i (x ∷ xs) = cond (ltb 15 x) (Err Refusal.BadForm) (last_group first x (i + 1))
groups (suc k) first i (x ∷ xs) = cond (ltb x 128) (last_group first x (i + 1)) (low_group (x - 128) (groups k false (i + 1) xs))

-- five bytes at most
abbrev pub number_at : List ℕ → ℕ → NumberRead
number_at b at = groups 4 true at (drop at b)

-- the number of the refusal, 0 where nothing is refused
abbrev pub read_refusal : NumberRead → ℕ
read_refusal (Ok n) = 0
read_refusal (Err c) = refusal_number c

-- the number that was read, 0 where it is refused
abbrev pub read_value : NumberRead → ℕ
read_value (Ok n) = n.value
read_value (Err c) = 0

-- the offset after the number, 0 where it is refused
abbrev pub read_next : NumberRead → ℕ
read_next (Ok n) = n.next
read_next (Err c) = 0
