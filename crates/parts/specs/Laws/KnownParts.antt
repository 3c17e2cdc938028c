-- A figure at a device number, where the number names a part and where it names none.
-- By the answer of the lookup in the table.
use Rattle.std.specs.Prelude.{◌≡◌, ℕ, Result, Ok, Err}
use Rattle.answers.specs.declared.Refusal.{Refusal}
use Rattle.parts.specs.Table.{part_of, figure_of, figure}
use Rattle.parts.specs.declared.table.Part.{Part}

pub figure_known : (f : Part → ℕ) (d : ℕ) (q : Result Part Refusal) (p : Part) → q ≡ part_of d → q ≡ Ok p → f p ≡ figure f d
unfolding figure_of
figure_known f d q p e k = rw (← e, k)

pub figure_unknown : (f : Part → ℕ) (d : ℕ) (q : Result Part Refusal) (c : Refusal) → q ≡ part_of d → q ≡ Err c → 0 ≡ figure f d
unfolding figure_of
figure_unknown f d q c e k = rw (← e, k)
