-- Frame number to frame address and back, over any list of columns that stand in the order of their addresses.
-- By induction on the columns: the lookups take the same column, since no later column has the place of an earlier one.
use Rattle.std.specs.Prelude.{◌≡◌, refl, List, [], ◌∷◌, Bool, true, false, ℕ, suc, ◌+◌, ◌-◌, ◌*◌, ◌≤◌, ◌<◌, Some, Ok, Err}
use Rattle.std.proofs.Common.{◌∙◌, sym, ap, arith}
use Rattle.std.proofs.Math.Decide.{dec_lt}
use Rattle.parts.specs.Columns.{Column, total}
use Rattle.parts.specs.FrameAddress.{address, block, major, minor, address_in, names, number_in}
use Rattle.parts.specs.Laws.ColumnLookup.{block_address, major_address, minor_address, address_here, address_later, number_here, number_later, names_frame, frame_names, fails}
use Rattle.answers.specs.declared.Refusal.{Refusal}
use Rattle.answers.specs.AnswerNumbers.{refused}

-- ---- the order of the columns

-- a column's place among the columns of all blocks
abbrev pub place : ℕ → ℕ → ℕ
place b m = b * 256 + m

-- the columns rise, from a place on, and each column fits the fields of an address
abbrev pub InOrder : ℕ → List Column → Type 0
InOrder from [] = Unit {0}
InOrder from (c ∷ cs) =
    (from ≤ place c.block c.major) × (c.block < 4) × (c.major < 256) × (c.minors ≤ 256)
    × InOrder (suc (place c.block c.major)) cs

-- an address found among columns that rise is not below their first
above : (from : ℕ) (cs : List Column) (n a : ℕ) → InOrder from cs → address_in cs n ≡ Ok a → from ≤ place (block a) (major a)
unfolding address_in
above from [] n a o e = let z : ◌≡◌ {A = ℕ} 0 1 = cc in omega arith
above from (c ∷ cs) n a o e =
    elim (dec_lt n c.minors) [
      | yes h ↦
          let at : address c.block c.major n ≡ a = cc (address_here c cs n h) in
          rw (← at) (rw (block_address c.block c.major n o.1 o.2 (omega arith), major_address c.block c.major n o.1 o.2 (omega arith)) o.0)
      | no h ↦
          let later : suc (place c.block c.major) ≤ place (block a) (major a) = above (suc (place c.block c.major)) cs (n - c.minors) a o.4 (sym (address_later c cs n (omega arith)) ∙ e) in
          omega arith
    ]

-- ---- the theorems, for columns that rise

-- number to address to number
pub number_of_address : (from first : ℕ) (cs : List Column) (n a : ℕ) → InOrder from cs → address_in cs n ≡ Ok a
    → number_in cs first (block a) (major a) (minor a) ≡ Some (first + n)
unfolding address_in
number_of_address from first [] n a o e = let z : ◌≡◌ {A = ℕ} 0 1 = cc in absurd (omega arith)
number_of_address from first (c ∷ cs) n a o e =
    elim (dec_lt n c.minors) [
      | yes h ↦
          let at : address c.block c.major n ≡ a = cc (address_here c cs n h) in
          rw (← at) (rw (block_address c.block c.major n o.1 o.2 (omega arith), major_address c.block c.major n o.1 o.2 (omega arith), minor_address c.block c.major n o.1 o.2 (omega arith)) (number_here c cs first c.block c.major n (frame_names c n h)))
      | no h ↦
          let e' : address_in cs (n - c.minors) ≡ Ok a = sym (address_later c cs n (omega arith)) ∙ e in
          let later : suc (place c.block c.major) ≤ place (block a) (major a) = above (suc (place c.block c.major)) cs (n - c.minors) a o.4 e' in
          number_later c cs first (block a) (major a) (minor a) (fails _ (λ t. let named = names_frame c (block a) (major a) (minor a) t in omega arith))
          ∙ number_of_address (suc (place c.block c.major)) (first + c.minors) cs (n - c.minors) a o.4 e'
          ∙ ap Some (omega arith)
    ]

-- address to number to address, with the bits that name no frame cleared; and the number is one of the columns' frames
pub record Frame (cs : List Column) (first a n : ℕ) : Type 0 where
  pub from_first : first ≤ n
  pub found : address_in cs (n - first) ≡ Ok a
  pub below : n < first + total cs

pub address_of_number : (cs : List Column) (first b m k n : ℕ) → number_in cs first b m k ≡ Some n → Frame cs first (address b m k) n
unfolding number_in total
address_of_number [] first b m k n e = let z : ◌≡◌ {A = ℕ} 0 1 = cc in absurd (omega arith)
address_of_number (c ∷ cs) first b m k n e = go (names c b m k) refl (address_of_number cs (first + c.minors) b m k n)
  where
    go : (t : Bool) → names c b m k ≡ t
        → (number_in cs (first + c.minors) b m k ≡ Some n → Frame cs (first + c.minors) (address b m k) n)
        → Frame (c ∷ cs) first (address b m k) n
    go true h ih =
        let named = names_frame c b m k h in
        let at : n ≡ first + k = cc (number_here c cs first b m k h) in
        let here : n - first ≡ k = omega arith in
        record {
          from_first = omega arith;
          found = rw here (address_here c cs k named.2 ∙ ap Ok (cc));
          below = omega arith;
        }
    go false h ih =
        let f = ih (sym (number_later c cs first b m k h) ∙ e) in
        let on : n - first - c.minors ≡ n - (first + c.minors) = omega (arith, f.from_first) in
        record {
          from_first = omega (arith, f.from_first);
          found = address_later c cs (n - first) (omega (arith, f.from_first)) ∙ rw on f.found;
          below = omega (arith, f.below);
        }

-- a number below the columns' frames has an address
pub address_below : (cs : List Column) (n : ℕ) → n < total cs → (a : ℕ) × (address_in cs n ≡ Ok a)
unfolding total
address_below [] n l = absurd (omega arith)
address_below (c ∷ cs) n l =
    elim (dec_lt n c.minors) [
      | yes h ↦ (address c.block c.major n, address_here c cs n h)
      | no h ↦
          let later = address_below cs (n - c.minors) (omega arith) in
          (later.0, address_later c cs n (omega arith) ∙ later.1)
    ]

-- a number that is not below them has none
pub address_outside : (cs : List Column) (n : ℕ) → total cs ≤ n → address_in cs n ≡ Err (refused Refusal.OutsidePart 0)
unfolding total address_in
address_outside [] n l = refl
address_outside (c ∷ cs) n l = address_later c cs n (omega arith) ∙ address_outside cs (n - c.minors) (omega arith)
