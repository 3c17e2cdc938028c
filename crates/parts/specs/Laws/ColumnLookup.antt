-- The laws of the two lookups, one column at a time, and of the fields of an address.
-- Each case of a definition is one law, by the test that picks it; the fields by linear arithmetic.
use Rattle.std.specs.Prelude.{◌≡◌, refl, List, ◌∷◌, Bool, true, false, ◌&&◌, ℕ, ◌+◌, ◌-◌, ◌≤◌, ◌<◌, eqb, ltb, Some, Ok}
use Rattle.std.proofs.Math.Bool.{and-eq-true_iff}
use native.Mathlib.Omega.{arith}
use Rattle.std.proofs.Common.{lt-ltb, le-ltb, eq-eqb, eqb-true, ltb-true}
use Rattle.parts.specs.Columns.{Column}
use Rattle.parts.specs.FrameAddress.{address, block, major, minor, address_in, names, number_in}

-- ---- the fields of an address that was put together

module _ (b m k : ℕ) (hb : b < 4) (hm : m < 256) (hk : k < 256) where
  pub block_address : block (address b m k) ≡ b
  unfolding block address
  block_address = omega arith

  pub major_address : major (address b m k) ≡ m
  unfolding major address
  major_address = omega arith

  pub minor_address : minor (address b m k) ≡ k
  unfolding minor address
  minor_address = omega arith

-- ---- one column more

pub address_here : (c : Column) (cs : List Column) (n : ℕ) → n < c.minors → address_in (c ∷ cs) n ≡ Ok (address c.block c.major n)
unfolding address_in
address_here c cs n h = simp (lt-ltb n c.minors h)

pub address_later : (c : Column) (cs : List Column) (n : ℕ) → c.minors ≤ n → address_in (c ∷ cs) n ≡ address_in cs (n - c.minors)
unfolding address_in
address_later c cs n h = simp (le-ltb n c.minors h)

pub number_here : (c : Column) (cs : List Column) (first b m k : ℕ) → names c b m k ≡ true → number_in (c ∷ cs) first b m k ≡ Some (first + k)
unfolding number_in
number_here c cs first b m k h = simp h

pub number_later : (c : Column) (cs : List Column) (first b m k : ℕ) → names c b m k ≡ false → number_in (c ∷ cs) first b m k ≡ number_in cs (first + c.minors) b m k
unfolding number_in
number_later c cs first b m k h = simp h

-- what it is to name a frame of a column
pub names_frame : (c : Column) (b m k : ℕ) → names c b m k ≡ true → (c.block ≡ b) × (c.major ≡ m) × (k < c.minors)
unfolding names
names_frame c b m k h =
    let both = (and-eq-true_iff (eqb c.block b && eqb c.major m) (ltb k c.minors)).0 h in
    let place = (and-eq-true_iff (eqb c.block b) (eqb c.major m)).0 both.0 in
    (eqb-true _ _ place.0, eqb-true _ _ place.1, ltb-true _ _ both.1)

pub frame_names : (c : Column) (k : ℕ) → k < c.minors → names c c.block c.major k ≡ true
unfolding names
frame_names c k h = simp (eq-eqb c.block c.block refl, eq-eqb c.major c.major refl, lt-ltb k c.minors h)

-- a test that cannot pass fails
pub fails : (t : Bool) → (t ≡ true → ⊥) → t ≡ false
fails true h = absurd (h refl)
fails false h = refl
