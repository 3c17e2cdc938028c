-- A byte from 48 to 57, the digits of ASCII, after which the value still has 32 bits: it fits.
-- By the bounds' tests. The definitions are those of the program `build` (crates/build/specs/Inner/Decimal.antt): no crate imports a program.
use Rattle.std.specs.Prelude.{◌≡◌, Bool, false, ◌||◌, ℕ, ◌+◌, ◌-◌, ◌*◌, ◌≤◌, ltb}
use Rattle.std.proofs.Common.{le-ltb}

-- a digit more after digits of value n
abbrev pub with_digit : ℕ → ℕ → ℕ
with_digit n x = 10 * n + (x - 48)

-- no digit of ASCII, or one that leads past 2 ^ 32
abbrev pub unfit : ℕ → ℕ → Bool
unfit n x = ltb x 48 || ltb 57 x || ltb 4294967295 (with_digit n x)

module _ (n x : ℕ) where
  pub fit : 48 ≤ x → x ≤ 57 → with_digit n x ≤ 4294967295 → unfit n x ≡ false
  fit low high small = rw (le-ltb x 48 low, le-ltb 57 x high, le-ltb 4294967295 (with_digit n x) small)
