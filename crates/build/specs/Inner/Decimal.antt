-- The number that a text spells: decimal digits and nothing else, at least one, with a value under 2 ^ 32.
-- Digit by digit, the highest first.
use Rattle.std.specs.Prelude.{◌≡◌, refl, List, [], ◌∷◌, Bool, true, false, cond, ◌||◌, ℕ, ◌+◌, ◌-◌, ◌*◌, ◌≤◌, ◌<◌, ltb, length, get_or, drop, Option, Some, None}
use Rattle.std.specs.Char.{is_ascii_digit}
use Rattle.std.proofs.Math.Bool.{or-true, and-eq-true_iff}
use Rattle.std.proofs.Math.Decide.{dec_lt}
use Rattle.std.proofs.Common.{◌∙◌, sym, true≢false, add-one, arith, drop_of_length-le, drop-cons, lt-ltb, le-ltb, le-leb, leb-true}

-- a digit more after digits of value n
abbrev pub with_digit : ℕ → ℕ → ℕ
with_digit n x = 10 * n + (x - 48)

-- no digit of ASCII, or one that leads past 2 ^ 32
abbrev pub unfit : ℕ → ℕ → Bool
unfit n x = ltb x 48 || ltb 57 x || ltb 4294967295 (with_digit n x)

-- the digits that are left, the highest first, after digits of value n
unfoldable pub digits_from : ℕ → List ℕ → Option ℕ
digits_from n [] = Some n
digits_from n (x ∷ xs) = cond (unfit n x) None (digits_from (with_digit n x) xs)

unfoldable pub parsed : List ℕ → Option ℕ
parsed [] = None
parsed (x ∷ xs) = digits_from 0 (x ∷ xs)

-- the texts 368, 4294967295, 4294967296 and -1
pub parsed_examples : (parsed (51 ∷ 54 ∷ 56 ∷ []) ≡ Some 368)
    × (parsed (52 ∷ 50 ∷ 57 ∷ 52 ∷ 57 ∷ 54 ∷ 55 ∷ 50 ∷ 57 ∷ 53 ∷ []) ≡ Some 4294967295)
    × (parsed (52 ∷ 50 ∷ 57 ∷ 52 ∷ 57 ∷ 54 ∷ 55 ∷ 50 ∷ 57 ∷ 54 ∷ []) ≡ None)
    × (parsed (45 ∷ 49 ∷ []) ≡ None)
unfolding parsed digits_from
parsed_examples = (refl, refl, refl, refl)

-- ---- one digit

module _ (n x : ℕ) where
  pub unfit_low : x < 48 → unfit n x ≡ true
  unfit_low h = rw (lt-ltb x 48 h)

  pub unfit_high : 57 < x → unfit n x ≡ true
  unfit_high h = simp (lt-ltb 57 x h, or-true)

  pub unfit_large : 4294967295 < with_digit n x → unfit n x ≡ true
  unfit_large h = simp (lt-ltb 4294967295 (with_digit n x) h, or-true)

  pub fit_within : 48 ≤ x → x ≤ 57 → with_digit n x ≤ 4294967295 → unfit n x ≡ false
  fit_within low high small = rw (le-ltb x 48 low, le-ltb 57 x high, le-ltb 4294967295 (with_digit n x) small)

  -- by std's test of a digit
  pub unfit_byte : is_ascii_digit x ≡ false → unfit n x ≡ true
  unfit_byte h =
      elim (dec_lt x 48) [
        | yes low ↦ unfit_low low
        | no low ↦ elim (dec_lt 57 x) [
          | yes high ↦ unfit_high high
          | no high ↦ absurd (true≢false (sym (rw (le-leb 48 x (omega arith), le-leb x 57 (omega arith)) refl) ∙ h))
        ]
      ]

  pub fit : is_ascii_digit x ≡ true → with_digit n x ≤ 4294967295 → unfit n x ≡ false
  fit h small = let both = (and-eq-true_iff _ _).0 h in fit_within (leb-true _ _ both.0) (leb-true _ _ both.1) small

-- ---- reading from an offset on

module _ (text : List ℕ) (i n : ℕ) (h : i < length text) (is : digits_from n (drop i text) ≡ parsed text) where
  pub parsed_ends : unfit n (get_or text i 0) ≡ true → None ≡ parsed text
  unfolding digits_from
  parsed_ends t = rw (drop-cons text i 0 h, t) at is

  pub parsed_goes : unfit n (get_or text i 0) ≡ false → digits_from (with_digit n (get_or text i 0)) (drop (i + 1) text) ≡ parsed text
  unfolding digits_from
  parsed_goes t = rw (add-one i) (rw (drop-cons text i 0 h, t) at is)

pub parsed_none : (text : List ℕ) → length text ≡ 0 → None ≡ parsed text
unfolding parsed
parsed_none [] e = refl
parsed_none (x ∷ xs) e = absurd (omega arith)

pub parsed_starts : (text : List ℕ) → (length text ≡ 0 → ⊥) → digits_from 0 text ≡ parsed text
unfolding parsed
parsed_starts [] e = absurd (e refl)
parsed_starts (x ∷ xs) e = refl

pub parsed_done : (text : List ℕ) (i n : ℕ) → length text ≤ i → digits_from n (drop i text) ≡ parsed text → Some n ≡ parsed text
unfolding digits_from
parsed_done text i n h is = rw (drop_of_length-le text h) at is
