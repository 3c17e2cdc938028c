-- The check word is the register's sixteen bits in reverse: of 32 bits in reverse the upper half.
-- By induction on the bits: a bit that goes from the number's low end to the end of what is reversed is the next that leaves.
use Rattle.std.specs.Prelude.{◌≡◌, refl, ℕ, zero, suc, ◌+◌, ◌-◌, ◌*◌, ◌/◌, ◌%◌, ◌^◌, ◌<◌}
use Rattle.std.specs.Int.{w32, reverse_bits, reverse_bits_onto}
use Rattle.std.proofs.Common.{◌∙◌, ap, subst, add-one, one-add, suc-add, zero-add, mul-one, div-one, shr-shr, arith}
use Rattle.std.proofs.lemmas.Nat.{shl-shr}
use Rattle.crc16.specs.CrcRegister.{leaving, check_word}
use Rattle.crc16.proofs.Laws.CheckWord.{shl_suc}

-- the first k bits that leave a register which holds the k lowest bits of n at its top
abbrev taken : ℕ → ℕ → ℕ
taken n k = leaving k (n * 2 ^ (16 - k))

-- bit k of a number is bit 15 once the number has moved up by 15 - k places
top : (j k n : ℕ) → j + k ≡ 15 → n * 2 ^ j / 2 ^ 15 ≡ n / 2 ^ k
top j k n h = subst (λ (m : ℕ). n * 2 ^ j / 2 ^ m ≡ n / 2 ^ k) h (rw (← shr-shr (n * 2 ^ j) j k, shl-shr n j))

turn : (n k : ℕ) → k < 16 → taken n k * 2 + n / 2 ^ k % 2 ≡ taken n (k + 1)
unfolding leaving
turn n k h =
    let e : 16 - k ≡ suc (16 - suc k) = omega arith in
    rw (add-one k, top (16 - suc k) k n (omega arith), shl_suc n (16 - suc k), e) (omega arith)

-- j bits more, after the k that were taken
taken_more : (j k n : ℕ) → j + k ≡ 16 → reverse_bits_onto j (n / 2 ^ k) (taken n k) ≡ leaving 16 n
unfolding reverse_bits_onto
taken_more zero k n e = let full : k ≡ 16 = omega arith in rw (full, mul-one)
taken_more (suc j) k n e = rw (turn n k (omega arith), shr-shr n k 1, add-one k) (taken_more j (suc k) n (omega arith))

-- bits in reverse are joined below what is there
onto_high : (k n a : ℕ) → reverse_bits_onto k n a / 2 ^ k ≡ a
unfolding reverse_bits_onto
onto_high zero n a = div-one a
onto_high (suc k) n a = rw (← add-one k, ← shr-shr (reverse_bits_onto k (n / 2) (a * 2 + n % 2)) k 1, onto_high k (n / 2) (a * 2 + n % 2)) (omega arith)

-- two runs of bits are one
onto_append : (j k n a : ℕ) → reverse_bits_onto (j + k) n a ≡ reverse_bits_onto k (n / 2 ^ j) (reverse_bits_onto j n a)
unfolding reverse_bits_onto
onto_append zero k n a = rw (zero-add, div-one)
onto_append (suc j) k n a = rw (suc-add, onto_append j k (n / 2) (a * 2 + n % 2), shr-shr n 1 j, one-add)

none : (n : ℕ) → taken n 0 ≡ 0
unfolding leaving
none n = refl

pub check_word_reversed : (c : ℕ) → reverse_bits w32 c / 65536 ≡ check_word c
unfolding check_word
check_word_reversed c =
    ap (λ (n : ℕ). n / 65536) (onto_append 16 16 c 0) ∙ onto_high 16 (c / 65536) (reverse_bits_onto 16 c 0)
    ∙ rw (none c, div-one) at (taken_more 16 0 c refl)
