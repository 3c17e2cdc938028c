-- The check word passes, and no other word with upper sixteen bits zero does.
-- A bit that is the one that leaves makes a shift a doubling, and sixteen doublings leave zero.
use Rattle.std.specs.Prelude.{◌≡◌, refl, ℕ, zero, suc, ◌+◌, ◌-◌, ◌*◌, ◌/◌, ◌%◌, ◌^◌, ◌<◌, ◌≤◌}
use Rattle.std.proofs.Common.{sym, ◌∙◌, ap, arith, pow-suc, mul-one, mul_assoc, mul_comm, zero-add, suc-add, div-one, mod-lt, mod-eq_of_lt, one-add, shr-shr}
use Rattle.std.proofs.Math.Nat.{mul-mod_left, zero-div}
use Rattle.std.proofs.lemmas.Nat.{mod-pow-add, shl-shr}
use Rattle.crc16.specs.CrcRegister.{bit, input, shift, shift_in, feed, leaving, check_word}
use Rattle.crc16.specs.Laws.CrcBounds.{input_lt, shift_lt, feed_lt, bits_low}

pub leaving_lt : (k c : ℕ) → leaving k c < 2 ^ k
unfolding leaving
leaving_lt zero c = omega arith
leaving_lt (suc k) c = rw (pow-suc 2 k) (omega (arith, leaving_lt k (2 * c)))

pub check_word_small : (c : ℕ) → check_word c < 65536
unfolding check_word
check_word_small c = leaving_lt 16 c

-- one place more is a doubling
pub shl_suc : (c k : ℕ) → 2 * (c * 2 ^ k) ≡ c * 2 ^ suc k
shl_suc c k = rw (pow-suc 2 k, ← mul_assoc c (2 ^ k) 2) (mul_comm 2 (c * 2 ^ k))

-- where the input is zero, a shift doubles the register
doubles : (c d : ℕ) → input c d ≡ 0 → shift c d ≡ 2 * (c % 32768)
unfolding shift
doubles c d h = rw (h, mod-pow-add c 1 14, mod-pow-add c 12 2, mod-pow-add c 1 1) (omega arith)

-- a bit that meets its equal at bit 15
same_bit : (c d : ℕ) → d % 65536 ≡ c % 65536 → input d (bit 15 c) ≡ 0
unfolding input
same_bit c d h = omega arith

-- the lowest bit after a shift is the input
even_input : (c d : ℕ) → shift c d % 2 ≡ 0 → input c d ≡ 0
unfolding shift
even_input c d h = omega (arith, input_lt c d)

-- a number from its lowest bit and the rest
digits : (b n : ℕ) → b < 2 → ((b + 2 * n) % 2 ≡ b) × ((b + 2 * n) / 2 ≡ n)
digits b n h = omega arith

-- while the bits that come in are those that leave, the register doubles
follows : (k c d : ℕ) → d % 65536 ≡ c % 65536 → shift_in k d (leaving k c) % 65536 ≡ c * 2 ^ k % 65536
unfolding shift_in leaving
follows zero c d h = rw mul-one h
follows (suc k) c d h =
    let e = digits (bit 15 c) (leaving k (2 * c)) (mod-lt _ (omega arith)) in
    rw (e.0, e.1, doubles d (bit 15 c) (same_bit c d h), ← shl_suc c k, ← mul_assoc 2 c (2 ^ k)) (follows k (2 * c) (2 * (d % 32768)) (omega arith))

-- bits are shifted in by two runs as by one
shift_in_append : (j k c w : ℕ) → shift_in (j + k) c w ≡ shift_in k (shift_in j c w) (w / 2 ^ j)
unfolding shift_in
shift_in_append zero k c w = rw (zero-add, div-one)
shift_in_append (suc j) k c w = rw (suc-add, shift_in_append j k (shift c (w % 2)) (w / 2), shr-shr w 1 j, one-add)

-- a check word's upper half and the address are zero bits
check_word_fed : (c w : ℕ) → w < 65536 → feed c 0 w ≡ shift_in 21 (shift_in 16 c w) 0
unfolding feed
check_word_fed c w h =
    let e : w / 65536 ≡ 0 = omega arith in
    let word : shift_in 32 c w ≡ shift_in 16 (shift_in 16 c w) 0 = shift_in_append 16 16 c w ∙ rw e in
    ap (λ (d : ℕ). shift_in 5 d 0) word ∙ sym (shift_in_append 16 5 (shift_in 16 c w) 0)

-- 01: the check passes if the register is then zero
pub check_word_passes : (c : ℕ) → feed c 0 (check_word c) ≡ 0
unfolding leaving check_word
check_word_passes c =
    sym (mod-eq_of_lt (feed_lt c 0 (check_word c))) ∙ rw (check_word_fed c (check_word c) (check_word_small c))
    (follows 21 0 (shift_in 16 c (check_word c)) (follows 16 c c refl ∙ mul-mod_left c 65536))

-- a number that is zero once it stands fewer than sixteen places up is even
even : (k c : ℕ) → k < 16 → c * 2 ^ k % 65536 ≡ 0 → c % 2 ≡ 0
even k c h e =
    let s : 15 - k + 1 + k ≡ 16 = omega arith in
    sym (rw (s, e, shl-shr c k, zero-div (2 ^ k)) at (bits_low (15 - k) 1 k (c * 2 ^ k)))

-- a register that zero bits bring to zero was zero
was_zero_shift : (c : ℕ) → shift c 0 % 65536 ≡ 0 → c % 65536 ≡ 0
unfolding input
was_zero_shift c e =
    let i : input c 0 ≡ 0 = even_input c 0 (omega arith) in
    let top : bit 15 c ≡ 0 = omega arith in
    let low : c % 32768 ≡ 0 = omega (arith, doubles c 0 i, shift_lt c 0) in
    mod-pow-add c 1 15 ∙ rw (top, low)

was_zero : (k c : ℕ) → shift_in k c 0 % 65536 ≡ 0 → c % 65536 ≡ 0
unfolding shift_in
was_zero zero c e = e
was_zero (suc k) c e = was_zero_shift c (was_zero k (shift c 0) e)

-- bits that bring the register to zero are those that leave it: all but the first are, so after the first the register is even
only : (k c d w : ℕ) → k ≤ 16 → w < 2 ^ k → d % 65536 ≡ c % 65536 → shift_in k d w % 65536 ≡ 0 → w ≡ leaving k c
unfolding shift_in leaving input
only zero c d w hk hw h e = omega arith
only (suc k) c d w hk hw h e =
    let next = shift d (w % 2) in
    let half : w / 2 < 2 ^ k = omega (arith, pow-suc 2 k) in
    let later : w / 2 ≡ leaving k next = only k next next (w / 2) (omega arith) half refl e in
    let out : next * 2 ^ k % 65536 ≡ 0 = sym (follows k next next refl) ∙ rw (← later) e in
    let i : input d (w % 2) ≡ 0 = even_input d (w % 2) (even k next hk out) in
    let rest : w / 2 ≡ leaving k (2 * c) = only k (2 * c) next (w / 2) (omega arith) half (omega (arith, doubles d (w % 2) i)) e in
    omega arith

-- it is the only word below 65,536 that passes
pub check_word_only : (c w : ℕ) → w < 65536 → feed c 0 w ≡ 0 → w ≡ check_word c
unfolding check_word
check_word_only c w h e =
    only 16 c c w (omega arith) h refl (was_zero 21 (shift_in 16 c w) (omega (arith, check_word_fed c w h)))
