-- The register is linear over xor: what the xor of two inputs leaves is the xor of what each leaves.
-- A shifted register is five runs of bits; xor works on each run apart, and on one bit it is the sum modulo 2.
use Rattle.std.specs.Prelude.{◌≡◌, refl, ℕ, zero, suc, ◌+◌, ◌*◌, ◌/◌, ◌%◌, ◌^◌}
use Rattle.std.proofs.Common.{◌∙◌, mod-lt, mod-eq_of_lt, div-one, arith, pow_pos}
use Rattle.std.specs.Int.Bits.{bit_xor, xor_add_and}
use Rattle.std.proofs.lemmas.Nat.{xor_block, xor_shr, xor_mod}
use Rattle.crc16.specs.CrcRegister.{bit, input, shift, shift_in, feed}
use Rattle.crc16.specs.Laws.CrcBounds.{input_lt}

-- on the lowest bit xor is the sum
sums : (p q u v : ℕ) → (bit_xor p q + bit_xor u v) % 2 ≡ bit_xor (p + u) (q + v) % 2
sums p q u v = omega (arith, xor_add_and p q, xor_add_and u v, xor_add_and (p + u) (q + v))

-- a bit joined to bit i of the register
joined : (p q i c d : ℕ) → (bit_xor p q + bit i (bit_xor c d)) % 2 ≡ bit_xor (p + bit i c) (q + bit i d) % 2
joined p q i c d = rw (xor_shr c d i, xor_mod (c / 2 ^ i) (d / 2 ^ i) 1) (sums p q (bit i c) (bit i d))

input_xor : (c d p q : ℕ) → input (bit_xor c d) (bit_xor p q) ≡ bit_xor (input c p) (input d q)
unfolding input
input_xor c d p q = joined p q 15 c d ∙ xor_mod (p + bit 15 c) (q + bit 15 d) 1

-- the five runs of a shifted register, the highest first
runs : ℕ → ℕ → ℕ → ℕ → ℕ → ℕ
runs a m e f g = (((a % 2 * 4096 + m % 4096) * 2 + e % 2) * 2 + f % 2) * 2 + g % 2

shift_runs : (c d : ℕ) → shift c d ≡ runs (input c d + bit 14 c) (c / 4) (input c d + bit 1 c) c (input c d)
unfolding shift runs
shift_runs c d = rw (div-one c, mod-eq_of_lt (input_lt c d)) (omega arith)

-- xor works on the k lowest bits and on those above them apart
run : (k a b r s : ℕ) → bit_xor (a * 2 ^ k + r % 2 ^ k) (b * 2 ^ k + s % 2 ^ k) ≡ bit_xor a b * 2 ^ k + bit_xor r s % 2 ^ k
run k a b r s = rw (xor_block k a b (r % 2 ^ k) (s % 2 ^ k) (mod-lt r (pow_pos k)) (mod-lt s (pow_pos k)), xor_mod r s k)

pub shift_xor : (c d p q : ℕ) → shift (bit_xor c d) (bit_xor p q) ≡ bit_xor (shift c p) (shift d q)
unfolding runs
shift_xor c d p q =
    let i = input c p in
    let j = input d q in
    rw (shift_runs (bit_xor c d) (bit_xor p q), input_xor c d p q, joined i j 14 c d, joined i j 1 c d, xor_shr c d 2)
    (rw (shift_runs c p, shift_runs d q, run 1, run 1, run 1, run 12, ← xor_mod (i + bit 14 c) (j + bit 14 d) 1))

pub shift_in_xor : (k c d v w : ℕ) → shift_in k (bit_xor c d) (bit_xor v w) ≡ bit_xor (shift_in k c v) (shift_in k d w)
unfolding shift_in
shift_in_xor zero c d v w = refl
shift_in_xor (suc k) c d v w =
    rw (xor_mod v w 1, xor_shr v w 1, shift_xor c d (v % 2) (w % 2)) (shift_in_xor k (shift c (v % 2)) (shift d (w % 2)) (v / 2) (w / 2))

pub feed_xor : (c d a b v w : ℕ) → feed (bit_xor c d) (bit_xor a b) (bit_xor v w) ≡ bit_xor (feed c a v) (feed d b w)
unfolding feed
feed_xor c d a b v w = rw (shift_in_xor, shift_in_xor)
