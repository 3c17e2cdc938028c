-- The register stays below 65,536, whatever it held before. Of what it held sixteen bits count, of a word 32, of an address five.
-- By induction on the bits that are shifted in, from one shift.
use Rattle.std.specs.Prelude.{◌≡◌, refl, ℕ, zero, suc, ◌+◌, ◌/◌, ◌%◌, ◌^◌, ◌<◌}
use Rattle.std.proofs.Common.{add-one, arith}
use Rattle.std.proofs.Math.Pow.{field, mod-mod-pow}
use Rattle.crc16.specs.CrcRegister.{input, shift, shift_in, feed}

pub input_lt : (c d : ℕ) → input c d < 2
unfolding input
input_lt c d = omega arith

pub shift_lt : (c d : ℕ) → shift c d < 65536
unfolding shift input
shift_lt c d = omega arith

pub shift_in_lt : (k c w : ℕ) → shift_in (suc k) c w < 65536
unfolding shift_in
shift_in_lt zero c w = shift_lt c (w % 2)
shift_in_lt (suc k) c w = shift_in_lt k (shift c (w % 2)) (w / 2)

pub feed_lt : (c a w : ℕ) → feed c a w < 65536
unfolding feed
feed_lt c a w = shift_in_lt _ _ _

-- j bits from bit i on, of the lowest bits of a number
pub bits_low : (m j i n : ℕ) → n % 2 ^ (m + j + i) / 2 ^ i % 2 ^ j ≡ n / 2 ^ i % 2 ^ j
bits_low m j i n = rw (field, mod-mod-pow)

pub shift_low : (c d : ℕ) → shift (c % 65536) d ≡ shift c d
unfolding shift input
shift_low c d = rw (bits_low 0 1 15 c, bits_low 1 1 14 c, bits_low 14 1 1 c, bits_low 15 1 0 c, bits_low 2 12 2 c)

pub feed_register : (c a w : ℕ) → feed (c % 65536) a w ≡ feed c a w
unfolding feed shift_in
feed_register c a w = rw shift_low

pub shift_in_low : (k c w : ℕ) → shift_in k c (w % 2 ^ k) ≡ shift_in k c w
unfolding shift_in
shift_in_low zero c w = refl
shift_in_low (suc k) c w = rw (← add-one k, mod-mod-pow w k 1, field w k 1) (shift_in_low k _ (w / 2))

pub feed_word : (c a w : ℕ) → feed c a (w % 2 ^ 32) ≡ feed c a w
unfolding feed
feed_word c a w = rw (shift_in_low 32)

pub feed_address : (c a w : ℕ) → feed c (a % 32) w ≡ feed c a w
unfolding feed
feed_address c a w = rw (shift_in_low 5)
