-- The CRC register: sixteen bits that shift once for each bit that comes in, as 001 draws it in Figure 1.
-- Sources: 001, "Cyclic Redundancy Check Register"; 01, "CRC". docs/READINGS.md has what 001 garbles there.
use Rattle.std.specs.Prelude.{List, [], ◌∷◌, ℕ, zero, suc, ◌+◌, ◌*◌, ◌/◌, ◌%◌, ◌^◌}

-- bit i of a number
abbrev pub bit : ℕ → ℕ → ℕ
bit i n = n / 2 ^ i % 2

-- 001: "Register Bit 0 receives an XOR of the incoming data with the output of Bit 15"
unfoldable pub input : ℕ → ℕ → ℕ
input c d = (d + bit 15 c) % 2

-- 001, Figure 1, for X^16 + X^15 + X^2 + 1: the input goes to bit 0, to bit 2 with the output of bit 1, and to bit 15 with
-- the output of bit 14; every other bit takes the output of the bit below it
unfoldable pub shift : ℕ → ℕ → ℕ
shift c d = input c d + 2 * bit 0 c + 4 * ((input c d + bit 1 c) % 2) + 8 * (c / 4 % 4096) + 32768 * ((input c d + bit 14 c) % 2)

-- 01: "bit 0 first": the lowest k bits of a number are shifted in
unfoldable pub shift_in : ℕ → ℕ → ℕ → ℕ
shift_in zero c w = c
shift_in (suc k) c w = shift_in k (shift c (w % 2)) (w / 2)

-- 01, "CRC": a data word for a register, then the five bits of that register's address
unfoldable pub feed : ℕ → ℕ → ℕ → ℕ
feed c address word = shift_in 5 (shift_in 32 c word) address

-- words fed one after the other for a register
unfoldable pub fed_words : ℕ → ℕ → List ℕ → ℕ
fed_words crc a [] = crc
fed_words crc a (w ∷ ws) = fed_words (feed crc a w) a ws

-- the first k bits that leave the register, bit 15 as bit 0
unfoldable pub leaving : ℕ → ℕ → ℕ
leaving zero c = zero
leaving (suc k) c = bit 15 c + 2 * leaving k (2 * c)

-- 01, "The stream that is written": the word with upper sixteen bits zero that passes when it is written to CRC. A bit that
-- meets its equal at bit 15 leaves a zero behind, so it is the register's own bits in the order in which they leave it.
unfoldable pub check_word : ℕ → ℕ
check_word c = leaving 16 c
