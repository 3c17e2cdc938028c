-- What each nibble that is fed adds to the register, as a table of 256 entries.
-- In no paper: how the code feeds a word faster. The register is linear over xor, so `feed` is the xor of the entries that its input picks (proofs/Laws/NibbleLookup.antt).
use Rattle.std.specs.Prelude.{List, [], ◌∷◌, ℕ, zero, suc, ◌+◌, ◌*◌, ◌/◌, ◌%◌, ◌^◌, get_or}
use Rattle.std.specs.Int.Bits.{bit_xor}
use Rattle.crc16.specs.CrcRegister.{feed}

-- what a half-word adds: 0 as the register, 1 and 2 as the word's low and high half, 3 as the address
unfoldable pub share : ℕ → ℕ → ℕ
share zero h = feed h 0 0
share (suc zero) h = feed 0 0 h
share (suc (suc zero)) h = feed 0 0 (h * 65536)
share (suc (suc (suc g))) h = feed 0 h 0

-- four groups, of four places, of sixteen nibbles
unfoldable pub entry : ℕ → ℕ
entry k = share (k / 64) (k % 16 * 16 ^ (k / 16 % 4))

-- n entries from entry i on
unfoldable pub entries : ℕ → ℕ → List ℕ
entries zero i = []
entries (suc n) i = entry i ∷ entries n (suc i)

-- what the four nibbles of a half-word pick from group g of any table t, xored in the order in which the code does it
unfoldable pub looked_up : List ℕ → ℕ → ℕ → ℕ
looked_up t g x =
    bit_xor (get_or t (64 * g + 48 + x / 4096 % 16) 0)
    (bit_xor (get_or t (64 * g + 32 + x / 256 % 16) 0)
    (bit_xor (get_or t (64 * g + 16 + x / 16 % 16) 0)
    (get_or t (64 * g + x % 16) 0)))

-- a register fed by lookups in any table t, so that the code that looks up needs no table of its own
unfoldable pub feed_with : List ℕ → ℕ → ℕ → ℕ → ℕ
feed_with t crc address word = bit_xor (looked_up t 0 crc) (bit_xor (looked_up t 3 address) (bit_xor (looked_up t 2 (word / 65536)) (looked_up t 1 word)))
