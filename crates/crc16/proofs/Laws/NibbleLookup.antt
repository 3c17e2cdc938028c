-- Fed by lookups in the table of `entries`, a register is what `feed` says: four half-words add up, and of each four nibbles.
-- A number is the xor of its bits from k on and its bits below, and a function that is linear over xor keeps that.
use Rattle.std.specs.Prelude.{◌≡◌, ℕ, zero, suc, ◌+◌, ◌*◌, ◌/◌, ◌%◌, ◌^◌, ◌<◌, get_or}
use Rattle.std.proofs.Common.{sym, ◌∙◌, add-zero, add-suc, suc-add, mul-one, mod-lt, le_of_suc-le-suc, not-suc-le-zero, pow_pos}
use Rattle.std.proofs.Math.Nat.{zero-add}
use native.Mathlib.Omega.{arith}
use Rattle.std.proofs.lemmas.Nat.{mod-pow-add, xor_block}
use Rattle.std.specs.Int.Bits.{bit_xor, xor_shifted, xor_zero_r}
use Rattle.crc16.specs.CrcRegister.{feed}
use Rattle.crc16.specs.Laws.CrcBounds.{feed_register, feed_address, feed_word}
use Rattle.crc16.specs.Laws.Linearity.{feed_xor}
use Rattle.crc16.specs.NibbleTable.{share, entry, entries, looked_up, feed_with}

abbrev Linear : (ℕ → ℕ) → Type 0
Linear f = (a b : ℕ) → f (bit_xor a b) ≡ bit_xor (f a) (f b)

-- the j bits from bit k on, and the k bits below
split : (f : ℕ → ℕ) → Linear f → (j k x : ℕ) → f (x % 2 ^ (j + k)) ≡ bit_xor (f (x / 2 ^ k % 2 ^ j * 2 ^ k)) (f (x % 2 ^ k))
split f h j k x = rw (mod-pow-add x j k, ← xor_shifted (x / 2 ^ k % 2 ^ j) k (x % 2 ^ k) (mod-lt x (pow_pos k))) (h _ _)

shl_xor : (a b : ℕ) → bit_xor a b * 65536 ≡ bit_xor (a * 65536) (b * 65536)
shl_xor a b = sym (simp add-zero at (xor_block 16 a b 0 0 (omega arith) (omega arith)))

share_xor : (g : ℕ) → Linear (share g)
unfolding share
share_xor zero a b = feed_xor a b 0 0 0 0
share_xor (suc zero) a b = feed_xor 0 0 0 0 a b
share_xor (suc (suc zero)) a b = rw shl_xor (feed_xor 0 0 0 0 (a * 65536) (b * 65536))
share_xor (suc (suc (suc g))) a b = feed_xor 0 0 a b 0 0

entries_at : (n i k : ℕ) → k < n → get_or (entries n i) k 0 ≡ entry (i + k)
unfolding entries
entries_at zero i k h = absurd (not-suc-le-zero h)
entries_at (suc n) i zero h = rw add-zero
entries_at (suc n) i (suc k) h = rw (entries_at n (suc i) k (le_of_suc-le-suc h), suc-add, add-suc)

nibbles : (g x : ℕ) →
    share g (x % 65536) ≡ bit_xor (share g (x / 4096 % 16 * 4096)) (bit_xor (share g (x / 256 % 16 * 256)) (bit_xor (share g (x / 16 % 16 * 16)) (share g (x % 16))))
nibbles g x = rw (split (share g) (share_xor g) 4 12 x, split (share g) (share_xor g) 4 8 x, split (share g) (share_xor g) 4 4 x)

-- a group g of the table
module _ (g : ℕ) (hg : g < 4) where
  -- the entry of a nibble at place l of the group
  entry_at : (l m : ℕ) → l < 4 → get_or (entries 256 0) (64 * g + 16 * l + m % 16) 0 ≡ share g (m % 16 * 16 ^ l)
  unfolding entry
  entry_at l m h =
      let i = 64 * g + 16 * l + m % 16 in
      let eg : i / 64 ≡ g = omega arith in
      let el : i / 16 % 4 ≡ l = omega arith in
      let en : i % 16 ≡ m % 16 = omega arith in
      rw (entries_at 256 0 i (omega arith), zero-add, eg, el, en)

  half_word : (x : ℕ) → looked_up (entries 256 0) g x ≡ share g (x % 65536)
  unfolding looked_up
  half_word x =
      let lowest = simp (add-zero, mul-one) at (entry_at 0 x (omega arith)) in
      rw (entry_at 3 (x / 4096) (omega arith), entry_at 2 (x / 256) (omega arith), entry_at 1 (x / 16) (omega arith), lowest)
      (sym (nibbles g x))

half_words : (c a w : ℕ) →
    bit_xor (share 0 (c % 65536)) (bit_xor (share 3 (a % 65536)) (bit_xor (share 2 (w / 65536 % 65536)) (share 1 (w % 65536)))) ≡ feed c a w
unfolding share
half_words c a w =
    let word = split (feed 0 0) (feed_xor 0 0 0 0) 16 16 w in
    let low : a % 65536 % 32 ≡ a % 32 = omega arith in
    let address : feed 0 (a % 65536) 0 ≡ feed 0 a 0 = sym (feed_address 0 (a % 65536) 0) ∙ rw low (feed_address 0 a 0) in
    rw (feed_register c 0 0, address, ← word, feed_word 0 0 w, ← feed_xor 0 0 a 0 0 w, xor_zero_r a, ← feed_xor c 0 0 a 0 w, xor_zero_r c)

-- so whoever holds the table of entries may feed through it
pub feed_with_entries : (c a w : ℕ) → feed_with (entries 256 0) c a w ≡ feed c a w
unfolding feed_with
feed_with_entries c a w =
    cc (half_word 0 (omega arith) c, half_word 3 (omega arith) a, half_word 2 (omega arith) (w / 65536), half_word 1 (omega arith) w, half_words c a w)
