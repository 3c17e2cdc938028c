-- Words to bytes and back: how many there are, that they join, that each gives the other back.
-- By induction on the words; a word's bytes are its digits of base 256.
use Rattle.std.specs.Prelude.{◌≡◌, refl, List, [], ◌∷◌, ◌++◌, ℕ, zero, suc, ◌+◌, ◌*◌, ◌/◌, ◌%◌, ◌^◌, ◌≤◌, ◌<◌, length, get_or, take, drop}
use Rattle.std.proofs.Common.{◌∙◌, ap, arith, length-take-le, shr-shr}
use Rattle.std.proofs.Math.Numerals.{towards_suc}
use Rattle.std.proofs.Math.Pow.{shr_mod, split}
use Rattle.words.specs.WordsInBytes.{word_of, bytes_of, word_at, words_from}
use Rattle.words.specs.Laws.ByteLists.{AreWords, AreBytes, byte_at, bytes_drop}

-- ---- bytes of words

-- they are bytes, whatever the words are
pub bytes_small : (ws : List ℕ) → AreBytes (bytes_of ws)
unfolding bytes_of
bytes_small [] = tt
bytes_small (w ∷ ws) = (omega arith, (omega arith, (omega arith, (omega arith, bytes_small ws))))

pub bytes_length : (ws : List ℕ) → length (bytes_of ws) ≡ 4 * length ws
unfolding bytes_of
bytes_length [] = refl
bytes_length (w ∷ ws) = omega (arith, bytes_length ws)

pub first_bytes : (n : ℕ) (ws : List ℕ) → n ≤ length ws → length (bytes_of (take n ws)) ≡ 4 * n
first_bytes n ws h = bytes_length (take n ws) ∙ ap (λ (k : ℕ). 4 * k) (length-take-le n ws h)

pub bytes_append : (xs ys : List ℕ) → bytes_of (xs ++ ys) ≡ bytes_of xs ++ bytes_of ys
unfolding bytes_of
bytes_append [] ys = refl
bytes_append (x ∷ xs) ys = ap (λ bs. x / 2 ^ 24 % 2 ^ 8 ∷ x / 2 ^ 16 % 2 ^ 8 ∷ x / 2 ^ 8 % 2 ^ 8 ∷ x % 2 ^ 8 ∷ bs) (bytes_append xs ys)

-- ---- words of bytes

-- a word of four bytes has 32 bits
four_small : (a b c d : ℕ) → a < 2 ^ 8 → b < 2 ^ 8 → c < 2 ^ 8 → d < 2 ^ 8 → word_of a b c d < 2 ^ 32
four_small a b c d ha hb hc hd = omega arith

pub word_small : (bytes : List ℕ) (at : ℕ) → AreBytes bytes → word_at bytes at < 2 ^ 32
unfolding word_at
word_small bytes at h = four_small _ _ _ _ (byte_at bytes at h) (byte_at bytes (at + 1) h) (byte_at bytes (at + 2) h) (byte_at bytes (at + 3) h)

pub words_small : (n : ℕ) (bytes : List ℕ) → AreBytes bytes → AreWords (words_from n bytes)
unfolding words_from
words_small zero bytes h = tt
words_small (suc n) bytes h = (word_small bytes 0 h, words_small n (drop 4 bytes) (bytes_drop 4 bytes h))

pub words_length : (n : ℕ) (bytes : List ℕ) → length (words_from n bytes) ≡ n
unfolding words_from
words_length zero bytes = refl
words_length (suc n) bytes = ap suc (words_length n (drop 4 bytes))

-- ---- a word's bytes are the word

-- four digits of base 256, taken off one by one
digits : (w x y z a b c : ℕ) → x * 2 ^ 8 + a ≡ w → y * 2 ^ 8 + b ≡ x → z * 2 ^ 8 + c ≡ y → z * 2 ^ 24 + c * 2 ^ 16 + b * 2 ^ 8 + a ≡ w
digits w x y z a b c e f g = omega arith

pub word_bytes : (w : ℕ) → w < 2 ^ 32 → word_of (w / 2 ^ 24 % 2 ^ 8) (w / 2 ^ 16 % 2 ^ 8) (w / 2 ^ 8 % 2 ^ 8) (w % 2 ^ 8) ≡ w
word_bytes w h =
    digits w (w / 2 ^ 8) (w / 2 ^ 16) (w / 2 ^ 24 % 2 ^ 8) (w % 2 ^ 8) (w / 2 ^ 8 % 2 ^ 8) (w / 2 ^ 16 % 2 ^ 8) (split w 8)
    (rw (← shr-shr w 8 8) (split (w / 2 ^ 8) 8)) (rw (shr_mod 8 24 h, ← shr-shr w 16 8) (split (w / 2 ^ 16) 8))

-- words, as their bytes, are read again
pub words_bytes : (ws : List ℕ) → AreWords ws → words_from (length ws) (bytes_of ws) ≡ ws
unfolding words_from word_at bytes_of
words_bytes [] h = refl
words_bytes (w ∷ ws) h = rw (word_bytes w h.0, words_bytes ws h.1)

-- word k of words, read at its bytes
pub word_of_words : (ws : List ℕ) (k : ℕ) → AreWords ws → word_at (bytes_of ws) (4 * k) ≡ get_or ws k 0
unfolding word_at bytes_of
word_of_words [] k h = refl
word_of_words (w ∷ ws) zero h = word_bytes w h.0
word_of_words (w ∷ ws) (suc k) h =
    let e : 4 * suc k ≡ suc (suc (suc (suc (4 * k)))) = omega arith in
    rw e (simp towards_suc (simp towards_suc at (word_of_words ws k h.1)))

-- ---- a word of bytes has these bytes

pub four_back : (a b c d : ℕ) → a < 2 ^ 8 → b < 2 ^ 8 → c < 2 ^ 8 → d < 2 ^ 8 →
    let w = word_of a b c d in (w / 2 ^ 24 % 2 ^ 8 ≡ a) × (w / 2 ^ 16 % 2 ^ 8 ≡ b) × (w / 2 ^ 8 % 2 ^ 8 ≡ c) × (w % 2 ^ 8 ≡ d)
four_back a b c d ha hb hc hd = (omega arith, omega arith, omega arith, omega arith)

-- bytes, read as words, are their bytes again
pub bytes_words : (n : ℕ) (bytes : List ℕ) → AreBytes bytes → length bytes ≡ 4 * n → bytes_of (words_from n bytes) ≡ bytes
unfolding words_from word_at bytes_of
bytes_words zero [] h e = refl
bytes_words zero (x ∷ xs) h e = absurd (omega arith)
bytes_words (suc n) [] h e = absurd (omega arith)
bytes_words (suc n) (a ∷ []) h e = absurd (omega arith)
bytes_words (suc n) (a ∷ b ∷ []) h e = absurd (omega arith)
bytes_words (suc n) (a ∷ b ∷ c ∷ []) h e = absurd (omega arith)
bytes_words (suc n) (a ∷ b ∷ c ∷ d ∷ xs) h e =
    let back = four_back a b c d h.0 h.1.0 h.1.1.0 h.1.1.1.0 in
    rw (back.0, back.1, back.2, back.3) (ap (λ (ys : List ℕ). a ∷ b ∷ c ∷ d ∷ ys) (bytes_words n xs h.1.1.1.1 (omega arith)))
