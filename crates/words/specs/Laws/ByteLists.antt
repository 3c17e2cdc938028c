-- Lists of bytes and lists of words: each element in its range; their parts and joins.
-- By induction on the list.
use Rattle.std.specs.Prelude.{List, [], ◌∷◌, ◌++◌, ℕ, zero, suc, ◌^◌, ◌<◌, get_or, take, drop, replicate}
use Rattle.std.proofs.Common.{arith}

-- words of 32 bits
abbrev pub AreWords : List ℕ → Type 0
AreWords [] = Unit {0}
AreWords (w ∷ ws) = (w < 2 ^ 32) × AreWords ws

-- bytes of 8 bits
abbrev pub AreBytes : List ℕ → Type 0
AreBytes [] = Unit {0}
AreBytes (x ∷ xs) = (x < 2 ^ 8) × AreBytes xs

pub words_join : (xs ys : List ℕ) → AreWords xs → AreWords ys → AreWords (xs ++ ys)
words_join [] ys h g = g
words_join (x ∷ xs) ys h g = (h.0, words_join xs ys h.1 g)

pub zero_words : (n : ℕ) → AreWords (replicate {A = ℕ} n 0)
zero_words zero = tt
zero_words (suc n) = (omega arith, zero_words n)

-- a list whose every element is a byte
pub all_bytes : (xs : List ℕ) → ((i : ℕ) → get_or xs i 0 < 2 ^ 8) → AreBytes xs
all_bytes [] h = tt
all_bytes (x ∷ xs) h = (h zero, all_bytes xs (λ i. h (suc i)))

pub byte_at : (xs : List ℕ) (i : ℕ) → AreBytes xs → get_or xs i 0 < 2 ^ 8
byte_at [] i h = omega arith
byte_at (x ∷ xs) zero h = h.0
byte_at (x ∷ xs) (suc i) h = byte_at xs i h.1

pub bytes_take : (n : ℕ) (xs : List ℕ) → AreBytes xs → AreBytes (take n xs)
bytes_take zero xs h = tt
bytes_take (suc n) [] h = tt
bytes_take (suc n) (x ∷ xs) h = (h.0, bytes_take n xs h.1)

pub bytes_drop : (n : ℕ) (xs : List ℕ) → AreBytes xs → AreBytes (drop n xs)
bytes_drop zero xs h = h
bytes_drop (suc n) [] h = tt
bytes_drop (suc n) (x ∷ xs) h = bytes_drop n xs h.1
