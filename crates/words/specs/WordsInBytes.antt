-- Words of 32 bits in bytes: the word of four bytes, the bytes of words, words read, written and compared from an offset on.
-- Sources: 01, "The eight parts": "each word high byte first"; "Words and packets": "bytes are taken in fours, high byte first".
use Rattle.std.specs.Prelude.{ℕ, zero, suc, ◌+◌, ◌*◌, ◌/◌, ◌%◌, ◌^◌, List, [], ◌∷◌, Bool, true, false, ◌&&◌, eqb, get_or, drop}
use Rattle.std.proofs.lemmas.List.Edits.{sets}

-- the word of four bytes: "in fours, high byte first"
abbrev pub word_of : ℕ → ℕ → ℕ → ℕ → ℕ
word_of a b c d = a * 2 ^ 24 + b * 2 ^ 16 + c * 2 ^ 8 + d

-- the bytes of words: "each word high byte first"
unfoldable pub bytes_of : List ℕ → List ℕ
bytes_of [] = []
bytes_of (w ∷ ws) = w / 2 ^ 24 % 2 ^ 8 ∷ w / 2 ^ 16 % 2 ^ 8 ∷ w / 2 ^ 8 % 2 ^ 8 ∷ w % 2 ^ 8 ∷ bytes_of ws

-- the word at an offset; bytes past the end are 0
unfoldable pub word_at : List ℕ → ℕ → ℕ
word_at bytes at = word_of (get_or bytes at 0) (get_or bytes (at + 1) 0) (get_or bytes (at + 2) 0) (get_or bytes (at + 3) 0)

-- the first n words
unfoldable pub words_from : ℕ → List ℕ → List ℕ
words_from zero bytes = []
words_from (suc n) bytes = word_at bytes 0 ∷ words_from n (drop 4 bytes)

-- n words from an offset on
abbrev pub words_at : List ℕ → ℕ → ℕ → List ℕ
words_at bytes at n = words_from n (drop at bytes)

-- the bytes with words written from an offset on; what would stand past the end is left out
abbrev pub put_words : List ℕ → ℕ → List ℕ → List ℕ
put_words bytes at ws = sets bytes at (bytes_of ws)

-- the second list starts with the first
unfoldable pub starts : List ℕ → List ℕ → Bool
starts [] ys = true
starts (x ∷ xs) [] = false
starts (x ∷ xs) (y ∷ ys) = eqb y x && starts xs ys

-- the bytes from an offset on start with those of words
abbrev pub has_words : List ℕ → ℕ → List ℕ → Bool
has_words bytes at ws = starts (bytes_of ws) (drop at bytes)
