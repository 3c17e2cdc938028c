-- The words of frame data, and the next of them.
-- By the words of a part, and the words before and after it.
use Rattle.std.specs.Prelude.{◌≡◌, refl, List, [], ◌∷◌, ◌++◌, ℕ, zero, suc, ◌+◌, ◌-◌, ◌*◌, ◌/◌, ◌≤◌, ◌<◌, length, get_or, take, drop, replicate, slice_index}
use Rattle.std.specs.Simd.{first_chunks}
use Rattle.std.proofs.Common.{add-zero, arith, drop-drop, get_or-drop, get_or-take, length-drop, length-take-le, sym, ◌∙◌}
use Rattle.std.proofs.lemmas.List.{replicate-append-replicate}
use Rattle.words.specs.WordsInBytes.{word_at, words_from}
use Rattle.words.proofs.Laws.WordReads.{word_drop, words_take, words_add}
use Rattle.crc16.specs.CrcRegister.{feed, fed_words}
use Rattle.crc16.specs.Laws.FedWords.{fed_append}

-- the words of whole frames' bytes
abbrev pub data_words : List ℕ → List ℕ
data_words xs = words_from (length xs / 4) xs

-- bytes of n words, from an offset on
module _ (n size from : ℕ) (b : List ℕ) (four : size ≡ 4 * n) (fits : from + size ≤ length b) where
  same_size : from + size - from ≡ 4 * n
  same_size = omega arith

  pub data_size : length (take (from + size - from) (drop from b)) / 4 ≡ n
  data_size =
      let count : 4 * n / 4 ≡ n = omega arith in
      rw (same_size, length-take-le (4 * n) (drop from b) (omega (arith, length-drop from b)), count)

  pub data_part : data_words (take (from + size - from) (drop from b)) ≡ words_from n (drop from b)
  data_part = rw (data_size, same_size) (words_take n (drop from b))

-- one more word
pub words_last : (i : ℕ) (xs : List ℕ) → words_from i xs ++ (word_at xs (4 * i) ∷ []) ≡ words_from (i + 1) xs
unfolding words_from
words_last i xs = rw (← word_drop xs (4 * i)) (sym (words_add i 1 xs))

pub zeros_last : (i : ℕ) → replicate i 0 ++ (0 ∷ []) ≡ replicate {A = ℕ} (i + 1) 0
zeros_last i = replicate-append-replicate i 1 0

-- fed after others
pub fed_last : (crc a : ℕ) (ws : List ℕ) (w : ℕ) → feed (fed_words crc a ws) a w ≡ fed_words crc a (ws ++ (w ∷ []))
unfolding fed_words
fed_last crc a ws w = fed_append crc a ws (w ∷ [])

-- ---- words as arrays of four bytes

chunk_at : (n i : ℕ) (xs : List ℕ) → i < n → get_or (first_chunks 4 n xs) i [] ≡ take 4 (drop (4 * i) xs)
chunk_at zero i xs h = absurd (omega arith)
chunk_at (suc n) zero xs h = refl
chunk_at (suc n) (suc i) xs h =
    let e : 4 * suc i ≡ 4 + 4 * i = omega arith in
    chunk_at n i (drop 4 xs) (omega arith) ∙ rw (drop-drop (4 * i) 4 xs, e)

-- the word of array i is word i
pub chunk_word : (n i : ℕ) (xs chunk : List ℕ) → i < n → chunk ≡ get_or (first_chunks 4 n xs) i []
    → slice_index chunk 0 * 16777216 + slice_index chunk 1 * 65536 + slice_index chunk 2 * 256 + slice_index chunk 3 ≡ word_at xs (4 * i)
unfolding word_at
chunk_word n i xs chunk h e =
    rw (
      e,
      chunk_at n i xs h,
      get_or-take 4 (drop (4 * i) xs) 0 0 (omega arith),
      get_or-take 4 (drop (4 * i) xs) 1 0 (omega arith),
      get_or-take 4 (drop (4 * i) xs) 2 0 (omega arith),
      get_or-take 4 (drop (4 * i) xs) 3 0 (omega arith),
      get_or-drop (4 * i) xs 0 0,
      get_or-drop (4 * i) xs 1 0,
      get_or-drop (4 * i) xs 2 0,
      get_or-drop (4 * i) xs 3 0,
      add-zero,
    )
