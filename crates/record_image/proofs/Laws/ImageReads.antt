-- The frame's words of an image, read one by one.
-- By the first of the words that are left.
use Rattle.std.specs.Prelude.{◌≡◌, List, ℕ, suc, ◌+◌, ◌*◌, ◌-◌, ◌≤◌, ◌<◌, set}
use Rattle.std.proofs.Common.{arith, add-one}
use Rattle.std.proofs.lemmas.List.Edits.{sets}
use Rattle.words.specs.WordsInBytes.{words_from, words_at}
use Rattle.words.proofs.Laws.WordReads.{words_next}
use Rattle.record_image.specs.Decode.{image_word}

-- one word of the rest is read and stored
pub sets_read : (bytes l : List ℕ) (k n i : ℕ) → i < n
    → sets l i (words_at bytes (4 * (k + i)) (n - i)) ≡ sets (set l i (image_word bytes (k + i))) (i + 1) (words_at bytes (4 * (k + (i + 1))) (n - (i + 1)))
sets_read bytes l k n i h =
    let e : n - i ≡ suc (n - (i + 1)) = omega arith in
    let f : 4 * (k + (i + 1)) ≡ 4 * (k + i) + 4 = omega arith in
    rw (e, f, add-one, words_next bytes (4 * (k + i)) (n - suc i))

-- after the last word there is nothing to read
pub read_done : (bytes l : List ℕ) (at n i : ℕ) → n ≤ i → sets l i (words_at bytes at (n - i)) ≡ l
unfolding words_from
read_done bytes l at n i h = let e : n - i ≡ 0 = omega arith in rw e
