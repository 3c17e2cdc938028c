-- Words read one after the other: the next of them and its four bytes, and words of a part of the bytes.
-- By the definitions' own steps, and by induction over the words.
use Rattle.std.specs.Prelude.{◌≡◌, refl, List, [], ◌∷◌, ◌++◌, ℕ, zero, suc, ◌+◌, ◌-◌, ◌*◌, ◌≤◌, length, get_or, take, drop}
use Rattle.std.proofs.Common.{◌∙◌, sym, ap, add-zero, zero-add, suc-add, arith, get_or-take, get_or-drop, drop-drop, drop-cons}
use Rattle.std.proofs.Math.Numerals.{towards_suc}
use Rattle.std.proofs.Math.ListN.{get_or-eq_default}
use Rattle.std.proofs.Math.Seq.{take-nil}
use Rattle.words.specs.WordsInBytes.{word_at, words_from, words_at}

pub word_drop : (bytes : List ℕ) (at : ℕ) → word_at (drop at bytes) 0 ≡ word_at bytes at
unfolding word_at
word_drop bytes at = rw (get_or-drop at bytes 0 0, get_or-drop at bytes 1 0, get_or-drop at bytes 2 0, get_or-drop at bytes 3 0, add-zero)

pub words_next : (bytes : List ℕ) (at n : ℕ) → words_at bytes at (suc n) ≡ word_at bytes at ∷ words_at bytes (at + 4) n
unfolding words_from
words_next bytes at n = rw (word_drop bytes at, drop-drop 4 at bytes)

pub four_bytes : (bytes : List ℕ) (at : ℕ) → at + 4 ≤ length bytes
    → drop at bytes ≡ get_or bytes at 0 ∷ get_or bytes (at + 1) 0 ∷ get_or bytes (at + 2) 0 ∷ get_or bytes (at + 3) 0 ∷ drop (at + 4) bytes
four_bytes bytes at h =
    simp towards_suc
    (rw (drop-cons bytes at 0 (omega arith), drop-cons bytes (suc at) 0 (omega arith), drop-cons bytes (suc (suc at)) 0 (omega arith), drop-cons bytes (suc (suc (suc at))) 0 (omega arith)))

-- past the end there is nothing but 0
pub word_past : (bytes : List ℕ) (at : ℕ) → length bytes ≤ at → word_at bytes at ≡ 0
unfolding word_at
word_past bytes at h =
    let h1 : length bytes ≤ at + 1 = omega arith in
    let h2 : length bytes ≤ at + 2 = omega arith in
    let h3 : length bytes ≤ at + 3 = omega arith in
    rw (get_or-eq_default bytes 0 h, get_or-eq_default bytes 0 h1, get_or-eq_default bytes 0 h2, get_or-eq_default bytes 0 h3)

-- ---- words of parts

drop_take : (n m : ℕ) (xs : List ℕ) → drop n (take (n + m) xs) ≡ take m (drop n xs)
drop_take zero m xs = rw (zero-add m)
drop_take (suc n) m [] = rw (suc-add n m) (sym (take-nil m))
drop_take (suc n) m (x ∷ xs) = rw (suc-add n m) (drop_take n m xs)

-- words look at their own bytes only
words_within : (k n : ℕ) (xs : List ℕ) → 4 * k ≤ n → words_from k (take n xs) ≡ words_from k xs
unfolding words_from word_at
words_within zero n xs h = refl
words_within (suc k) n xs h =
    let e : n ≡ 4 + (n - 4) = omega arith in
    let rest : drop 4 (take n xs) ≡ take (n - 4) (drop 4 xs) = ap (λ (j : ℕ). drop 4 (take j xs)) e ∙ drop_take 4 (n - 4) xs in
    rw (
      rest,
      get_or-take n xs 0 0 (omega arith),
      get_or-take n xs 1 0 (omega arith),
      get_or-take n xs 2 0 (omega arith),
      get_or-take n xs 3 0 (omega arith),
      words_within k (n - 4) (drop 4 xs) (omega arith),
    )

pub words_take : (l : ℕ) (xs : List ℕ) → words_from l (take (4 * l) xs) ≡ words_from l xs
words_take l xs = words_within l (4 * l) xs (omega arith)

pub words_add : (l k : ℕ) (xs : List ℕ) → words_from (l + k) xs ≡ words_from l xs ++ words_from k (drop (4 * l) xs)
unfolding words_from
words_add zero k xs = rw (zero-add k)
words_add (suc l) k xs =
    let e : 4 * suc l ≡ 4 + 4 * l = omega arith in
    rw (suc-add l k, words_add l k (drop 4 xs), drop-drop (4 * l) 4 xs, e)
