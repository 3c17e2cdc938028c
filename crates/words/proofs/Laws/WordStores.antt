-- Words stored one after the other from an offset on: they join, the next of them, and that bytes past the end are left out.
-- By induction on the bytes that are stored.
use Rattle.std.specs.Prelude.{◌≡◌, refl, List, [], ◌∷◌, ◌++◌, ℕ, suc, ◌+◌, ◌*◌, ◌/◌, ◌%◌, ◌^◌, ◌≤◌, ◌<◌, length, get_or, take, drop, set}
use Rattle.std.proofs.Common.{◌∙◌, sym, ap, append-nil, append_assoc, add-one, arith, drop_of_length-le, take-append-drop, length-take-le, drop-cons, drop-drop}
use Rattle.std.proofs.lemmas.List.Edits.{sets, sets-eq}
use Rattle.std.proofs.Math.Seq.{length-sets, set_out}
use borrow.Rule.Slice.PartMut.{put_mid}
use Rattle.words.specs.WordsInBytes.{bytes_of, put_words}
use Rattle.words.proofs.Laws.WordBytes.{bytes_length, bytes_append}

-- ---- runs of stores

sets_append : (l : List ℕ) (i : ℕ) (xs ys : List ℕ) → sets l i (xs ++ ys) ≡ sets (sets l i xs) (i + length xs) ys
sets_append l i [] ys = let e : i + 0 ≡ i = omega arith in rw e
sets_append l i (x ∷ xs) ys = let e : i + suc (length xs) ≡ suc i + length xs = omega arith in sets_append (set l i x) (suc i) xs ys ∙ rw e

-- as many stores from the start as the list is long leave nothing of it
pub sets_all : (l xs : List ℕ) → length xs ≡ length l → sets l 0 xs ≡ xs
sets_all l xs e =
    let h : length l ≤ 0 + length xs = omega arith in
    sets-eq xs l 0 (omega arith) ∙ ap (λ r. xs ++ r) (drop_of_length-le l h) ∙ append-nil xs

-- past the end nothing is stored
pub sets_past : (l : List ℕ) (i : ℕ) (xs : List ℕ) → length l ≤ i → sets l i xs ≡ l
sets_past l i [] h = refl
sets_past l i (x ∷ xs) h = rw (set_out l i x h) (sets_past l (suc i) xs (omega arith))

-- ---- words

pub put_append : (bytes : List ℕ) (at : ℕ) (xs ys : List ℕ) → put_words (put_words bytes at xs) (at + 4 * length xs) ys ≡ put_words bytes at (xs ++ ys)
put_append bytes at xs ys =
    rw (bytes_append xs ys, sets_append bytes at (bytes_of xs) (bytes_of ys), bytes_length xs)

-- words written, and words written where they end
pub put_then : (bytes : List ℕ) (at : ℕ) (xs : List ℕ) {bytes' : List ℕ} {at' : ℕ} (ys : List ℕ) {bytes'' : List ℕ}
    → bytes' ≡ put_words bytes at xs → at' ≡ at + 4 * length xs → bytes'' ≡ put_words bytes' at' ys → bytes'' ≡ put_words bytes at (xs ++ ys)
put_then bytes at xs ys first place second = second ∙ rw (first, place) (put_append bytes at xs ys)

-- the first of the words that are left
pub put_next : (bytes : List ℕ) (at : ℕ) (words : List ℕ) (i : ℕ) → i < length words
    → put_words (put_words bytes (at + 4 * i) (get_or words i 0 ∷ [])) (at + 4 * (i + 1)) (drop (i + 1) words) ≡ put_words bytes (at + 4 * i) (drop i words)
put_next bytes at words i h =
    let e : at + 4 * (i + 1) ≡ at + 4 * i + 4 = omega arith in
    rw (e, add-one, drop-cons words i 0) (put_append bytes (at + 4 * i) (get_or words i 0 ∷ []) (drop (suc i) words))

-- no word is left
pub put_done : (bytes : List ℕ) (at : ℕ) (words : List ℕ) (i : ℕ) → length words ≤ i → put_words bytes at (drop i words) ≡ bytes
unfolding bytes_of
put_done bytes at words i h = rw (drop_of_length-le words h)

-- where word i is the last that has room, so much as a byte, the words after it are left out
pub put_short : (bytes : List ℕ) (at : ℕ) (words : List ℕ) (i : ℕ) → i < length words → length bytes ≤ at + 4 * i + 4
    → put_words (put_words bytes at (take i words)) (at + 4 * i) (get_or words i 0 ∷ []) ≡ put_words bytes at words
put_short bytes at words i h g =
    let first = put_words bytes at (take i words) in
    let size = length-take-le i words (omega arith) in
    let room = length-sets bytes at (bytes_of (take i words)) in
    let more = length-sets first (at + 4 * i) (bytes_of (get_or words i 0 ∷ [])) in
    sym (sets_past (put_words first (at + 4 * i) (get_or words i 0 ∷ [])) (at + 4 * i + 4) (bytes_of (drop (suc i) words)) (omega (arith, room, more)))
    ∙ put_append first (at + 4 * i) (get_or words i 0 ∷ []) (drop (suc i) words)
    ∙ ap (λ ws. put_words first (at + 4 * i) ws) (sym (drop-cons words i 0 h))
    ∙ ap (λ (k : ℕ). put_words first (at + 4 * k) (drop i words)) (sym size)
    ∙ put_append bytes at (take i words) (drop i words)
    ∙ ap (λ ws. put_words bytes at ws) (take-append-drop i words)

-- four stores are one word's
pub put_bytes : (bytes : List ℕ) (at w : ℕ)
    → set (set (set (set bytes at (w / 2 ^ 24 % 2 ^ 8)) (at + 1) (w / 2 ^ 16 % 2 ^ 8)) (at + 2) (w / 2 ^ 8 % 2 ^ 8)) (at + 3) (w % 2 ^ 8) ≡ put_words bytes at (w ∷ [])
unfolding bytes_of
put_bytes bytes at w =
    let e1 : at + 1 ≡ suc at = omega arith in
    let e2 : at + 2 ≡ suc (suc at) = omega arith in
    let e3 : at + 3 ≡ suc (suc (suc at)) = omega arith in
    rw (e1, e2, e3)

-- so is a copy of its four bytes
pub put_copied : (bytes new : List ℕ) (at k w : ℕ) → at + 4 ≤ length bytes → k ≡ 4 → new ≡ bytes_of (w ∷ []) → put_mid at k bytes new ≡ put_words bytes at (w ∷ [])
unfolding bytes_of
put_copied bytes new at k w h four e =
    rw (four, e, drop-drop 4 at bytes)
    (sym (sets-eq (bytes_of (w ∷ [])) bytes at h ∙ append_assoc (take at bytes) (bytes_of (w ∷ [])) (drop (at + 4) bytes)))
