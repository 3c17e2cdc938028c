-- Words compared one after the other from an offset on: a list that starts with another, the next word, and that four bytes are a word's where the word read is that word.
-- By induction on the bytes; a word is equal where its four bytes are.
use Rattle.std.specs.Prelude.{◌≡◌, refl, List, [], ◌∷◌, ◌++◌, Bool, true, false, ◌&&◌, ℕ, zero, suc, ◌+◌, ◌*◌, ◌^◌, ◌≤◌, ◌<◌, eqb, length, get_or, drop}
use Rattle.std.specs.List.{list_all, enumerate_from}
use Rattle.std.proofs.Common.{◌∙◌, sym, ap, ap₂, add-one, add-zero, arith, drop_of_length-le, length-drop, drop-cons, drop-drop, eq-eqb, ne_eqb, eqb-true}
use Rattle.std.proofs.lemmas.Bool.{false≢true}
use Rattle.std.proofs.Math.Bool.{and_assoc, and-false, and-eq-true_iff}
use Rattle.words.specs.WordsInBytes.{bytes_of, word_at, starts, has_words}
use Rattle.words.specs.Laws.ByteLists.{AreBytes, all_bytes, byte_at}
use Rattle.words.proofs.Laws.WordBytes.{bytes_length, bytes_append, word_bytes, four_back}
use Rattle.words.proofs.Laws.WordReads.{word_drop, four_bytes}

-- ---- lists that start with lists

starts_append : (xs ys zs : List ℕ) → starts (xs ++ ys) zs ≡ starts xs zs && starts ys (drop (length xs) zs)
unfolding starts
starts_append [] ys zs = refl
starts_append (x ∷ xs) ys [] = refl
starts_append (x ∷ xs) ys (z ∷ zs) = ap (λ b. eqb z x && b) (starts_append xs ys zs) ∙ sym (and_assoc (eqb z x) _ _)

-- none starts with a longer one
starts_short : (xs ys : List ℕ) → length ys < length xs → starts xs ys ≡ false
unfolding starts
starts_short [] ys h = absurd (omega arith)
starts_short (x ∷ xs) [] h = refl
starts_short (x ∷ xs) (y ∷ ys) h = rw (starts_short xs ys (omega arith)) (and-false (eqb y x))

pub starts_self : (xs ys : List ℕ) → starts xs (xs ++ ys) ≡ true
unfolding starts
starts_self [] ys = refl
starts_self (x ∷ xs) ys = rw (eq-eqb x x refl) (starts_self xs ys)

pub starts_true : (xs ys : List ℕ) → starts xs ys ≡ true → ys ≡ xs ++ drop (length xs) ys
unfolding starts
starts_true [] ys h = refl
starts_true (x ∷ xs) [] h = absurd (false≢true h)
starts_true (x ∷ xs) (y ∷ ys) h =
    let both = (and-eq-true_iff (eqb y x) (starts xs ys)).0 h in
    rw (eqb-true y x both.0) (ap (λ (zs : List ℕ). x ∷ zs) (starts_true xs ys both.1))

-- ---- words

pub has_append : (bytes : List ℕ) (at : ℕ) (xs ys : List ℕ) → has_words bytes at (xs ++ ys) ≡ has_words bytes at xs && has_words bytes (at + 4 * length xs) ys
has_append bytes at xs ys = rw (bytes_append xs ys, ← bytes_length xs, ← drop-drop (length (bytes_of xs)) at bytes) (starts_append (bytes_of xs) (bytes_of ys) (drop at bytes))

-- the first of the words that are left
pub has_next : (bytes : List ℕ) (at : ℕ) (words : List ℕ) (i : ℕ) → i < length words
    → has_words bytes (at + 4 * i) (drop i words)
    ≡ has_words bytes (at + 4 * i) (get_or words i 0 ∷ []) && has_words bytes (at + 4 * (i + 1)) (drop (i + 1) words)
has_next bytes at words i h =
    let e : at + 4 * (i + 1) ≡ at + 4 * i + 4 = omega arith in
    rw (e, add-one, drop-cons words i 0) (has_append bytes (at + 4 * i) (get_or words i 0 ∷ []) (drop (suc i) words))

-- no word is left
pub has_done : (bytes : List ℕ) (at : ℕ) (words : List ℕ) (i : ℕ) → length words ≤ i → has_words bytes at (drop i words) ≡ true
unfolding starts bytes_of
has_done bytes at words i h = rw (drop_of_length-le words h)

-- past the end there are none
pub has_past : (bytes : List ℕ) (at : ℕ) (words : List ℕ) → length bytes ≤ at → has_words bytes at words ≡ eqb (length words) 0
unfolding starts bytes_of
has_past bytes at [] h = refl
has_past bytes at (w ∷ ws) h = rw (drop_of_length-le bytes h) (sym (ne_eqb (suc (length ws)) 0 (λ e. omega arith)))

-- nor are there more than have room
pub has_short : (bytes : List ℕ) (at : ℕ) (words : List ℕ) → at ≤ length bytes → length bytes < at + 4 * length words → has_words bytes at words ≡ false
has_short bytes at words h g = starts_short (bytes_of words) (drop at bytes) (omega (arith, length-drop at bytes, bytes_length words))

-- a word is there where it is read
pub has_word : (bytes : List ℕ) (at w : ℕ) → AreBytes bytes → at + 4 ≤ length bytes → word_at bytes at ≡ w → has_words bytes at (w ∷ []) ≡ true
unfolding bytes_of word_at
has_word bytes at w small h e =
    let back = four_back _ _ _ _ (byte_at bytes at small) (byte_at bytes (at + 1) small) (byte_at bytes (at + 2) small) (byte_at bytes (at + 3) small) in
    rw (← e, back.0, back.1, back.2, back.3, four_bytes bytes at h)
    (starts_self (get_or bytes at 0 ∷ get_or bytes (at + 1) 0 ∷ get_or bytes (at + 2) 0 ∷ get_or bytes (at + 3) 0 ∷ []) (drop (at + 4) bytes))

word_had : (bytes : List ℕ) (at w : ℕ) → w < 2 ^ 32 → has_words bytes at (w ∷ []) ≡ true → word_at bytes at ≡ w
unfolding bytes_of word_at
word_had bytes at w small h =
    sym (word_drop bytes at) ∙ ap (λ (xs : List ℕ). word_at xs 0) (starts_true (bytes_of (w ∷ [])) (drop at bytes) h) ∙ word_bytes w small

never : (t : Bool) → (t ≡ true → ⊥) → t ≡ false
never true h = absurd (h refl)
never false h = refl

-- and it is not there where another is read
pub has_other : (bytes : List ℕ) (at w : ℕ) → w < 2 ^ 32 → (word_at bytes at ≡ w → ⊥) → has_words bytes at (w ∷ []) ≡ false
has_other bytes at w small h = never _ (λ e. h (word_had bytes at w small e))

-- a word is there where the word that is read is that word
has_one : (bytes : List ℕ) (at w : ℕ) → AreBytes bytes → at + 4 ≤ length bytes → w < 2 ^ 32 → (t : Bool) → eqb (word_at bytes at) w ≡ t → has_words bytes at (w ∷ []) ≡ t
has_one bytes at w small h fits true e = has_word bytes at w small h (eqb-true (word_at bytes at) w e)
has_one bytes at w small h fits false e = has_other bytes at w fits (λ q. false≢true (sym e ∙ eq-eqb (word_at bytes at) w q))

-- a word with its number is read where words from an offset on are
abbrev pub is_read : List ℕ → ℕ → ℕ × ℕ → Bool
is_read bytes at p = eqb (word_at bytes (at + 4 * p.0)) p.1

-- words that have room are there where all of them are read
module _ (bytes : List ℕ) (at : ℕ) (words : List ℕ) (small : (i : ℕ) → get_or bytes i 0 < 2 ^ 8) (fits : (i : ℕ) → get_or words i 0 < 2 ^ 32) (h : at + 4 * length words ≤ length bytes) where
  -- n of them are left, from word i on
  left : (n i : ℕ) → i + n ≡ length words → list_all (is_read bytes at) (enumerate_from i (drop i words)) ≡ has_words bytes (at + 4 * i) (drop i words)
  left zero i e = rw (has_done bytes (at + 4 * i) words i (omega arith), drop_of_length-le words {i = i} (omega arith))
  left (suc n) i e =
      let w = get_or words i 0 in
      let first = has_one bytes (at + 4 * i) w (all_bytes bytes small) (omega arith) (fits i) (eqb (word_at bytes (at + 4 * i)) w) refl in
      let next = ap (λ (k : ℕ). list_all (is_read bytes at) (enumerate_from (i + 1) (drop k words))) (sym (add-one i)) in
      ap (λ ws. list_all (is_read bytes at) (enumerate_from i ws)) (drop-cons words i 0 (omega arith))
      ∙ ap₂ (λ s t. s && t) (sym first) (next ∙ left n (i + 1) (omega arith)) ∙ sym (has_next bytes at words i (omega arith))

  pub has_read : list_all (is_read bytes at) (enumerate_from 0 words) ≡ has_words bytes at words
  has_read = simp add-zero at (left (length words) 0 (omega arith))
