-- The shortest form of a number: reading it gives the number, and each form that is accepted is the shortest.
-- By induction over the groups; a group is a remainder by 128, and the others are the quotient.
use Rattle.std.specs.Prelude.{◌≡◌, Bool, cond, not, ◌&&◌, eqb, length, drop, Ok, Err}
use Rattle.std.proofs.Common.{◌∙◌, sym, ap, ap₂, arith, length-drop, drop-drop, lt-ltb, le-ltb, eq-eqb, ne_eqb, ltb-true, ltb-false}
use Rattle.std.proofs.Math.Path.{refl}
use mathlib.Core.List.{List, [], ◌∷◌, ◌++◌}
use Rattle.std.proofs.Math.Bool.{true, false, and-false, true≢false}
use Prim.Native.Nat.{ℕ, zero, suc, ◌+◌, ◌-◌, ◌*◌, ◌^◌, ◌/◌, ◌%◌, ◌≤◌, ◌<◌}
use Rattle.std.proofs.Math.Nat.{one-le-pow}
use Rattle.std.proofs.Math.Dec.{ltb}
use Rattle.std.proofs.lemmas.Bool.{not-false}
use Rattle.words.specs.Laws.ByteLists.{AreBytes, bytes_drop}
use Rattle.answers.specs.declared.Refusal.{Refusal}
use Rattle.numbers.specs.Number.{NumberRead, read, last_group, low_group, groups, number_at}
use Rattle.numbers.specs.declared.Number.{Number}

-- 01: "groups of seven bits, low group first, top bit set on all but the last byte, shortest form only"; k bytes at most after the first
unfoldable pub code_from : ℕ → ℕ → List ℕ
code_from zero n = n ∷ []
code_from (suc k) n = cond (ltb n 128) (n ∷ []) ((128 + n % 128) ∷ code_from k (n / 128))

abbrev pub code : ℕ → List ℕ
code n = code_from 4 n

-- ---- what was read

refused_no_value : {c : Refusal} {n : Number} → Err c ≡ Ok n → ⊥
refused_no_value e = let z : ◌≡◌ {A = ℕ} 0 1 = cc in omega arith

one_number : {n m : Number} → ◌≡◌ {A = NumberRead} (Ok n) (Ok m) → n ≡ m
one_number e = cc

last_read : (first : Bool) (x i n next : ℕ) → last_group first x i ≡ Ok (read n next) → (n ≡ x) × (next ≡ i) × (x ≡ 0 → first ≡ true)
unfolding last_group
last_read first x i n next = go (eqb x 0 && not first) refl
  where
    go : (t : Bool) → (eqb x 0 && not first) ≡ t → last_group first x i ≡ Ok (read n next) → (n ≡ x) × (next ≡ i) × (x ≡ 0 → first ≡ true)
    go true h e = absurd (refused_no_value (rw h at e))
    go false h e =
        let v : Ok (read n next) ≡ Ok (read x i) = sym (rw h at e) in
        (ap (λ m. m.value) (one_number v), ap (λ m. m.next) (one_number v), λ z. not-false first (rw (eq-eqb x 0 z) at h))

low_read : (x : ℕ) (r : NumberRead) (n next : ℕ) → low_group x r ≡ Ok (read n next) → (v : ℕ) × (r ≡ Ok (read v next)) × (n ≡ x + 128 * v)
unfolding low_group
low_read x (Ok r) n next e = (r.value, ap (λ m. Ok (read r.value m.next)) (one_number e), sym (ap (λ m. m.value) (one_number e)))
low_read x (Err c) n next e = absurd (refused_no_value e)

-- what holds of a last byte, and of a byte and the number after it, holds of every number that is read
module _ (P : ℕ → Bool → ℕ → List ℕ → ℕ → ℕ → Type 0)
    (fifth : (first : Bool) (i x : ℕ) (xs : List ℕ) → x ≤ 15 → P 0 first i (x ∷ xs) x (i + 1))
    (last : (k : ℕ) (first : Bool) (i x : ℕ) (xs : List ℕ) → x < 128 → P (suc k) first i (x ∷ xs) x (i + 1))
    (more : (k : ℕ) (first : Bool) (i x : ℕ) (xs : List ℕ) (v next : ℕ) → 128 ≤ x → (v ≡ 0 → ⊥) → P k false (i + 1) xs v next
    → P (suc k) first i (x ∷ xs) (x - 128 + 128 * v) next) where
  abbrev Holds : ℕ → Bool → ℕ → List ℕ → ℕ → ℕ → Type 0
  Holds k first i xs n next = groups k first i xs ≡ Ok (read n next) → (n ≡ 0 → first ≡ true) × P k first i xs n next

  read_fifth : (first : Bool) (i x : ℕ) (xs : List ℕ) (n next : ℕ) → Holds 0 first i (x ∷ xs) n next
  unfolding groups
  read_fifth first i x xs n next = go (ltb 15 x) refl
    where
      go : (t : Bool) → ltb 15 x ≡ t → Holds 0 first i (x ∷ xs) n next
      go true h e = absurd (refused_no_value (rw h at e))
      go false h e =
          let r = last_read first x (i + 1) n next (rw h at e) in
          rw (r.0, r.1) (r.2, fifth first i x xs (ltb-false 15 x h))

  read_next_lem : (k : ℕ) (first : Bool) (i x : ℕ) (xs : List ℕ) → ((v next : ℕ) → Holds k false (i + 1) xs v next)
      → (n next : ℕ) → Holds (suc k) first i (x ∷ xs) n next
  unfolding groups
  read_next_lem k first i x xs ih n next = go (ltb x 128) refl
    where
      go : (t : Bool) → ltb x 128 ≡ t → Holds (suc k) first i (x ∷ xs) n next
      go true h e =
          let r = last_read first x (i + 1) n next (rw h at e) in
          rw (r.0, r.1) (r.2, last k first i x xs (ltb-true x 128 h))
      go false h e =
          let r = low_read (x - 128) (groups k false (i + 1) xs) n next (rw h at e) in
          let later = ih r.0 next r.1 in
          let nonzero : r.0 ≡ 0 → ⊥ = λ z. true≢false (sym (later.0 z)) in
          rw r.2 (λ z. absurd (nonzero (omega arith)), more k first i x xs r.0 next (ltb-false x 128 h) nonzero later.1)

  groups_induction : (k : ℕ) (first : Bool) (i : ℕ) (xs : List ℕ) (n next : ℕ) → Holds k first i xs n next
  unfolding groups
  groups_induction k first i [] n next e = absurd (refused_no_value e)
  groups_induction zero first i (x ∷ xs) n next e = read_fifth first i x xs n next e
  groups_induction (suc k) first i (x ∷ xs) n next e = read_next_lem k first i x xs (groups_induction k false (i + 1) xs) n next e

-- ---- the shortest form

last_value : (first : Bool) (x next : ℕ) → (x ≡ 0 → first ≡ true) → last_group first x next ≡ Ok (read x next)
unfolding last_group
last_value true x next h = simp and-false
last_value false x next h = simp (ne_eqb x 0 (λ z. true≢false (sym (h z))))

read_from : (k : ℕ) (first : Bool) (n at : ℕ) (rest : List ℕ) → n < 16 * 128 ^ k → (n ≡ 0 → first ≡ true)
    → groups k first at (code_from k n ++ rest) ≡ Ok (read n (at + length (code_from k n)))
unfolding groups low_group code_from
read_from zero first n at rest h z = rw (le-ltb 15 n (omega arith)) (last_value first n (at + 1) z)
read_from (suc k) first n at rest h z = go (ltb n 128) refl (λ l. read_from k false (n / 128) (at + 1) rest (omega arith) (λ e. absurd (omega arith)))
  where
    go : (t : Bool) → ltb n 128 ≡ t
        → (128 ≤ n → groups k false (at + 1) (code_from k (n / 128) ++ rest) ≡ Ok (read (n / 128) (at + 1 + length (code_from k (n / 128)))))
        → groups (suc k) first at (code_from (suc k) n ++ rest) ≡ Ok (read n (at + length (code_from (suc k) n)))
    go true t later = rw t (rw t (last_value first n (at + 1) z))
    go false t later =
        rw (t, le-ltb (128 + n % 128) 128 (omega arith), later (ltb-false n 128 t)) (ap₂ (λ v next. Ok (read v next)) (omega arith) (omega arith))

-- reading what the shortest form writes gives the number
pub read_code : (n at : ℕ) (rest : List ℕ) → n < 2 ^ 32 → groups 4 true at (code n ++ rest) ≡ Ok (read n (at + length (code n)))
read_code n at rest h = read_from 4 true n at rest h (λ z. refl)

-- what is read lies in the bytes and ends after its start
pub record Spans (b : List ℕ) (at next : ℕ) : Type 0 where
  pub after : at < next
  pub within : next ≤ length b

pub number_spans : (b : List ℕ) (at n next : ℕ) → number_at b at ≡ Ok (read n next) → Spans b at next
number_spans b at n next e =
    spans (groups_induction (λ k first i xs n next. (i < next) × (next ≤ i + length xs))
    (λ first i x xs h. omega arith)
    (λ k first i x xs h. omega arith)
    (λ k first i x xs v next h z later. omega arith)
    4 true at (drop at b) n next e).1
  where
    spans : (at < next) × (next ≤ at + length (drop at b)) → Spans b at next
    spans s = record { after = s.0; within = omega (arith, length-drop at b) }

-- and is under 2 ^ 32
pub number_small : (b : List ℕ) (at n next : ℕ) → AreBytes b → number_at b at ≡ Ok (read n next) → n < 2 ^ 32
number_small b at n next o e =
    (groups_induction (λ k first i xs n next. AreBytes xs → n < 16 * 128 ^ k)
    (λ first i x xs h o. omega arith)
    (λ k first i x xs h o. omega (arith, one-le-pow k 128 (omega arith)))
    (λ k first i x xs v next h z later o. omega (arith, later o.1))
    4 true at (drop at b) n next e).1 (bytes_drop at b o)

-- a number under 128 has one byte
pub number_short : (b : List ℕ) (at n next : ℕ) → number_at b at ≡ Ok (read n next) → n < 128 → next ≡ at + 1
number_short b at n next e h =
    (groups_induction (λ k first i xs n next. n < 128 → next ≡ i + 1)
    (λ first i x xs h s. refl)
    (λ k first i x xs h s. refl)
    (λ k first i x xs v next h z later s. absurd (z (omega arith)))
    4 true at (drop at b) n next e).1 h

-- the code of a number that has a group before the others
code_more : (k x v : ℕ) → 128 ≤ x → x < 256 → (v ≡ 0 → ⊥) → code_from (suc k) (x - 128 + 128 * v) ≡ x ∷ code_from k v
unfolding code_from
code_more k x v h o z =
    let low : 128 + (x - 128 + 128 * v) % 128 ≡ x = omega arith in
    let high : (x - 128 + 128 * v) / 128 ≡ v = omega arith in
    rw (le-ltb (x - 128 + 128 * v) 128 (omega arith), low, high)

-- each accepted form is the only one: the bytes read are the shortest form of the number
pub code_read : (b : List ℕ) (at n next : ℕ) → AreBytes b → number_at b at ≡ Ok (read n next) → drop at b ≡ code n ++ drop next b
unfolding code_from
code_read b at n next o e =
    (groups_induction (λ k first i xs n next. AreBytes xs → xs ≡ drop i b → xs ≡ code_from k n ++ drop next b)
    (λ first i x xs h o d. ap (λ t. x ∷ t) (rest i x xs d))
    (λ k first i x xs h o d. rw (lt-ltb x 128 h) (ap (λ t. x ∷ t) (rest i x xs d)))
    (λ k first i x xs v next h z later o d. rw (code_more k x v h o.0 z) (ap (λ t. x ∷ t) (later o.1 (rest i x xs d))))
    4 true at (drop at b) n next e).1 (bytes_drop at b o) refl
  where
    rest : (i x : ℕ) (xs : List ℕ) → x ∷ xs ≡ drop i b → xs ≡ drop (i + 1) b
    rest i x xs d = ap (drop 1) d ∙ drop-drop 1 i b
