-- A number read over groups that stand before it, for the loop that reads group by group.
-- By cases of what was read, and of how many groups may still follow.
use Rattle.std.specs.Prelude.{◌≡◌, refl, List, ◌∷◌, eqb, length, get_or, drop, Ok, Err}
use Rattle.std.proofs.Common.{◌∙◌, sym, ap, mul_assoc, add-one, drop_of_length-le, drop-cons, lt-ltb, le-ltb, ne_eqb, eq-eqb}
use Rattle.std.proofs.Math.Bool.{false}
use Prim.Native.Nat.{ℕ, zero, suc, ◌+◌, ◌-◌, ◌*◌, ◌^◌, ◌≤◌, ◌<◌}
use Rattle.std.proofs.Math.Nat.{mul-le-mul_left, one-le-pow, pow-succ'}
use native.Mathlib.Omega.{arith}
use Rattle.answers.specs.declared.Refusal.{Refusal}
use Rattle.numbers.specs.Number.{NumberRead, read, last_group, low_group, groups, number_at}

-- the groups before have the value low, and the next group has this weight
unfoldable pub scaled : ℕ → ℕ → NumberRead → NumberRead
scaled low weight (Ok n) = Ok (read (low + weight * n.value) n.next)
scaled low weight (Err c) = Err c

-- what was read up to offset i; left groups may follow the next one
pub record GroupsRead (b : List ℕ) (at i low weight : ℕ) : Type 0 where
  pub left : ℕ
  pub weighs : weight * 128 ^ left ≡ 128 ^ 4
  pub under : low < weight
  pub onward : at ≤ i
  pub is : scaled low weight (groups left (eqb i at) i (drop i b)) ≡ number_at b at

scaled_low : (low weight x : ℕ) (r : NumberRead) → scaled low weight (low_group x r) ≡ scaled (low + weight * x) (weight * 128) r
unfolding scaled low_group
scaled_low low weight x (Ok n) = ap (λ v. Ok (read v n.next)) (omega arith)
scaled_low low weight x (Err c) = refl

scaled_none : (r : NumberRead) → scaled 0 1 r ≡ r
unfolding scaled
scaled_none (Ok n) = ap (λ v. Ok (read v n.next)) (omega arith)
scaled_none (Err c) = refl

pub reading_start : (b : List ℕ) (at : ℕ) → GroupsRead b at at 0 1
reading_start b at =
    record {
      left = 4;
      weighs = refl;
      under = omega arith;
      onward = omega arith;
      is = rw (eq-eqb at at refl) (scaled_none _);
    }

-- one group fewer may follow a group of this weight
fewer : (weight k : ℕ) → weight * 128 ^ suc k ≡ 128 ^ 4 → weight * 128 * 128 ^ k ≡ 128 ^ 4
fewer weight k e = mul_assoc weight 128 (128 ^ k) ∙ ap (λ n. weight * n) (sym (pow-succ' 128 k)) ∙ e

weight_le : (weight k : ℕ) → weight * 128 ^ k ≡ 128 ^ 4 → weight ≤ 128 ^ 4
weight_le weight k e = omega (arith, mul-le-mul_left weight (one-le-pow k 128 (omega arith)))

-- the next byte
module _ {b : List ℕ} {at i low weight : ℕ} (r : GroupsRead b at i low weight) (h : i < length b) where
  abbrev x : ℕ
  x = get_or b i 0

  abbrev Next : ℕ → Type 0
  Next k = scaled low weight (groups k (eqb i at) i (x ∷ drop (i + 1) b)) ≡ number_at b at

  next : Next r.left
  next = rw (add-one i, ← drop-cons b i 0 h) r.is

  pub reading_high : weight ≡ 128 ^ 4 → 15 < x → Err Refusal.BadForm ≡ number_at b at
  unfolding groups scaled
  reading_high w high = go r.left r.weighs next
    where
      go : (k : ℕ) → weight * 128 ^ k ≡ 128 ^ 4 → Next k → Err Refusal.BadForm ≡ number_at b at
      go zero e is = rw (lt-ltb 15 x high) at is
      go (suc k) e is = absurd (omega (arith, weight_le (weight * 128) k (fewer weight k e)))

  pub reading_last : x < 128 → (weight ≡ 128 ^ 4 → x ≤ 15)
      → (low + weight * x < 2 ^ 32) × (scaled low weight (last_group (eqb i at) x (i + 1)) ≡ number_at b at)
  unfolding groups
  reading_last short fifth = go r.left r.weighs next
    where
      go : (k : ℕ) → weight * 128 ^ k ≡ 128 ^ 4 → Next k
          → (low + weight * x < 2 ^ 32) × (scaled low weight (last_group (eqb i at) x (i + 1)) ≡ number_at b at)
      go zero e is =
          let f = fifth (omega arith) in
          (omega (arith, mul-le-mul_left weight f, r.under), rw (le-ltb 15 x f) at is)
      go (suc k) e is = (
        omega (arith, mul-le-mul_left weight short, weight_le (weight * 128) k (fewer weight k e), r.under),
        rw (lt-ltb x 128 short) at is,
      )

  pub reading_more : x < 256 → 128 ≤ x → (weight ≡ 128 ^ 4 → x ≤ 15) → GroupsRead b at (i + 1) (low + weight * (x - 128)) (weight * 128)
  unfolding groups
  reading_more octet more fifth = go r.left r.weighs next
    where
      go : (k : ℕ) → weight * 128 ^ k ≡ 128 ^ 4 → Next k → GroupsRead b at (i + 1) (low + weight * (x - 128)) (weight * 128)
      go zero e is = absurd (omega (arith, fifth (omega arith)))
      go (suc k) e is =
          let small : x - 128 ≤ 127 = omega arith in
          record {
            left = k;
            weighs = fewer weight k e;
            under = omega (arith, mul-le-mul_left weight small, r.under);
            onward = omega (arith, r.onward);
            is =
                rw (ne_eqb (i + 1) at (omega (arith, r.onward)), ← scaled_low low weight (x - 128) (groups k false (i + 1) (drop (i + 1) b)))
                (rw (le-ltb x 128 more) at is);
          }

pub reading_weight : {b : List ℕ} {at i low weight : ℕ} → GroupsRead b at i low weight → weight ≤ 128 ^ 4
reading_weight {weight = w} r = weight_le w r.left r.weighs

pub reading_end : {b : List ℕ} {at i low weight : ℕ} → GroupsRead b at i low weight → length b ≤ i → Err Refusal.Missing ≡ number_at b at
unfolding groups scaled
reading_end {b} r h = rw (drop_of_length-le b h) at r.is

-- a fifth byte above 15, told of the groups from it on, so that a search finds it from what the loop keeps
pub fifth_high : (b : List ℕ) (at i low weight left : ℕ) → weight * 128 ^ left ≡ 128 ^ 4 → weight ≡ 128 ^ 4 → i < length b → 15 < get_or b i 0
    → scaled low weight (groups left (eqb i at) i (drop i b)) ≡ Err Refusal.BadForm
unfolding groups scaled
fifth_high b at i low weight zero e w h high = rw (drop-cons b i 0 h, lt-ltb 15 (get_or b i 0) high)
fifth_high b at i low weight (suc k) e w h high = absurd (omega (arith, weight_le (weight * 128) k (fewer weight k e)))
