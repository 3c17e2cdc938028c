-- Targets as numbers one after the other, as the code reads them again: those of an accepted step, each with room in the memory.
-- By induction over the targets, each with its view.
use Rattle.std.specs.Prelude.{◌≡◌, refl, Bool, Ok, Err}
use Rattle.std.proofs.Common.{◌∙◌, ap, arith}
use Rattle.std.proofs.Math.Path.{subst}
use Prim.Native.Nat.{ℕ, zero, suc, ◌+◌, ◌-◌, ◌*◌, ◌≤◌, ◌<◌}
use mathlib.Core.List.{List, [], ◌∷◌}
use Rattle.parts.specs.Laws.FramePlacing.{frame_end}
use Rattle.answers.specs.declared.Refusal.{Refusal}
use Rattle.numbers.specs.Number.{NumberRead, read, number_at}
use Rattle.layout.specs.Step.{Read, listed}
use Rattle.layout.specs.StepReading.{targets_at}
use Rattle.layout.specs.Laws.StepViews.{target_view}

-- a number before those that `go` reads from the next offset on
unfoldable pub and_number : NumberRead → (ℕ → List ℕ) → List ℕ
and_number (Ok v) go = v.value ∷ go v.next
and_number (Err c) go = []

-- k numbers from an offset on, up to the first that is none
unfoldable pub numbers_at : List ℕ → ℕ → ℕ → List ℕ
numbers_at b zero at = []
numbers_at b (suc k) at = and_number (number_at b at) (λ next. numbers_at b k next)

-- each frame has room in n bytes
abbrev pub Roomy : ℕ → ℕ → List ℕ → Type 0
Roomy l n [] = Unit {0}
Roomy l n (t ∷ ts) = (4 * l * t + 4 * l ≤ n) × Roomy l n ts

-- the numbers that are left: none, one or more with one that is read, or with one that is none
pub numbers_none : (b : List ℕ) (k at : ℕ) → k ≡ 0 → numbers_at b k at ≡ []
unfolding numbers_at
numbers_none b k at e = rw e

some : (b : List ℕ) (k at : ℕ) → 0 < k → numbers_at b k at ≡ and_number (number_at b at) (λ next. numbers_at b (k - 1) next)
unfolding numbers_at
some b k at h = let e : k ≡ suc (k - 1) = omega arith in ap (λ (j : ℕ). numbers_at b j at) e

pub numbers_value : (b : List ℕ) (k at v next : ℕ) → 0 < k → number_at b at ≡ Ok (read v next) → numbers_at b k at ≡ v ∷ numbers_at b (k - 1) next
unfolding and_number
numbers_value b k at v next h e = some b k at h ∙ rw e

pub numbers_refused : (b : List ℕ) (k at : ℕ) (c : Refusal) → 0 < k → number_at b at ≡ Err c → numbers_at b k at ≡ []
unfolding and_number
numbers_refused b k at c h e = some b k at h ∙ rw e

-- ---- the targets of an accepted step

module _ (l f : ℕ) (own : ℕ → Bool) (b : List ℕ) where
  -- they are the numbers one after the other, and in a memory of f frames or more each has room
  pub targets_numbers : (k low at : ℕ) (ts : List ℕ) (next : ℕ) → targets_at f own b k low at ≡ Read ts next
      → (numbers_at b k at ≡ ts) × ((n : ℕ) → 4 * l * f ≤ n → Roomy l n ts)
  unfolding targets_at listed numbers_at and_number
  targets_numbers zero low at ts next e =
      subst (λ (xs : List ℕ). (numbers_at b zero at ≡ xs) × ((n : ℕ) → 4 * l * f ≤ n → Roomy l n xs)) (ap listed e) (refl, λ n h. tt)
  targets_numbers (suc k) low at ts next e =
      let v = target_view l f own b k low at ts next e in
      let others = targets_numbers k (v.target + 1) v.after v.rest next v.rest_read in
      rw (v.split, v.target_read) (ap (λ (xs : List ℕ). v.target ∷ xs) others.0, λ n h. (omega (arith, frame_end l v.target f v.part), others.1 n h))
