-- The steps of an accepted layout: their frames have 4·l bytes, and each frame that they write is of the part and owned.
-- By induction over steps and targets, from what each step and target that was read tells.
use Rattle.std.specs.Prelude.{◌≡◌, refl, Bool, true, length, take, drop}
use Rattle.std.proofs.Common.{ap, arith, length-drop, length-take-le}
use Rattle.std.proofs.Math.Path.{subst}
use Prim.Native.Nat.{ℕ, zero, suc, ◌+◌, ◌*◌, ◌≤◌, ◌<◌}
use mathlib.Core.List.{List, [], ◌∷◌}
use Rattle.layout.specs.Ownership.{owns_run}
use Rattle.layout.specs.Step.{Step, FrameWrite, MultiFrameWrite, Read, listed, frames}
use Rattle.layout.specs.StepReading.{targets_at, steps_at}
use Rattle.layout.specs.Layout.{most_steps, layout_read}
use Rattle.layout.specs.Laws.StepViews.{WriteView, MultiView, target_view}
use Rattle.layout.specs.Laws.LayoutViews.{FirstStep, first_step, layout_view}

-- each frame has 4·l bytes
abbrev pub Sized : ℕ → List (List ℕ) → Type 0
Sized l [] = Unit {0}
Sized l (x ∷ xs) = (length x ≡ 4 * l) × Sized l xs

module _ (l f : ℕ) (own : ℕ → Bool) where
  -- 01: "k frame numbers, strictly rising", from low on; each is of the part and owned
  abbrev pub Targets : ℕ → List ℕ → Type 0
  Targets low [] = Unit {0}
  Targets low (t ∷ ts) = (low ≤ t) × (t < f) × (own t ≡ true) × Targets (t + 1) ts

  pub record FitsWrite (n : ℕ) (fs : List (List ℕ)) : Type 0 where
    pub positive : 0 < length fs
    pub part : n + length fs ≤ f
    pub owned : owns_run own (length fs) n ≡ true
    pub sized : Sized l fs

  pub record FitsMulti (x ts : List ℕ) : Type 0 where
    pub size : length x ≡ 4 * l
    pub positive : 0 < length ts
    pub part : length ts ≤ f
    pub targets : Targets 0 ts

  abbrev pub Fits : Step → Type 0
  Fits (FrameWrite n fs) = FitsWrite n fs
  Fits (MultiFrameWrite x ts) = FitsMulti x ts

  abbrev pub AllFit : List Step → Type 0
  AllFit [] = Unit {0}
  AllFit (s ∷ ss) = Fits s × AllFit ss

-- ---- frames

pub frames_length : (l k : ℕ) (xs : List ℕ) → length (frames l k xs) ≡ k
unfolding frames
frames_length l zero xs = refl
frames_length l (suc k) xs = ap suc (frames_length l k (drop (4 * l) xs))

frames_sized : (l k : ℕ) (xs : List ℕ) → 4 * l * k ≤ length xs → Sized l (frames l k xs)
unfolding frames
frames_sized l zero xs h = tt
frames_sized l (suc k) xs h =
    (length-take-le (4 * l) xs (omega arith), frames_sized l k (drop (4 * l) xs) (rw length-drop (omega arith)))

-- ---- what was read

module _ (l f : ℕ) (own : ℕ → Bool) (b : List ℕ) where
  pub targets_fit : (k low at : ℕ) (ts : List ℕ) (next : ℕ) → targets_at f own b k low at ≡ Read ts next → (length ts ≡ k) × Targets l f own low ts
  unfolding targets_at listed
  targets_fit zero low at ts next e = subst (λ (xs : List ℕ). (length xs ≡ 0) × Targets l f own low xs) (ap listed e) (refl, tt)
  targets_fit (suc k) low at ts next e =
      let v = target_view l f own b k low at ts next e in
      let others = targets_fit k (v.target + 1) v.after v.rest next v.rest_read in
      rw v.split (ap suc others.0, (v.rising, v.part, v.owned, others.1))

  write_fits : (at n k body next : ℕ) → WriteView l f own b at n k body next → FitsWrite l f own n (frames l k (drop body b))
  write_fits at n k body next v =
      let size = frames_length l k (drop body b) in
      record {
        positive = rw size v.positive;
        part = rw size v.part;
        owned = rw size v.owned;
        sized = frames_sized l k (drop body b) (rw length-drop (omega (arith, v.size, v.within)));
      }

  multi_fits : (at k body targets next : ℕ) (v : MultiView l f own b at k body targets next) → FitsMulti l f own (take (4 * l) (drop body b)) v.list
  multi_fits at k body targets next v =
      let all = targets_fit k 0 targets v.list next v.list_read in
      record {
        size = length-take-le (4 * l) (drop body b) (rw length-drop (omega (arith, v.place, v.room)));
        positive = rw all.0 v.positive;
        part = rw all.0 v.part;
        targets = all.1;
      }

  pub steps_fit : (n at : ℕ) (ss : List Step) (next : ℕ) → steps_at l f own b n at ≡ Read ss next → (length ss ≡ n) × AllFit l f own ss
  unfolding steps_at listed
  steps_fit zero at ss next e = subst (λ (xs : List Step). (length xs ≡ 0) × AllFit l f own xs) (ap listed e) (refl, tt)
  steps_fit (suc n) at ss next e = go (first_step l f own b n at ss next e) (λ after rest. steps_fit n after rest next)
    where
      go : FirstStep l f own b n at ss next → ((after : ℕ) (rest : List Step) → steps_at l f own b n after ≡ Read rest next → (length rest ≡ n) × AllFit l f own rest)
          → (length ss ≡ suc n) × AllFit l f own ss
      go (FirstStep.write first k body after rest v split r) later =
          let others = later after rest r in
          rw split (ap suc others.0, (write_fits at first k body after v, others.1))
      go (FirstStep.multi k body targets after rest v split r) later =
          let others = later after rest r in
          rw split (ap suc others.0, (multi_fits at k body targets after v, others.1))

  pub accepted_fits : (d : ℕ) (ss : List Step) (next : ℕ) → layout_read l f own b d ≡ Read ss next → AllFit l f own ss
  accepted_fits d ss next e = let v = layout_view l f own b d ss next e in (steps_fit v.number v.first ss next v.all_read).1

  -- "step count (at most 4096)"
  pub accepted_few : (d : ℕ) (ss : List Step) (next : ℕ) → layout_read l f own b d ≡ Read ss next → length ss ≤ most_steps
  accepted_few d ss next e = let v = layout_view l f own b d ss next e in rw (steps_fit v.number v.first ss next v.all_read).0 v.few
