-- A layout at an offset is the layout of the bytes from there on, with that offset added to the one that is told; so is its check.
-- Each definition of the reader gives, m bytes later, what it gives there with m added to every offset; by its cases, and by induction.
use Rattle.std.specs.Prelude.{◌≡◌, Bool, true, cond, ltb, length, drop, Ok, Err}
use Rattle.std.proofs.Common.{◌∙◌, sym, ap, zero-add, add-zero, suc-add, arith, length-drop, drop_of_length-le, drop-drop}
use Rattle.std.proofs.Math.Path.{refl}
use Prim.Native.Nat.{ℕ, zero, suc, ◌+◌, ◌-◌, ◌≤◌, ◌<◌}
use Rattle.std.proofs.Math.Nat.{add_assoc}
use Rattle.std.proofs.Math.Decide.{dec_le}
use mathlib.Core.List.{List, [], ◌∷◌}
use Rattle.std.proofs.Math.Bool.{false}
use Rattle.std.proofs.Math.Dec.{leb-suc-suc}
use Rattle.parts.specs.Table.{part_of, length_at, count_at}
use Rattle.parts.specs.declared.table.Part.{Part}
use Rattle.answers.specs.declared.Refusal.{Refusal}
use Rattle.numbers.specs.Number.{NumberRead, read, last_group, low_group, groups, number_at}
use Rattle.layout.specs.Step.{Step, Reading, before, listed}
use Rattle.layout.specs.StepReading.{StepRead, judged_target, and_target, targets_at, judged_write, write_count, write_first, targets_read, judged_multi, multi_count, step_kind, step_at, and_step, steps_at}
use Rattle.layout.specs.Layout.{end_read, count_read, device_read, edition_read, layout_at, desk_layout_at, desk_layout, check_answer, check_at, check}
use Rattle.layout.specs.Inner.CheckLoops.{check_no_part, check_wrong_range, check_layout}
use Rattle.layout.specs.declared.FrameRange.{FrameRange}
use Rattle.layout.specs.declared.step.PlacedStep.{PlacedStep}
use Rattle.answers.specs.AnswerNumbers.{refused, Answer}

-- a reading, its offset m more
unfoldable pub later_reading : {A : Type 0} → ℕ → Reading A → Reading A
later_reading m (Reading.Read x next) = Reading.Read x (m + next)
later_reading m (Reading.Refused c at) = Reading.Refused c (m + at)

-- a step, each of its offsets m more
unfoldable later_step : ℕ → StepRead → StepRead
later_step m (Ok (PlacedStep.FrameWrite n k body next)) = Ok (PlacedStep.FrameWrite n k (m + body) (m + next))
later_step m (Ok (PlacedStep.MultiFrameWrite k body targets next)) = Ok (PlacedStep.MultiFrameWrite k (m + body) (m + targets) (m + next))
later_step m (Err e) = Err (refused e.refusal (m + e.told))

-- a function of what a test picks
picked : {A B : Type 0} (f : A → B) (t : Bool) (x y : A) → f (cond t x y) ≡ cond t (f x) (f y)
picked f true x y = refl
picked f false x y = refl

same_test : (m x y : ℕ) → ltb (m + x) (m + y) ≡ ltb x y
same_test zero x y = simp zero-add
same_test (suc m) x y = rw (suc-add m x, suc-add m y, leb-suc-suc) (same_test m x y)

module _ (m : ℕ) where
  -- what far makes of a number read m bytes later is `later` of what near makes of it there, if so of each refusal and each value
  groups_later : {A : Type 0} (later : A → A) (far near : NumberRead → A) → ((c : Refusal) → far (Err c) ≡ later (near (Err c)))
      → ((v next : ℕ) → far (Ok (read v (m + next))) ≡ later (near (Ok (read v next))))
      → (k : ℕ) (first : Bool) (i : ℕ) (xs : List ℕ) → far (groups k first (m + i) xs) ≡ later (near (groups k first i xs))
  unfolding groups last_group low_group
  groups_later later far near none some k first i [] = none _
  groups_later later far near none some zero first i (x ∷ xs) = simp (picked far, picked near, picked later, add_assoc, none, some)
  groups_later later far near none some (suc k) first i (x ∷ xs) =
      let others = groups_later later (λ r. far (low_group (x - 128) r)) (λ r. near (low_group (x - 128) r)) none (λ v next. some _ next) k false (i + 1) xs in
      simp (picked far, picked near, picked later, add_assoc, none, some, others)

  before_later : {A : Type 0} (x : A) (r : Reading (List A)) → before x (later_reading m r) ≡ later_reading m (before x r)
  unfolding before later_reading
  before_later x (Reading.Read xs next) = refl
  before_later x (Reading.Refused c at) = refl

  listed_later : {A : Type 0} (r : Reading (List A)) → listed (later_reading m r) ≡ listed r
  unfolding listed later_reading
  listed_later (Reading.Read xs next) = refl
  listed_later (Reading.Refused c at) = refl

  read_later : (l k body : ℕ) (r : Reading (List ℕ)) → targets_read l k (m + body) (later_reading m r) ≡ later_step m (targets_read l k body r)
  unfolding targets_read later_reading later_step
  read_later l k body (Reading.Read ts next) = simp add_assoc
  read_later l k body (Reading.Refused c at) = refl

-- b is m bytes, then those of s
module _ (m l f : ℕ) (own : ℕ → Bool) (b s : List ℕ) (rest : (i : ℕ) → drop (m + i) b ≡ drop i s) (size : length b ≡ m + length s) where
  number_later : {A : Type 0} (later : A → A) (far near : ℕ → NumberRead → A) (at : ℕ) → ((c : Refusal) → far (m + at) (Err c) ≡ later (near at (Err c)))
      → ((v next : ℕ) → far (m + at) (Ok (read v (m + next))) ≡ later (near at (Ok (read v next)))) → far (m + at) (number_at b (m + at)) ≡ later (near at (number_at s at))
  number_later later far near at none some = rw (rest at) (groups_later m later (far (m + at)) (near at) none some 4 true at (drop at s))

  targets_later : (k low at : ℕ) → targets_at f own b k low (m + at) ≡ later_reading m (targets_at f own s k low at)
  unfolding targets_at judged_target and_target later_reading
  targets_later zero low at = refl
  targets_later (suc k) low at =
      let far : ℕ → NumberRead → Reading (List ℕ) = λ at x. and_target at x (λ t next. targets_at f own b k t next) in
      let near : ℕ → NumberRead → Reading (List ℕ) = λ at x. and_target at x (λ t next. targets_at f own s k t next) in
      number_later (later_reading m) (λ at x. far at (judged_target f own low x)) (λ at x. near at (judged_target f own low x)) at (λ c. refl)
      (λ t next. simp (picked (far (m + at)), picked (near at), picked (later_reading {A = List ℕ} m), targets_later k (t + 1) next, before_later))

  step_later : (at : ℕ) → step_at l f own b (m + at) ≡ later_step m (step_at l f own s at)
  unfolding step_kind write_first write_count judged_write multi_count judged_multi later_step
  step_later at =
      let later = later_step m in
      number_later later (step_kind l f own b) (step_kind l f own s) at (λ c. refl) (λ kind next. simp (
        picked later,
        number_later later (write_first l f own b) (write_first l f own s) next (λ c. refl)
            (λ n count. number_later later (write_count l f own b n (m + next)) (write_count l f own s n next) count (λ c. refl)
            (λ k body. simp (picked later, size, add_assoc, same_test))),
        number_later later (multi_count l f own b) (multi_count l f own s) next (λ c. refl)
            (λ k body. simp (picked later, size, add_assoc, same_test, targets_later, read_later)),
      ))

  steps_later : (n at : ℕ) → steps_at l f own b n (m + at) ≡ later_reading m (steps_at l f own s n at)
  unfolding steps_at and_step later_step later_reading
  steps_later zero at = refl
  steps_later (suc n) at = rw (step_later at) (go (step_at l f own s at) (λ next. steps_later n next))
    where
      go : (x : StepRead) → ((next : ℕ) → steps_at l f own b n (m + next) ≡ later_reading m (steps_at l f own s n next))
          → and_step l f own b (later_step m x) (λ next. steps_at l f own b n next) ≡ later_reading m (and_step l f own s x (λ next. steps_at l f own s n next))
      go (Ok (PlacedStep.FrameWrite first k body next)) others = simp (rest, others, before_later)
      go (Ok (PlacedStep.MultiFrameWrite k body targets next)) others = simp (rest, others, targets_later, listed_later, before_later)
      go (Err x) others = refl

  ended_later : (r : Reading (List Step)) → end_read b (later_reading m r) ≡ later_reading m (end_read s r)
  unfolding end_read later_reading
  ended_later (Reading.Read ss next) = simp (size, same_test, picked (later_reading {A = List Step} m))
  ended_later (Reading.Refused c at) = refl

  layout_later : (d at : ℕ) → layout_at l f own b d (m + at) ≡ later_reading m (layout_at l f own s d at)
  unfolding edition_read device_read count_read later_reading
  layout_later d at =
      let later : Reading (List Step) → Reading (List Step) = later_reading m in
      number_later later (edition_read l f own b d) (edition_read l f own s d) at (λ c. refl)
      (λ v device. rw (number_later later (device_read l f own b d) (device_read l f own s d) device (λ c. refl)
      (λ w count. rw (number_later later (count_read l f own b) (count_read l f own s) count (λ c. refl)
      (λ n first. simp (picked later, steps_later, ended_later))) (simp (picked later)))) (simp (picked later)))

-- past the end no number is read, so that the offset itself is told
layout_from : (l f : ℕ) (own : ℕ → Bool) (b : List ℕ) (d at : ℕ) → layout_at l f own b d at ≡ later_reading at (layout_at l f own (drop at b) d 0)
unfolding edition_read groups later_reading
layout_from l f own b d at =
    elim (dec_le at (length b)) [
      | yes h ↦ rw add-zero at (layout_later at l f own b (drop at b) (λ i. sym (drop-drop i at b)) (omega (arith, length-drop at b)) d 0)
      | no h ↦ rw (drop_of_length-le b {i = at} (omega arith), add-zero)
    ]

-- a layout at an offset is the layout of the bytes from there on, with that offset added to the one that is told
pub desk_from : (d : ℕ) (r : FrameRange) (b : List ℕ) (at : ℕ) → desk_layout_at d r b at ≡ later_reading at (desk_layout d r (drop at b))
desk_from d r b at = layout_from _ _ _ b d at

-- an answer, the offset that it tells m more
unfoldable pub later_answer : ℕ → Answer → Answer
later_answer m (Ok n) = Ok n
later_answer m (Err e) = Err (refused e.refusal (m + e.told))

answer_later : (m l : ℕ) (x : Reading (List Step)) → check_answer l (later_reading m x) ≡ later_answer m (check_answer l x)
unfolding check_answer later_reading later_answer
answer_later m l (Reading.Read ss next) = refl
answer_later m l (Reading.Refused c at) = refl

module _ (d : ℕ) (r : FrameRange) (b : List ℕ) (at : ℕ) where
  -- and so a check at an offset is the check of the bytes from there on, with that offset added to the one that the layout tells
  pub check_from : (p : Part) → part_of d ≡ Ok p → r.first + r.count ≤ count_at d → check_at d r b at ≡ later_answer at (check d r (drop at b))
  check_from p k fits =
      sym (check_layout d r (desk_layout_at d r b at) (part_of d) refl p k fits)
      ∙ ap (check_answer (length_at d)) (desk_from d r b at)
      ∙ answer_later at (length_at d) (desk_layout d r (drop at b))
      ∙ ap (later_answer at) (check_layout d r (desk_layout d r (drop at b)) (part_of d) refl p k fits)

  -- "21 and 37 tell 0", at any offset
  pub unknown_from : (c : Refusal) → part_of d ≡ Err c → check_at d r b at ≡ check d r (drop at b)
  unknown_from c k = sym (check_no_part d r _ (part_of d) refl c k) ∙ check_no_part d r _ (part_of d) refl c k

  pub range_from : (p : Part) → part_of d ≡ Ok p → count_at d < r.first + r.count → check_at d r b at ≡ check d r (drop at b)
  range_from p k past = sym (check_wrong_range d r _ (part_of d) refl p k past) ∙ check_wrong_range d r _ (part_of d) refl p k past
