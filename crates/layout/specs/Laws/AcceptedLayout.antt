-- What an accepted check tells: the device has a part, the layout was read, its step count stands at offset 2.
-- The layout's edition and device are numbers under 128, of one byte each; a reading for the whole part gives the same steps.
use Rattle.std.specs.Prelude.{◌≡◌, refl, ℕ, ◌+◌, ◌*◌, ◌≤◌, ◌<◌, List, Bool, true, false, ltb, Result, Ok, Err}
use Rattle.std.proofs.Common.{◌∙◌, sym, subst, arith, lt-ltb, le-leb, ltb-true, ltb-false}
use Rattle.parts.specs.Table.{part_of, length_at, count_at}
use Rattle.parts.specs.declared.table.Part.{Part}
use Rattle.answers.specs.declared.Refusal.{Refusal}
use Rattle.numbers.specs.Number.{read, number_at}
use Rattle.numbers.specs.Laws.ShortestForm.{number_short}
use Rattle.parts.specs.Laws.Cases.{either}
use Rattle.layout.specs.Ownership.{range, owns}
use Rattle.layout.specs.Step.{Step, Reading, Read}
use Rattle.layout.specs.StepReading.{steps_at, desk_steps}
use Rattle.layout.specs.Layout.{layout_read, desk_layout, step_list_of, step_list, stream_word_count, check_answer, check_for, check}
use Rattle.layout.specs.ReferenceMachine.{steps_applied, made_of, machine}
use Rattle.layout.specs.Laws.LayoutViews.{layout_view}
use Rattle.layout.specs.Laws.WiderRange.{narrower}
use Rattle.layout.specs.declared.FrameRange.{FrameRange}
use Rattle.answers.specs.AnswerNumbers.{Answer}

-- something was read
unfoldable pub is_read : {A : Type 0} → Reading A → Bool
is_read (Reading.Read x next) = true
is_read (Reading.Refused c at) = false

-- the step count at offset 2, and the steps after it, which are the layout's
record Counted (l f d : ℕ) (own : ℕ → Bool) (b : List ℕ) : Type 0 where
  number : ℕ
  first : ℕ
  count_read_lem : number_at b 2 ≡ Ok (read number first)
  all_read : steps_at l f own b number first ≡ layout_read l f own b d

counted : (l f d : ℕ) (own : ℕ → Bool) (b : List ℕ) → d ≤ 7 → is_read (layout_read l f own b d) ≡ true → Counted l f d own b
unfolding is_read
counted l f d own b h t = go (layout_read l f own b d) refl t
  where
    go : (x : Reading (List Step)) → layout_read l f own b d ≡ x → is_read x ≡ true → Counted l f d own b
    go (Reading.Read ss next) e k =
        let v = layout_view l f own b d ss next e in
        let one = number_short b 0 1 v.device v.edition_read_lem (omega arith) in
        let two = number_short b v.device d v.count v.device_read_lem (omega arith) in
        let place : 2 ≡ v.count = omega (arith, one, two) in
        record { number = v.number; first = v.first; count_read_lem = rw place v.count_read_lem; all_read = v.all_read ∙ sym e }
    go (Reading.Refused c at) e k = let z : ◌≡◌ {A = ℕ} 0 1 = cc in absurd (omega arith)

-- the list of steps that an accepted layout tells is the layout's
pub steps_listed : (d : ℕ) (r : FrameRange) (b : List ℕ) → d ≤ 7 → is_read (desk_layout d r b) ≡ true
    → desk_steps d r b (step_list b).count (step_list b).start ≡ desk_layout d r b
unfolding step_list_of
steps_listed d r b known taken = let v = counted (length_at d) (count_at d) d (owns r) b known taken in rw v.count_read_lem v.all_read

-- ---- an accepted check

pub record Taken (d n : ℕ) (r : FrameRange) (b : List ℕ) : Type 0 where
  pub known : d ≤ 7
  pub inside : r.first + r.count ≤ count_at d
  pub steps : List Step
  pub next : ℕ
  pub was_read : desk_layout d r b ≡ Read steps next
  pub size : n ≡ 4 * stream_word_count (length_at d) steps

abbrev Accepts : ℕ → FrameRange → List ℕ → Answer → Type 0
Accepts d r b (Ok n) = Taken d n r b
Accepts d r b (Err e) = Unit {0}

-- a device number that names a part is at most 7
known_device : (d : ℕ) (p : Part) → part_of d ≡ Ok p → d ≤ 7
unfolding part_of
known_device d p e = go (ltb d 8) refl
  where
    go : (t : Bool) → ltb d 8 ≡ t → d ≤ 7
    go true h = let z = ltb-true d 8 h in omega arith
    go false h = let none : Err Refusal.UnknownDevice ≡ Ok p = simp h at e in let z : ◌≡◌ {A = ℕ} 0 1 = cc in absurd (omega arith)

read_accepts : (d : ℕ) (r : FrameRange) (b : List ℕ) → d ≤ 7 → r.first + r.count ≤ count_at d
    → (x : Reading (List Step)) → desk_layout d r b ≡ x → Accepts d r b (check_answer (length_at d) x)
unfolding check_answer
read_accepts d r b h inside (Reading.Read ss next) k = record { known = h; inside = inside; steps = ss; next = next; was_read = k; size = refl }
read_accepts d r b h inside (Reading.Refused c at) k = tt

check_accepts : (d : ℕ) (r : FrameRange) (b : List ℕ) (q : Result Part Refusal) → part_of d ≡ q → Accepts d r b (check_for q d r (desk_layout d r b))
unfolding check_for
check_accepts d r b (Ok p) e =
    either (Accepts d r b) (ltb (count_at d) (r.first + r.count)) (λ _. tt) (λ inside. read_accepts d r b (known_device d p e) (ltb-false _ _ inside) _ refl)
check_accepts d r b (Err c) e = tt

pub accepted : (d n : ℕ) (r : FrameRange) (b : List ℕ) → check d r b ≡ Ok n → Taken d n r b
accepted d n r b e = subst (Accepts d r b) e (check_accepts d r b (part_of d) refl)

-- ---- the reference machine on an accepted layout

-- every frame of the part is in the range 0, F
whole : (n f : ℕ) → n < f → owns (range 0 f) n ≡ true
unfolding owns
whole n f h = simp (lt-ltb n (0 + f) (omega arith), le-leb 0 n (omega arith))

pub machine_done : (d : ℕ) (r : FrameRange) (b m : List ℕ) (ss : List Step) (next : ℕ) → desk_layout d r b ≡ Read ss next
    → machine d b m ≡ steps_applied (length_at d) ss m
unfolding made_of
machine_done d r b m ss next e =
    rw (narrower (length_at d) (count_at d) d (owns r) (owns (range 0 (count_at d))) b ss next (λ n inside o. whole n (count_at d) inside) e)

-- it does the steps that are read for a range
pub machine_read : (d : ℕ) (r : FrameRange) (b m : List ℕ) → is_read (desk_layout d r b) ≡ true
    → made_of (length_at d) (desk_layout d r b) m ≡ machine d b m
unfolding is_read made_of
machine_read d r b m t = go (desk_layout d r b) refl t
  where
    go : (x : Reading (List Step)) → desk_layout d r b ≡ x → is_read x ≡ true → made_of (length_at d) x m ≡ machine d b m
    go (Reading.Read ss next) e k = sym (machine_done d r b m ss next e)
    go (Reading.Refused c at) e k = let z : ◌≡◌ {A = ℕ} 0 1 = cc in absurd (omega arith)
