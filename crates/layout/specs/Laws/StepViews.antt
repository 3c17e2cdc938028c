-- What a step, and a list of targets, that was read tells of the bytes.
-- A view is stated of each outcome, none of a refusal; it holds of what the reader picks in each case of each test.
use Rattle.std.specs.Prelude.{◌≡◌, ℕ, suc, ◌+◌, ◌*◌, ◌≤◌, ◌<◌, List, ◌∷◌, Bool, true, eqb, ltb, length, Ok, Err}
use Rattle.std.proofs.Math.Path.{refl, subst}
use Rattle.std.proofs.Common.{arith}
use borrow.Author.Tests.{ltb-true, ltb-false, eqb-true, eqb-false}
use Rattle.numbers.specs.Number.{NumberRead, read, number_at}
use Rattle.parts.specs.Laws.Cases.{either}
use Rattle.layout.specs.Ownership.{owns_run}
use Rattle.layout.specs.Step.{Reading, Read, before}
use Rattle.layout.specs.StepReading.{StepRead, judged_target, and_target, targets_at, judged_write, write_count, write_first, targets_read, judged_multi, multi_count, step_kind, step_at}
use Rattle.layout.specs.declared.step.PlacedStep.{PlacedStep}

module _ (l f : ℕ) (own : ℕ → Bool) (b : List ℕ) where
  -- ---- targets

  -- the first target and the others
  pub record TargetView (k low at : ℕ) (ts : List ℕ) (next : ℕ) : Type 0 where
    pub target : ℕ
    pub rest : List ℕ
    pub after : ℕ
    pub split : ts ≡ target ∷ rest
    pub target_read : number_at b at ≡ Ok (read target after)
    pub rising : low ≤ target
    pub part : target < f
    pub owned : own target ≡ true
    pub rest_read : targets_at f own b k (target + 1) after ≡ Read rest next

  abbrev TargetsView : ℕ → ℕ → ℕ → Reading (List ℕ) → Type 0
  TargetsView k low at (Reading.Read ts next) = TargetView k low at ts next
  TargetsView k low at (Reading.Refused c offset) = Unit {0}

  before_view : (k low at t after : ℕ) → number_at b at ≡ Ok (read t after) → low ≤ t → t < f → own t ≡ true
      → (r : Reading (List ℕ)) → targets_at f own b k (t + 1) after ≡ r → TargetsView k low at (before t r)
  unfolding before
  before_view k low at t after e rises inside o (Reading.Read ts next) r =
      record { target = t; rest = ts; after = after; split = refl; target_read = e; rising = rises; part = inside; owned = o; rest_read = r }
  before_view k low at t after e rises inside o (Reading.Refused c offset) r = tt

  judged_view : (k low at : ℕ) (x : NumberRead) → number_at b at ≡ x
      → TargetsView k low at (and_target at (judged_target f own low x) (λ t next. targets_at f own b k t next))
  unfolding judged_target and_target
  judged_view k low at (Ok t) e =
      let P : NumberRead → Type 0 = λ x. TargetsView k low at (and_target at x (λ t next. targets_at f own b k t next)) in
      either P (ltb t.value low) (λ _. tt)
      (λ rises. either P (ltb t.value f)
      (λ inside. either P (own t.value) (λ o. before_view k low at t.value t.next e (ltb-false t.value low rises) (ltb-true t.value f inside) o _ refl) (λ _. tt))
      (λ _. tt))
  judged_view k low at (Err c) e = tt

  pub target_view : (k low at : ℕ) (ts : List ℕ) (next : ℕ) → targets_at f own b (suc k) low at ≡ Read ts next → TargetView k low at ts next
  unfolding targets_at
  target_view k low at ts next e = subst (TargetsView k low at) e (judged_view k low at (number_at b at) refl)

  -- ---- steps

  pub record WriteView (at n k body next : ℕ) : Type 0 where
    pub first : ℕ
    pub count : ℕ
    pub kind_read : number_at b at ≡ Ok (read 1 first)
    pub first_read : number_at b first ≡ Ok (read n count)
    pub count_read_lem : number_at b count ≡ Ok (read k body)
    pub positive : 0 < k
    pub part : n + k ≤ f
    pub owned : owns_run own k n ≡ true
    pub size : next ≡ body + 4 * l * k
    pub within : next ≤ length b

  pub record MultiView (at k body targets next : ℕ) : Type 0 where
    pub count : ℕ
    pub kind_read : number_at b at ≡ Ok (read 2 count)
    pub count_read_lem : number_at b count ≡ Ok (read k body)
    pub positive : 0 < k
    pub part : k ≤ f
    pub place : targets ≡ body + 4 * l
    pub room : targets ≤ length b
    pub list : List ℕ
    pub list_read : targets_at f own b k 0 targets ≡ Read list next

  abbrev StepView : ℕ → StepRead → Type 0
  StepView at (Ok (PlacedStep.FrameWrite n k body next)) = WriteView at n k body next
  StepView at (Ok (PlacedStep.MultiFrameWrite k body targets next)) = MultiView at k body targets next
  StepView at (Err e) = Unit {0}

  written_view : (at first n count k body : ℕ) → number_at b at ≡ Ok (read 1 first) → number_at b first ≡ Ok (read n count) → number_at b count ≡ Ok (read k body)
      → StepView at (judged_write l f own b n first k count body)
  unfolding judged_write
  written_view at first n count k body e g h =
      either (StepView at) (eqb k 0) (λ _. tt)
      (λ some. either (StepView at) (ltb f (n + k)) (λ _. tt)
      (λ inside. either (StepView at) (owns_run own k n)
      (λ o. either (StepView at) (ltb (length b) (body + 4 * l * k)) (λ _. tt)
      (λ fits. record {
        first = first;
        count = count;
        kind_read = e;
        first_read = g;
        count_read_lem = h;
        positive = let z = eqb-false k 0 some in omega arith;
        part = ltb-false f (n + k) inside;
        owned = o;
        size = refl;
        within = ltb-false (length b) _ fits;
      }))
      (λ _. tt)))

  write_count_view : (at first n count : ℕ) (x : NumberRead) → number_at b at ≡ Ok (read 1 first) → number_at b first ≡ Ok (read n count) → number_at b count ≡ x
      → StepView at (write_count l f own b n first count x)
  unfolding write_count
  write_count_view at first n count (Ok k) e g h = written_view at first n count k.value k.next e g h
  write_count_view at first n count (Err c) e g h = tt

  write_first_view : (at first : ℕ) (x : NumberRead) → number_at b at ≡ Ok (read 1 first) → number_at b first ≡ x → StepView at (write_first l f own b first x)
  unfolding write_first
  write_first_view at first (Ok n) e g = write_count_view at first n.value n.next (number_at b n.next) e g refl
  write_first_view at first (Err c) e g = tt

  listed_view : (at count k body : ℕ) → number_at b at ≡ Ok (read 2 count) → number_at b count ≡ Ok (read k body) → 0 < k → k ≤ f → body + 4 * l ≤ length b
      → (r : Reading (List ℕ)) → targets_at f own b k 0 (body + 4 * l) ≡ r → StepView at (targets_read l k body r)
  unfolding targets_read
  listed_view at count k body e g p q fits (Reading.Read ts next) r =
      record { count = count; kind_read = e; count_read_lem = g; positive = p; part = q; place = refl; room = fits; list = ts; list_read = r }
  listed_view at count k body e g p q fits (Reading.Refused c offset) r = tt

  multi_count_view : (at count : ℕ) (x : NumberRead) → number_at b at ≡ Ok (read 2 count) → number_at b count ≡ x → StepView at (multi_count l f own b count x)
  unfolding multi_count judged_multi
  multi_count_view at count (Ok k) e g =
      either (StepView at) (eqb k.value 0) (λ _. tt)
      (λ some. either (StepView at) (ltb f k.value) (λ _. tt)
      (λ inside. either (StepView at) (ltb (length b) (k.next + 4 * l)) (λ _. tt)
      (λ fits. listed_view at count k.value k.next e g (let z = eqb-false k.value 0 some in omega arith) (ltb-false f k.value inside) (ltb-false (length b) _ fits) _ refl)))
  multi_count_view at count (Err c) e g = tt

  kind_view : (at : ℕ) (x : NumberRead) → number_at b at ≡ x → StepView at (step_kind l f own b at x)
  unfolding step_kind
  kind_view at (Ok kind) e =
      either (StepView at) (eqb kind.value 1) (λ one. write_first_view at kind.next (number_at b kind.next) (rw (← eqb-true kind.value 1 one) e) refl)
      (λ _. either (StepView at) (eqb kind.value 2) (λ two. multi_count_view at kind.next (number_at b kind.next) (rw (← eqb-true kind.value 2 two) e) refl) (λ _. tt))
  kind_view at (Err c) e = tt

  pub write_view : (at n k body next : ℕ) → step_at l f own b at ≡ Ok (PlacedStep.FrameWrite n k body next) → WriteView at n k body next
  write_view at n k body next e = subst (StepView at) e (kind_view at (number_at b at) refl)

  pub multi_view : (at k body targets next : ℕ) → step_at l f own b at ≡ Ok (PlacedStep.MultiFrameWrite k body targets next) → MultiView at k body targets next
  multi_view at k body targets next e = subst (StepView at) e (kind_view at (number_at b at) refl)
