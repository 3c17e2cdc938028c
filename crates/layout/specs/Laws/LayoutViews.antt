-- What a list of steps, and a whole layout, that was read tells of the bytes, and that this is enough for the reading.
-- The same cases as for one step: a view of each outcome, none of a refusal, and back by computing with what the view tells.
use Rattle.std.specs.Prelude.{◌≡◌, ℕ, suc, ◌*◌, ◌≤◌, List, ◌∷◌, Bool, eqb, ltb, length, take, drop, Ok, Err}
use Rattle.std.proofs.Math.Path.{refl, subst}
use borrow.Author.Tests.{ltb-false, eqb-true, le-ltb, eq-eqb}
use Rattle.numbers.specs.Number.{NumberRead, read, number_at}
use Rattle.parts.specs.Laws.Cases.{either}
use Rattle.layout.specs.Step.{Step, FrameWrite, MultiFrameWrite, Reading, Read, before, listed, frames}
use Rattle.layout.specs.StepReading.{StepRead, step_at, and_step, steps_at}
use Rattle.layout.specs.Layout.{most_steps, end_read, count_read, device_read, edition_read, layout_read}
use Rattle.layout.specs.Laws.StepViews.{WriteView, MultiView, write_view, multi_view}
use Rattle.layout.specs.Laws.ViewConverse.{write_reads, multi_reads}
use Rattle.layout.specs.declared.step.PlacedStep.{PlacedStep}

module _ (l f : ℕ) (own : ℕ → Bool) (b : List ℕ) where
  -- ---- a list of steps

  -- the first of a list of steps, by its kind, and the n others
  pub data FirstStep (n at : ℕ) (ss : List Step) (next : ℕ) : Type 0 where
    write : (first k body after : ℕ) (rest : List Step) → WriteView l f own b at first k body after
        → ss ≡ FrameWrite first (frames l k (drop body b)) ∷ rest → steps_at l f own b n after ≡ Read rest next → FirstStep n at ss next
    multi : (k body targets after : ℕ) (rest : List Step) (v : MultiView l f own b at k body targets after)
        → ss ≡ MultiFrameWrite (take (4 * l) (drop body b)) v.list ∷ rest → steps_at l f own b n after ≡ Read rest next → FirstStep n at ss next

  abbrev StepsView : ℕ → ℕ → Reading (List Step) → Type 0
  StepsView n at (Reading.Read ss next) = FirstStep n at ss next
  StepsView n at (Reading.Refused c offset) = Unit {0}

  written_before : (n at first k body after : ℕ) → WriteView l f own b at first k body after → (r : Reading (List Step)) → steps_at l f own b n after ≡ r
      → StepsView n at (before (FrameWrite first (frames l k (drop body b))) r)
  unfolding before
  written_before n at first k body after v (Reading.Read ss next) e = FirstStep.write first k body after ss v refl e
  written_before n at first k body after v (Reading.Refused c offset) e = tt

  multi_before : (n at k body targets after : ℕ) (v : MultiView l f own b at k body targets after) (r : Reading (List Step)) → steps_at l f own b n after ≡ r
      → StepsView n at (before (MultiFrameWrite (take (4 * l) (drop body b)) v.list) r)
  unfolding before
  multi_before n at k body targets after v (Reading.Read ss next) e = FirstStep.multi k body targets after ss v refl e
  multi_before n at k body targets after v (Reading.Refused c offset) e = tt

  steps_view : (n at : ℕ) (s : StepRead) → step_at l f own b at ≡ s → StepsView n at (and_step l f own b s (λ next. steps_at l f own b n next))
  unfolding and_step listed
  steps_view n at (Ok (PlacedStep.FrameWrite first k body after)) e = written_before n at first k body after (write_view l f own b at first k body after e) _ refl
  steps_view n at (Ok (PlacedStep.MultiFrameWrite k body targets after)) e =
      let v = multi_view l f own b at k body targets after e in
      rw v.list_read (multi_before n at k body targets after v _ refl)
  steps_view n at (Err x) e = tt

  pub first_step : (n at : ℕ) (ss : List Step) (next : ℕ) → steps_at l f own b (suc n) at ≡ Read ss next → FirstStep n at ss next
  unfolding steps_at
  first_step n at ss next e = subst (StepsView n at) e (steps_view n at (step_at l f own b at) refl)

  pub steps_read : (n at : ℕ) (ss : List Step) (next : ℕ) → FirstStep n at ss next → steps_at l f own b (suc n) at ≡ Read ss next
  unfolding steps_at and_step before listed
  steps_read n at ss next (FirstStep.write first k body after rest v split e) = rw (write_reads l f own b at first k body after v, e, split)
  steps_read n at ss next (FirstStep.multi k body targets after rest v split e) = rw (multi_reads l f own b at k body targets after v, v.list_read, e, split)

  -- ---- a layout

  pub record LayoutView (d : ℕ) (ss : List Step) (next : ℕ) : Type 0 where
    pub device : ℕ
    pub count : ℕ
    pub first : ℕ
    pub number : ℕ
    pub edition_read_lem : number_at b 0 ≡ Ok (read 1 device)
    pub device_read_lem : number_at b device ≡ Ok (read d count)
    pub count_read_lem : number_at b count ≡ Ok (read number first)
    pub few : number ≤ most_steps
    pub all_read : steps_at l f own b number first ≡ Read ss next
    pub end : length b ≤ next

  abbrev View : ℕ → Reading (List Step) → Type 0
  View d (Reading.Read ss next) = LayoutView d ss next
  View d (Reading.Refused c offset) = Unit {0}

  ended_view : (d device count number first : ℕ) → number_at b 0 ≡ Ok (read 1 device) → number_at b device ≡ Ok (read d count) → number_at b count ≡ Ok (read number first)
      → number ≤ most_steps → (r : Reading (List Step)) → steps_at l f own b number first ≡ r → View d (end_read b r)
  unfolding end_read
  ended_view d device count number first e g h few (Reading.Read ss next) s =
      either (View d) (ltb next (length b)) (λ _. tt) λ all. record {
        device = device;
        count = count;
        first = first;
        number = number;
        edition_read_lem = e;
        device_read_lem = g;
        count_read_lem = h;
        few = few;
        all_read = s;
        end = ltb-false next (length b) all;
      }
  ended_view d device count number first e g h few (Reading.Refused c offset) s = tt

  count_view : (d device count : ℕ) → number_at b 0 ≡ Ok (read 1 device) → number_at b device ≡ Ok (read d count) → (x : NumberRead) → number_at b count ≡ x
      → View d (count_read l f own b count x)
  unfolding count_read
  count_view d device count e g (Ok n) h =
      either (View d) (ltb most_steps n.value) (λ _. tt) (λ few. ended_view d device count n.value n.next e g h (ltb-false most_steps n.value few) _ refl)
  count_view d device count e g (Err c) h = tt

  device_view : (d device : ℕ) → number_at b 0 ≡ Ok (read 1 device) → (x : NumberRead) → number_at b device ≡ x → View d (device_read l f own b d device x)
  unfolding device_read
  device_view d device e (Ok v) g =
      either (View d) (eqb v.value d) (λ same. count_view d device v.next e (rw (← eqb-true v.value d same) g) (number_at b v.next) refl) (λ _. tt)
  device_view d device e (Err c) g = tt

  edition_view : (d : ℕ) (x : NumberRead) → number_at b 0 ≡ x → View d (edition_read l f own b d 0 x)
  unfolding edition_read
  edition_view d (Ok v) e =
      either (View d) (eqb v.value 1) (λ one. device_view d v.next (rw (← eqb-true v.value 1 one) e) (number_at b v.next) refl) (λ _. tt)
  edition_view d (Err c) e = tt

  pub layout_view : (d : ℕ) (ss : List Step) (next : ℕ) → layout_read l f own b d ≡ Read ss next → LayoutView d ss next
  layout_view d ss next e = subst (View d) e (edition_view d (number_at b 0) refl)

  pub layout_reads : (d : ℕ) (ss : List Step) (next : ℕ) → LayoutView d ss next → layout_read l f own b d ≡ Read ss next
  unfolding edition_read device_read count_read end_read
  layout_reads d ss next v =
      rw (v.edition_read_lem, v.device_read_lem, eq-eqb d d refl, v.count_read_lem, le-ltb most_steps _ v.few, v.all_read, le-ltb _ _ v.end)
