-- What each call on a record's image does, case by case; a refused call changes nothing.
-- By the tests of the definitions; an accepted image is what writing its own record back leaves.
use Rattle.std.specs.Prelude.{◌≡◌, ◌≢◌, ℕ, List, Bool, true, false, eqb, length, Ok, Err}
use Rattle.std.proofs.Common.{◌∙◌, sym, eq-eqb, ne_eqb}
use Rattle.std.proofs.Math.Path.{refl}
use Rattle.std.proofs.Math.Bool.{and-eq-true_iff}
use Rattle.config.specs.PhaseTests.{is_hunting}
use Rattle.record.specs.Consistency.{consistent}
use Rattle.record.specs.declared.Record.{Record}
use Rattle.answers.specs.declared.Refusal.TheVariants as Refusal
use Rattle.record.specs.PowerOn.{power_on}
use Rattle.parts.specs.Laws.Cases.{either}
use Rattle.parts.specs.Table.{memory_at}
use Rattle.loader.specs.Load.{load}
use Rattle.loader.specs.Laws.Pieces.{load_inconsistent, load_wrong_memory}
use Rattle.layout.specs.declared.FrameRange.{FrameRange}
use Rattle.reconfigure.specs.Reconfigured.{reconfigured_after, reconfigured}
use Rattle.reconfigure.proofs.Laws.AnswerCases.{inconsistent_so}
use Rattle.record_image.specs.Image.{record_length, encoded}
use Rattle.record_image.specs.Decode.{decoded}
use Rattle.record_image.specs.Compare.{is_image, accepted_image}
use Rattle.record_image.proofs.Laws.ImageRoundTrip.{accepted_image_lem}
use Rattle.seamwillow.specs.RecordCalls.{refused_image, result_of, powered_image, loaded_image, Changed, kept_image, changed_of, reconfigured_image}
use Rattle.answers.specs.AnswerNumbers.{refused, Answer}

-- comparing bytes with the record that they decode to tells whether they are accepted
pub compared : (i : List ℕ) (d : Record) (same : Bool) → d ≡ decoded i → same ≡ is_image d i → accepted_image i ≡ same
compared i d same e f = rw (← e) (sym f)

-- an accepted image is what writing its own record back leaves
written_back : (i : List ℕ) → accepted_image i ≡ true → encoded (decoded i) i ≡ i
unfolding encoded is_image
written_back i h =
    let sized = ((and-eq-true_iff (eqb (length i) record_length) _).0 h).0 in
    rw (sized, accepted_image_lem i h)

module _ (d : ℕ) (r m : List ℕ) where
  pub powered_refused : length r ≢ record_length → powered_image d r m ≡ refused_image r m
  unfolding powered_image
  powered_refused h = rw (ne_eqb (length r) record_length h)

  pub powered_done : length r ≡ record_length → powered_image d r m ≡ result_of (power_on d m) r
  unfolding powered_image
  powered_done h = rw (eq-eqb (length r) record_length h)

module _ (r m s : List ℕ) where
  pub loaded_refused : accepted_image r ≡ false → loaded_image r m s ≡ refused_image r m
  unfolding loaded_image
  loaded_refused h = rw h

  pub loaded_done : accepted_image r ≡ true → loaded_image r m s ≡ result_of (load (decoded r) m s) r
  unfolding loaded_image
  loaded_done h = rw h

  -- a refused load changes nothing: not the image of an inconsistent record either
  pub inconsistent_refused : accepted_image r ≡ true → consistent (decoded r).phase (decoded r).control ≡ false → loaded_image r m s ≡ refused_image r m
  inconsistent_refused a h = loaded_done a ∙ rw (load_inconsistent (decoded r) m s h, written_back r a)

  -- and 23 leaves the image, the memory and the count in the same way
  pub wrong_memory_refused : accepted_image r ≡ true → consistent (decoded r).phase (decoded r).control ≡ true
      → length m ≢ memory_at (decoded r).control.device → loaded_image r m s ≡ record { code = 23; image = r; memory = m; taken = 0 }
  wrong_memory_refused a h n = loaded_done a ∙ rw (load_wrong_memory (decoded r) m s h n, written_back r a)

module _ (i m : List ℕ) (r : FrameRange) (b out : List ℕ) where
  pub reconfigured_refused : accepted_image i ≡ false → reconfigured_image i m r b out ≡ kept_image (Err (refused Refusal.Inconsistent 0)) i m out
  unfolding reconfigured_image
  reconfigured_refused h = rw h

  pub reconfigured_done : accepted_image i ≡ true → reconfigured_image i m r b out ≡ changed_of (reconfigured (decoded i) m r b out) i
  unfolding reconfigured_image
  reconfigured_done h = rw h

  -- the image of an inconsistent record is refused as bytes that are no image are
  pub inconsistent_unchanged : accepted_image i ≡ true → consistent (decoded i).phase (decoded i).control ≡ false → reconfigured_image i m r b out ≡ kept_image (Err (refused Refusal.Inconsistent 0)) i m out
  inconsistent_unchanged a h = reconfigured_done a ∙ rw (inconsistent_so (decoded i) m r b out h, written_back i a)

  abbrev Leaves : Changed → Type 0
  Leaves x = x.code ≢ 0 → (x.image ≡ i) × (x.memory ≡ m) × (x.output ≡ out)

  after_leaves : accepted_image i ≡ true → (v : Answer) → Leaves (changed_of (reconfigured_after (decoded i) m r b out v) i)
  unfolding reconfigured_after
  after_leaves a (Ok n) refused = absurd (refused refl)
  after_leaves a (Err e) refused = (written_back i a, refl, refl)

  -- "Every refusal leaves record, memory and out as they were"
  pub refusal_leaves : Leaves (reconfigured_image i m r b out)
  unfolding reconfigured_image reconfigured
  refusal_leaves =
      either Leaves (accepted_image i)
      (λ a. either (λ x. Leaves (changed_of x i)) (consistent (decoded i).phase (decoded i).control)
      (λ _. either (λ x. Leaves (changed_of x i)) (eqb (length m) (memory_at (decoded i).control.device))
      (λ _. either (λ x. Leaves (changed_of x i)) (is_hunting (decoded i).phase) (λ _. after_leaves a _) (λ _ _. (written_back i a, refl, refl)))
      (λ _ _. (written_back i a, refl, refl)))
      (λ _ _. (written_back i a, refl, refl)))
      (λ _ _. (refl, refl, refl))
