-- The image that a load, power-on or a reconfiguration leaves is accepted again, and decodes to the record that the call left.
-- No byte leaves what its image loses; so no run of bytes does, and a call that is refused leaves the record as it was.
use Rattle.std.specs.Prelude.{◌≡◌, refl, List, [], ◌∷◌, Bool, true, false, ℕ, zero, suc, ◌^◌, ◌≤◌, ◌<◌, eqb, length, replicate, set, Result, Ok, Err}
use Rattle.std.proofs.Common.{◌∙◌, arith}
use Rattle.std.proofs.lemmas.List.{length-replicate}
use Rattle.parts.specs.Laws.Cases.{either}
use Rattle.words.specs.Laws.ByteLists.{AreWords, AreBytes}
use Rattle.words.proofs.Laws.WordBytes.{bytes_small}
use Rattle.parts.specs.Table.{part_of, memory_at}
use Rattle.config.specs.PhaseTests.{is_hunting}
use Rattle.config.specs.declared.Event.{Event}
use Rattle.record.specs.Consistency.{consistent}
use Rattle.record.specs.Laws.StaysConsistent.{byte_consistent}
use Rattle.record.specs.PowerOn.{Outcome, fresh_control, fresh, powered, power_on}
use Rattle.record.specs.declared.Record.{Record}
use Rattle.loader.specs.EventEffects.{buffered}
use Rattle.loader.specs.Run.{byte_transition, run}
use Rattle.loader.specs.Load.{finished, load}
use Rattle.loader.specs.Laws.UntouchedFrames.{buffered_length}
use Rattle.loader.specs.Laws.LoadKeeps.{load_consistent}
use Rattle.loader.specs.Laws.Pieces.{next, run_induction, Loadable, load_accepted, load_inconsistent, load_cases}
use Rattle.layout.specs.Step.{Step, Reading}
use Rattle.layout.specs.declared.FrameRange.{FrameRange}
use Rattle.stream.specs.Stream.{words_of}
use Rattle.compiler.specs.Compiled.{stream_of}
use Rattle.reconfigure.specs.Reconfigured.{Reconfigured, reconfigured_after, reconfigured}
use Rattle.record_image.specs.Image.{image, record_length}
use Rattle.record_image.specs.Decode.{decoded}
use Rattle.record_image.specs.Compare.{accepted_image}
use Rattle.record_image.specs.Laws.KeptRecord.{Lossless}
use Rattle.record_image.specs.Laws.Remembered.{KeepsWord}
use Rattle.record_image.proofs.Laws.ByteLossless.{byte_lossless, byte_keeps_word}
use Rattle.record_image.proofs.Laws.ImageRoundTrip.{decode_image, image_accepted}
use Rattle.record.specs.Laws.FreshRecord.{powered_so, fresh_consistent}
use Rattle.record_image.specs.Laws.FreshImage.{fresh_lossless}
use Rattle.record_image.proofs.Laws.AcceptedImages.{accepted_length, accepted_lossless, encoded_image, written_accepted, written_decoded}
use Rattle.seamwillow.specs.RecordCalls.{result_of, powered_image, loaded_image, reconfigured_image}
use Rattle.seamwillow.specs.Laws.RefusedCalls.{loaded_done, powered_done, reconfigured_done}
use Rattle.answers.specs.AnswerNumbers.{Answer}
use Rattle.parts.specs.declared.table.Part.{Part}
use Rattle.answers.specs.declared.Refusal.{Refusal}

-- ---- after a load

set_words : (f : List ℕ) (at w : ℕ) → AreWords f → w < 2 ^ 32 → AreWords (set f at w)
set_words [] at w h s = tt
set_words (x ∷ f) zero w h s = (s, h.1)
set_words (x ∷ f) (suc at) w h s = (h.0, set_words f at w h.1 s)

buffered_words : (e : Event) (f : List ℕ) → AreWords f → KeepsWord e → AreWords (buffered e f)
unfolding buffered
buffered_words Event.Nothing f h k = h
buffered_words (Event.Keep at w) f h k = set_words f at w h k
buffered_words (Event.KeepAndStore at w n) f h k = set_words f at w h k
buffered_words (Event.Store n) f h k = h

next_lossless : (d : Record) (x : ℕ) → x < 2 ^ 8 → consistent d.phase d.control ≡ true → Lossless d → Lossless (next d x)
next_lossless d x h t k =
    let e = (byte_transition d x).event in
    byte_lossless d x h k t (buffered e d.frame) (buffered_words e d.frame k.range.frame (byte_keeps_word d x h k)) (buffered_length e d.frame ∙ k.range.length)

-- a run of bytes from a consistent record of which its image loses nothing ends in one
pub run_lossless : (d : Record) (m xs : List ℕ) → AreBytes xs → consistent d.phase d.control ≡ true → Lossless d → Lossless (run d m xs).«record»
run_lossless =
    run_induction (λ d m xs r. AreBytes xs → consistent d.phase d.control ≡ true → Lossless d → Lossless r.«record»)
    (λ d m _ _ k. k)
    (λ d m xs _ _ _ k. k)
    (λ d m x xs r _ later bytes t k. later bytes.1 (byte_consistent d.phase d.control x t) (next_lossless d x bytes.0 t k))

-- and so does every load; one that is refused hands the record back
pub load_lossless : (d : Record) (m xs : List ℕ) → AreBytes xs → Lossless d → Lossless (load d m xs).«record»
load_lossless d m xs bytes k = go (consistent d.phase d.control) refl
  where
    go : (t : Bool) → consistent d.phase d.control ≡ t → Lossless (load d m xs).«record»
    go true t = load_cases (λ o. Lossless o.«record») d m xs (run_lossless d m xs bytes t k) (λ _. k)
    go false t = rw (load_inconsistent d m xs t) k

module _ (i m s : List ℕ) (bytes : AreBytes s) (a : accepted_image i ≡ true) where
  left : Lossless (load (decoded i) m s).«record»
  left = load_lossless (decoded i) m s bytes (accepted_lossless i a)

  -- the image that it leaves is accepted
  pub loaded_accepted : accepted_image (loaded_image i m s).image ≡ true
  loaded_accepted = rw (loaded_done i m s a) (written_accepted (load (decoded i) m s).«record» i (accepted_length i a) left)

  -- and decodes to the record that it left
  pub loaded_decoded : decoded (loaded_image i m s).image ≡ (load (decoded i) m s).«record»
  loaded_decoded = rw (loaded_done i m s a) (written_decoded (load (decoded i) m s).«record» i (accepted_length i a) left)

  -- and where its record was consistent, so is the record that the next call decodes: it is not refused with 22
  pub loaded_consistent : consistent (decoded i).phase (decoded i).control ≡ true
      → consistent (decoded (loaded_image i m s).image).phase (decoded (loaded_image i m s).image).control ≡ true
  loaded_consistent h = rw loaded_decoded (load_consistent (decoded i) m s h)

-- ---- after power-on

powered_lossless : (q : Result Part Refusal) (d : ℕ) (m : List ℕ) → d < 2 ^ 32 → Lossless (powered q d m).«record»
unfolding powered
powered_lossless (Ok p) d m h = either (λ (o : Outcome). Lossless o.«record») (eqb (length m) (memory_at d)) (λ _. fresh_lossless d h) (λ _. fresh_lossless 0 (omega arith))
powered_lossless (Err c) d m h = fresh_lossless 0 (omega arith)

fresh_loadable : (d : ℕ) → d ≤ 7 → Loadable (fresh d) (replicate (memory_at d) 0)
unfolding fresh fresh_control
fresh_loadable d h = record { fits = fresh_consistent d h; sized = length-replicate {A = ℕ} (memory_at d) 0 }

module _ (d : ℕ) (r m : List ℕ) (sized : length r ≡ record_length) where
  module _ (h : d < 2 ^ 32) where
    -- the image that power-on leaves, refused or not, is accepted
    pub powered_accepted : accepted_image (powered_image d r m).image ≡ true
    powered_accepted = rw (powered_done d r m sized) (written_accepted (power_on d m).«record» r sized (powered_lossless (part_of d) d m h))

    -- and decodes to the record that power-on left
    pub powered_decoded : decoded (powered_image d r m).image ≡ (power_on d m).«record»
    powered_decoded = rw (powered_done d r m sized) (written_decoded (power_on d m).«record» r sized (powered_lossless (part_of d) d m h))

  module _ (known : d ≤ 7) (fits : length m ≡ memory_at d) where
    -- a known device with its memory: the fresh record's image, and a memory of zeros
    pub powered_fresh : powered_image d r m ≡ record { code = 0; image = image (fresh d); memory = replicate (memory_at d) 0; taken = 0 }
    powered_fresh = powered_done d r m sized ∙ rw (powered_so d m known fits, encoded_image (fresh d) r sized)

    -- the load after it is not refused: it runs from the fresh record and the memory of zeros
    pub powered_loads : (s : List ℕ) → loaded_image (powered_image d r m).image (powered_image d r m).memory s
        ≡ result_of (finished (run (fresh d) (replicate (memory_at d) 0) s)) (image (fresh d))
    powered_loads s =
        let k = fresh_lossless d (omega arith) in
        rw powered_fresh
        (loaded_done (image (fresh d)) (replicate (memory_at d) 0) s (image_accepted (fresh d) k.range)
        ∙ rw (decode_image (fresh d) k.range, k.whole, load_accepted (fresh d) (replicate (memory_at d) 0) s (fresh_loadable d known)))

-- ---- after a reconfiguration

stream_bytes : (d : ℕ) (x : Reading (List Step)) → AreBytes (stream_of d x)
unfolding stream_of
stream_bytes d (Reading.Read ss next) = bytes_small (words_of d ss)
stream_bytes d (Reading.Refused c at) = tt

module _ (m : List ℕ) (r : FrameRange) (b out : List ℕ) where
  after_lossless : (d : Record) (v : Answer) → Lossless d → Lossless (reconfigured_after d m r b out v).«record»
  unfolding reconfigured_after
  after_lossless d (Ok n) k = load_lossless d m _ (stream_bytes d.control.device _) k
  after_lossless d (Err e) k = k

  reconfigured_lossless : (d : Record) → Lossless d → Lossless (reconfigured d m r b out).«record»
  unfolding reconfigured
  reconfigured_lossless d k =
      let P : Reconfigured → Type 0 = λ x. Lossless x.«record» in
      either P (consistent d.phase d.control)
      (λ _. either P (eqb (length m) (memory_at d.control.device)) (λ _. either P (is_hunting d.phase) (λ _. after_lossless d _ k) (λ _. k)) (λ _. k))
      (λ _. k)

  module _ (i : List ℕ) (a : accepted_image i ≡ true) where
    -- the image that it leaves is accepted
    pub reconfigured_accepted : accepted_image (reconfigured_image i m r b out).image ≡ true
    reconfigured_accepted =
        rw (reconfigured_done i m r b out a)
        (written_accepted (reconfigured (decoded i) m r b out).«record» i (accepted_length i a) (reconfigured_lossless (decoded i) (accepted_lossless i a)))

    -- and decodes to the record that it left
    pub reconfigured_decoded : decoded (reconfigured_image i m r b out).image ≡ (reconfigured (decoded i) m r b out).«record»
    reconfigured_decoded =
        rw (reconfigured_done i m r b out a)
        (written_decoded (reconfigured (decoded i) m r b out).«record» i (accepted_length i a) (reconfigured_lossless (decoded i) (accepted_lossless i a)))
