-- Which bytes are taken for a record: exactly the images of consistent records.
-- By the round trip: what an image loses of a record has no part in its consistency.
use Rattle.std.specs.Prelude.{◌≡◌, refl, Bool, true, false, cond, ◌&&◌, List, ℕ, ◌+◌, ◌%◌, eqb, leb, ltb, Option, Some, None}
use Rattle.std.proofs.Common.{◌∙◌, ap}
use Rattle.std.proofs.Math.Bool.{and-eq-true_iff}
use Rattle.registers.specs.RegisterAddresses.{is_fdri, is_mfwr}
use Rattle.parts.specs.Table.{length_at}
use Rattle.record.specs.Laws.StaysConsistent.{to_items, from_items}
use Rattle.record.specs.Consistency.{current_fits, data_fits, phase_fits, consistent}
use Rattle.config.specs.declared.Control.{Control}
use Rattle.config.specs.declared.Phase.{Phase}
use Rattle.record.specs.declared.Record.{Record}
use Rattle.record_image.specs.Image.{image}
use Rattle.record_image.specs.Decode.{decoded}
use Rattle.record_image.specs.Compare.{accepted_image}
use Rattle.record_image.specs.Laws.KeptRecord.{InRange, kept_current, kept_phase, kept_control, kept}
use Rattle.record_image.proofs.Laws.ImageRoundTrip.{decode_image, accepted_image_lem, image_accepted}

-- no frame fits every part
frame_fits : (device : ℕ) (none : Bool) (n : ℕ) → current_fits device (Some n) ≡ true → current_fits device (cond none None (Some n)) ≡ true
unfolding current_fits
frame_fits device true n h = refl
frame_fits device false n h = h

current_fits_lem : (device : ℕ) (c : Option ℕ) → current_fits device c ≡ true → current_fits device (kept_current c) ≡ true
current_fits_lem device (Some n) h = frame_fits device (eqb n 0xFFFFFFFF) n h
current_fits_lem device None h = h

-- words filled count in data of FDRI only
filled_fits : (fdri : Bool) (f : ℕ → Bool) (other : Bool) (filled : ℕ) → cond fdri (f (cond fdri filled 0)) other ≡ cond fdri (f filled) other
filled_fits true f other filled = refl
filled_fits false f other filled = refl

phase_fits_lem : (p : Phase) (c : Control) → phase_fits (kept_phase p) (kept_control p c) ≡ phase_fits p c
unfolding phase_fits data_fits
phase_fits_lem (Phase.Hunting b) c = refl
phase_fits_lem (Phase.Header o) c = refl
phase_fits_lem (Phase.Data r left filled) c =
    let l = length_at c.device in
    ap (λ b. leb 1 left && leb left 134217727 && b)
    (filled_fits (is_fdri r) (λ n. ltb n l && eqb ((n + left) % l) 0) (cond (is_mfwr r) (leb left 2 && c.flags.buffer_valid) true) filled)
phase_fits_lem Phase.Crc c = refl
phase_fits_lem (Phase.Stopped s) c = refl

kept_consistent : (d : Record) → consistent d.phase d.control ≡ true → consistent (kept d).phase (kept d).control ≡ true
kept_consistent d h =
    let c = d.control in
    let k = to_items d.phase c h in
    let s = k.state in
    from_items _ _
    (record {
      state = record { device = s.device; current = current_fits_lem c.device c.current s.current; crc = s.crc; cmd = s.cmd };
      phase = phase_fits_lem d.phase c ∙ k.phase;
    })

-- what is asked of bytes before they are taken for a record: that they are accepted, and that their record is consistent
abbrev pub taken_image : List ℕ → Bool
taken_image bytes = accepted_image bytes && consistent (decoded bytes).phase (decoded bytes).control

-- bytes that are taken are the image of a consistent record
pub taken_image_lem : (bytes : List ℕ) → taken_image bytes ≡ true → (image (decoded bytes) ≡ bytes) × (consistent (decoded bytes).phase (decoded bytes).control ≡ true)
taken_image_lem bytes h =
    let both = (and-eq-true_iff (accepted_image bytes) (consistent (decoded bytes).phase (decoded bytes).control)).0 h in
    (accepted_image_lem bytes both.0, both.1)

-- and the image of every consistent record in range is taken
pub image_taken : (d : Record) → InRange d → consistent d.phase d.control ≡ true → taken_image (image d) ≡ true
image_taken d r h = rw (image_accepted d r, decode_image d r) (kept_consistent d h)
