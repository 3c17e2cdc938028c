-- The image of the record that power-on leaves loses nothing of it.
-- By its numbers: each is zero, or the device number.
use Rattle.std.specs.Prelude.{refl, ℕ, ◌^◌, ◌<◌}
use Rattle.std.proofs.Common.{arith}
use Rattle.std.proofs.lemmas.List.{length-replicate}
use Rattle.words.specs.Laws.ByteLists.{zero_words}
use Rattle.record.specs.PowerOn.{fresh_control, fresh}
use Rattle.record_image.specs.Laws.KeptRecord.{Lossless}

pub fresh_lossless : (d : ℕ) → d < 2 ^ 32 → Lossless (fresh d)
unfolding fresh fresh_control
fresh_lossless d h = record {
  range = record { phase = tt; device = h; registers = omega arith; current = omega arith; partial = tt; frame = zero_words 213; length = length-replicate {A = ℕ} 213 0 };
  whole = refl;
}
