-- `record_image::head::flag_bits` meets its contract: the sum of the flags at their places.
-- By what a flag is at a place, of each.
use Rattle.std.proofs.Common.{◌≡◌, ℕ, ◌*◌, Bool, true, false, arith}
use Rattle.std.specs.Int.{from_bool}
use Rattle.record_image.specs.Image.{flag_bit, flag_bits}
use Rattle.record_image.proofs.head.flag_bits.Goals as goal

at_place : (on : Bool) (weight : ℕ) → flag_bit on weight ≡ from_bool on * weight
at_place true weight = omega arith
at_place false weight = omega arith

pub returns : goal.returns
unfolding flag_bits
returns c = simp at_place (omega arith)
