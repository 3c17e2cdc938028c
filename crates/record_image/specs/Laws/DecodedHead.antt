-- Each number of the image, read back, names what it was made from.
-- By cases on what it was made from; bytes and flags by the arithmetic of their places.
use Rattle.std.specs.Prelude.{◌≡◌, refl, Bool, true, false, ℕ, ◌+◌, ◌-◌, ◌*◌, ◌/◌, ◌%◌, ◌^◌, ◌≤◌, Option, Some, None}
use Rattle.std.proofs.Common.{ne_eqb}
use Rattle.std.proofs.Math.Path.{ap}
use native.Mathlib.Omega.{arith}
use Rattle.std.proofs.Math.Dec.{eqb}
use Rattle.registers.specs.RegisterAddresses.{address_of}
use Rattle.registers.specs.Laws.AddressLookup.{register_address}
use Rattle.answers.specs.StopsAndRefusals.{stop_number}
use Rattle.registers.specs.declared.Register.{Register}
use Rattle.answers.specs.declared.Stop.{Stop}
use Rattle.config.specs.declared.PartialWord.{PartialWord}
use Rattle.config.specs.declared.Flags.{Flags}
use Rattle.config.specs.declared.Phase.{Phase}
use Rattle.record_image.specs.Image.{phase_number, open_number, argument, words_left, words_filled, pending, bytes_count, bytes_number, current_number, flag_bit, flag_bits}
use Rattle.record_image.specs.Decode.{open_of, register_of, stop_of, pending_of, phase_of, partial_of, current_of, flags_of}
use Rattle.record_image.specs.Laws.KeptRecord.{PartialBytes, PhaseInRange, kept_phase, kept_partial, kept_current}

-- ---- word 2

register_of_lem : (r : Register) → register_of (address_of r) ≡ r
unfolding register_of
register_of_lem r = rw (register_address r)

open_of_lem : (o : Option Register) → open_of (open_number o) ≡ o
unfolding open_of
open_of_lem None = refl
open_of_lem (Some r) =
    let e : address_of r + 1 - 1 ≡ address_of r = omega arith in
    rw (ne_eqb (address_of r + 1) 0 (λ h. omega arith), e, register_address r)

stop_of_lem : (s : Stop) → stop_of (stop_number s) ≡ s
unfolding stop_of
stop_of_lem Stop.BadHeader = refl
stop_of_lem Stop.BadRegister = refl
stop_of_lem Stop.ReadOperation = refl
stop_of_lem Stop.WrongIdcode = refl
stop_of_lem Stop.WrongFrameLength = refl
stop_of_lem Stop.NotReady = refl
stop_of_lem Stop.WrongCount = refl
stop_of_lem Stop.CrcMismatch = refl
stop_of_lem Stop.NoCurrentFrame = refl
stop_of_lem Stop.UnknownCommand = refl

-- ---- words 5 and 6

pending_of_lem : (b : PartialWord) → PartialBytes b → pending_of (bytes_count b) (bytes_number b) ≡ b
unfolding pending_of
pending_of_lem PartialWord.Zero h = refl
pending_of_lem (PartialWord.One a) h = let e : a % 2 ^ 8 ≡ a = omega arith in rw e
pending_of_lem (PartialWord.Two a b) h =
    let e : (a * 2 ^ 8 + b) / 2 ^ 8 % 2 ^ 8 ≡ a = omega arith in
    let f : (a * 2 ^ 8 + b) % 2 ^ 8 ≡ b = omega arith in
    rw (e, f)
pending_of_lem (PartialWord.Three a b c) h =
    let e : (a * 2 ^ 16 + b * 2 ^ 8 + c) / 2 ^ 16 % 2 ^ 8 ≡ a = omega arith in
    let f : (a * 2 ^ 16 + b * 2 ^ 8 + c) / 2 ^ 8 % 2 ^ 8 ≡ b = omega arith in
    let g : (a * 2 ^ 16 + b * 2 ^ 8 + c) % 2 ^ 8 ≡ c = omega arith in
    rw (e, f, g)

-- ---- the phase

module _ (p : Phase) (b : PartialWord) where
  abbrev bytes : PartialWord
  bytes = pending_of (bytes_count (pending p b)) (bytes_number (pending p b))

pub phase_of_lem : (p : Phase) (b : PartialWord) → PhaseInRange p → phase_of (phase_number p) (argument p) (words_left p) (words_filled p) (bytes p b) ≡ kept_phase p
unfolding phase_of words_filled
phase_of_lem (Phase.Hunting w) b h = ap Phase.Hunting (pending_of_lem w h)
phase_of_lem (Phase.Header o) b h = ap Phase.Header (open_of_lem o)
phase_of_lem (Phase.Data r left filled) b h = rw (register_of_lem r)
phase_of_lem Phase.Crc b h = refl
phase_of_lem (Phase.Stopped s) b h = ap Phase.Stopped (stop_of_lem s)

pub partial_of_lem : (p : Phase) (b : PartialWord) → PartialBytes b → partial_of (phase_number p) (bytes p b) ≡ kept_partial p b
unfolding partial_of
partial_of_lem (Phase.Hunting w) b h = refl
partial_of_lem (Phase.Header o) b h = pending_of_lem b h
partial_of_lem (Phase.Data r left filled) b h = pending_of_lem b h
partial_of_lem Phase.Crc b h = pending_of_lem b h
partial_of_lem (Phase.Stopped s) b h = pending_of_lem b h

-- ---- words 7 and 8

pub current_of_lem : (c : Option ℕ) → current_of (current_number c) ≡ kept_current c
unfolding current_of
current_of_lem (Some n) = refl
current_of_lem None = refl

-- a flag is 0 or 1, and so many times that at its place
bit_weight : (on : Bool) (w : ℕ) → (flag_bit on w ≡ flag_bit on 1 * w) × (flag_bit on 1 ≤ 1)
bit_weight true w = (omega arith, omega arith)
bit_weight false w = (omega arith, omega arith)

bit_back : (on : Bool) (n : ℕ) → n ≡ flag_bit on 1 → eqb n 1 ≡ on
bit_back true n e = rw e
bit_back false n e = rw e

pub flags_of_lem : (f : Flags) → flags_of (flag_bits f) ≡ f
unfolding flag_bits
flags_of_lem f =
    let a = bit_weight f.idcode_ok 1 in
    let b = bit_weight f.flr_ok 2 in
    let c = bit_weight f.buffer_valid 4 in
    let d = bit_weight f.ghigh 8 in
    let e = bit_weight f.start_pending 16 in
    let g = bit_weight f.check_passed 32 in
    let h = bit_weight f.started 64 in
    rw (
      bit_back f.idcode_ok (flag_bits f % 2) (omega arith),
      bit_back f.flr_ok (flag_bits f / 2 % 2) (omega arith),
      bit_back f.buffer_valid (flag_bits f / 4 % 2) (omega arith),
      bit_back f.ghigh (flag_bits f / 8 % 2) (omega arith),
      bit_back f.start_pending (flag_bits f / 16 % 2) (omega arith),
      bit_back f.check_passed (flag_bits f / 32 % 2) (omega arith),
      bit_back f.started (flag_bits f / 64 % 2) (omega arith),
    )
