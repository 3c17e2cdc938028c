-- Bounds of the image's numbers.
-- By cases: each is one of a few numerals, or a sum of bytes or of flags at their places.
use Rattle.std.specs.Prelude.{ℕ, ◌^◌, ◌≤◌, ◌<◌, Bool, true, false, cond, Option, Some, None}
use Rattle.std.proofs.Common.{arith}
use Rattle.registers.specs.RegisterAddresses.{is_fdri}
use Rattle.registers.specs.Laws.AddressLookup.{address_bound}
use Rattle.answers.specs.StopsAndRefusals.{stop_number}
use Rattle.answers.specs.declared.Stop.{Stop}
use Rattle.config.specs.declared.PartialWord.{PartialWord}
use Rattle.config.specs.declared.Flags.{Flags}
use Rattle.config.specs.declared.Phase.{Phase}
use Rattle.record.specs.declared.Record.{Record}
use Rattle.record_image.specs.Image.{phase_number, argument, words_left, words_filled, pending, bytes_count, bytes_number, current_number, flag_bit, flag_bits, head_words}
use Rattle.words.specs.Laws.ByteLists.{AreWords}
use Rattle.record_image.specs.Laws.KeptRecord.{PartialBytes, PhaseInRange, CurrentInRange, InRange}

-- 01: "stop number ... 1 to 10"
stop_bound : (s : Stop) → stop_number s ≤ 10
stop_bound Stop.BadHeader = omega arith
stop_bound Stop.BadRegister = omega arith
stop_bound Stop.ReadOperation = omega arith
stop_bound Stop.WrongIdcode = omega arith
stop_bound Stop.WrongFrameLength = omega arith
stop_bound Stop.NotReady = omega arith
stop_bound Stop.WrongCount = omega arith
stop_bound Stop.CrcMismatch = omega arith
stop_bound Stop.NoCurrentFrame = omega arith
stop_bound Stop.UnknownCommand = omega arith

-- words 1 to 4
phase_bound : (p : Phase) → phase_number p ≤ 4
phase_bound (Phase.Hunting b) = omega arith
phase_bound (Phase.Header o) = omega arith
phase_bound (Phase.Data r left filled) = omega arith
phase_bound Phase.Crc = omega arith
phase_bound (Phase.Stopped s) = omega arith

argument_bound : (p : Phase) → argument p ≤ 15
argument_bound (Phase.Hunting b) = omega arith
argument_bound (Phase.Header None) = omega arith
argument_bound (Phase.Header (Some r)) = omega (arith, address_bound r)
argument_bound (Phase.Data r left filled) = omega (arith, address_bound r)
argument_bound Phase.Crc = omega arith
argument_bound (Phase.Stopped s) = omega (arith, stop_bound s)

left_bound : (p : Phase) → PhaseInRange p → words_left p < 2 ^ 32
left_bound (Phase.Hunting b) h = omega arith
left_bound (Phase.Header o) h = omega arith
left_bound (Phase.Data r left filled) h = omega arith
left_bound Phase.Crc h = omega arith
left_bound (Phase.Stopped s) h = omega arith

cond_bound : (on : Bool) {n m : ℕ} → n < m → cond on n 0 < m
cond_bound true h = h
cond_bound false h = omega arith

filled_bound : (p : Phase) → PhaseInRange p → words_filled p < 2 ^ 32
unfolding words_filled
filled_bound (Phase.Hunting b) h = omega arith
filled_bound (Phase.Header o) h = omega arith
filled_bound (Phase.Data r left filled) h = cond_bound (is_fdri r) h.1
filled_bound Phase.Crc h = omega arith
filled_bound (Phase.Stopped s) h = omega arith

-- words 5 and 6
pending_bytes : (p : Phase) (b : PartialWord) → PhaseInRange p → PartialBytes b → PartialBytes (pending p b)
pending_bytes (Phase.Hunting w) b h g = h
pending_bytes (Phase.Header o) b h g = g
pending_bytes (Phase.Data r left filled) b h g = g
pending_bytes Phase.Crc b h g = g
pending_bytes (Phase.Stopped s) b h g = g

count_bound : (b : PartialWord) → bytes_count b ≤ 3
count_bound PartialWord.Zero = omega arith
count_bound (PartialWord.One a) = omega arith
count_bound (PartialWord.Two a b) = omega arith
count_bound (PartialWord.Three a b c) = omega arith

number_bound : (b : PartialWord) → PartialBytes b → bytes_number b < 2 ^ 24
number_bound PartialWord.Zero h = omega arith
number_bound (PartialWord.One a) h = omega arith
number_bound (PartialWord.Two a b) h = omega arith
number_bound (PartialWord.Three a b c) h = omega arith

-- words 7 and 8
current_bound : (c : Option ℕ) → CurrentInRange c → current_number c < 2 ^ 32
current_bound (Some n) h = h
current_bound None h = omega arith

bit_bound : (on : Bool) (w : ℕ) → flag_bit on w ≤ w
bit_bound true w = omega arith
bit_bound false w = omega arith

flags_bound : (f : Flags) → flag_bits f < 2 ^ 7
unfolding flag_bits
flags_bound f =
    omega (
      arith,
      bit_bound f.idcode_ok 1,
      bit_bound f.flr_ok 2,
      bit_bound f.buffer_valid 4,
      bit_bound f.ghigh 8,
      bit_bound f.start_pending 16,
      bit_bound f.check_passed 32,
      bit_bound f.started 64,
    )

-- words 0 to 23
pub head_words_lem : (d : Record) → InRange d → AreWords (head_words d.phase d.control)
unfolding head_words
head_words_lem d r =
    let b = pending d.phase d.control.partial in (
      r.device,
      (
        omega (arith, phase_bound d.phase),
        (
          omega (arith, argument_bound d.phase),
          (
            left_bound d.phase r.phase,
            (
              filled_bound d.phase r.phase,
              (
                omega (arith, count_bound b),
                (
                  omega (arith, number_bound b (pending_bytes d.phase d.control.partial r.phase r.partial)),
                  (
                    current_bound d.control.current r.current,
                    (
                      omega (arith, flags_bound d.control.flags),
                      r.registers,
                    ),
                  ),
                ),
              ),
            ),
          ),
        ),
      ),
    )
