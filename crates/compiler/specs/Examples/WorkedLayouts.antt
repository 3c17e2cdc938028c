-- The examples of 01 that are marked P and speak of the compiler, as closed statements over lists.
-- By computation.
use Rattle.std.specs.Prelude.{◌≡◌, refl, [], ◌∷◌, ℕ, replicate}
use Rattle.crc16.specs.CrcRegister.{input, shift, shift_in, feed, leaving, check_word}
use Rattle.words.specs.WordsInBytes.{bytes_of}
use Rattle.parts.specs.Table.{parts, part_of, figure_of, idcode_of, frame_length, frame_count}
use Rattle.answers.specs.AnswerNumbers.{answer_number, answer_value}
use Rattle.registers.specs.RegisterAddresses.{address_of}
use Rattle.numbers.specs.Number.{last_group, low_group, groups}
use Rattle.layout.specs.Ownership.{range, owns, owns_run}
use Rattle.layout.specs.StepReading.{judged_write, write_count, write_first, step_kind, and_step, steps_at}
use Rattle.layout.specs.Layout.{steps_word_count, end_read, count_read, device_read, edition_read, check_answer, check_for}
use Rattle.stream.specs.StreamPackets.{crc_of, packet_words, packets_words}
use Rattle.stream.specs.Stream.{steps_packets, words_of}
use Rattle.compiler.specs.Compiled.{stream_of, compiled_after, compiled}

-- 01, "Worked by hand": "Layout 01 00 00 on device 0 gives 48 bytes": the answer 0 and the length 48
pub empty_layout :
    (let v = (compiled 0 (range 0 368) (1 ∷ 0 ∷ 0 ∷ []) (replicate {A = ℕ} 48 0)).answer in answer_number v ∷ answer_value v ∷ [])
    ≡ 0 ∷ 48 ∷ []
unfolding parts part_of figure_of frame_length frame_count last_group low_group groups steps_at steps_word_count end_read count_read device_read edition_read check_answer check_for compiled_after
empty_layout = refl

-- and the 48 bytes
pub empty_stream :
    (compiled 0 (range 0 368) (1 ∷ 0 ∷ 0 ∷ []) (replicate {A = ℕ} 48 0)).output
    ≡ 0xFF ∷ 0xFF ∷ 0xFF ∷ 0xFF ∷ 0xAA ∷ 0x99 ∷ 0x55 ∷ 0x66 ∷ 0x30 ∷ 0x00 ∷ 0x80 ∷ 0x01 ∷ 0x00 ∷ 0x00 ∷ 0x00 ∷ 0x07
    ∷ 0x30 ∷ 0x01 ∷ 0x60 ∷ 0x01 ∷ 0x00 ∷ 0x00 ∷ 0x00 ∷ 0x24 ∷ 0x30 ∷ 0x01 ∷ 0xC0 ∷ 0x01 ∷ 0x01 ∷ 0x40 ∷ 0xD0 ∷ 0x93
    ∷ 0x30 ∷ 0x00 ∷ 0x00 ∷ 0x01 ∷ 0x00 ∷ 0x00 ∷ 0xF9 ∷ 0xEC ∷ 0x30 ∷ 0x00 ∷ 0x80 ∷ 0x01 ∷ 0x00 ∷ 0x00 ∷ 0x00 ∷ 0x0D ∷ []
unfolding input shift shift_in feed leaving check_word parts part_of figure_of idcode_of frame_length frame_count bytes_of address_of last_group low_group groups steps_at steps_word_count end_read count_read device_read edition_read check_answer check_for crc_of packet_words packets_words steps_packets words_of stream_of compiled_after
empty_stream = refl

-- "Device 0, seat 0 count 256, layout 01 00 01 01 80 02 01: 35 at 4"
pub frame_outside :
    (let v = (compiled 0 (range 0 256) (1 ∷ 0 ∷ 1 ∷ 1 ∷ 128 ∷ 2 ∷ 1 ∷ []) []).answer in answer_number v ∷ answer_value v ∷ [])
    ≡ 35 ∷ 4 ∷ []
unfolding parts part_of figure_of frame_length frame_count last_group low_group groups owns owns_run judged_write write_count write_first step_kind and_step steps_at end_read count_read device_read edition_read check_answer check_for compiled_after
frame_outside = refl
