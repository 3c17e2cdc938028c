-- Words of an FDRI packet that only fill the frame buffer: none completes a frame or the packet.
-- By induction on the words, four bytes at a time: each is fed, kept at the next place of the buffer, and held in FDRI.
use Rattle.std.specs.Prelude.{◌≡◌, refl, List, [], ◌∷◌, true, false, ℕ, zero, suc, ◌+◌, ◌-◌, ◌*◌, ◌≤◌, ◌<◌, length, get_or, drop, set}
use Rattle.std.proofs.Common.{◌∙◌, ap, zero-add, add-zero, add-one, arith, drop-cons, drop-drop, length-drop, lt-ltb}
use Rattle.std.proofs.Math.Nat.{sub-zero}
use Rattle.std.proofs.lemmas.Bool.{lt-leb}
use Rattle.std.proofs.lemmas.List.Edits.{sets}
use Rattle.crc16.specs.CrcRegister.{fed_words}
use Rattle.parts.specs.Table.{length_at}
use Rattle.registers.specs.RegisterAddresses.{address_of}
use Rattle.config.specs.PhaseTests.{is_stopped, takes_words}
use Rattle.config.specs.RegisterWrites.{fed_crc, hold}
use Rattle.config.specs.ControlState.{with_registers, transition}
use Rattle.config.specs.DataWords.{fdri_word, data_word, word}
use Rattle.words.specs.WordsInBytes.{word_at, words_from}
use Rattle.words.proofs.Laws.WordReads.{four_bytes}
use Rattle.registers.specs.declared.Register.TheVariants as Register
use Rattle.config.specs.declared.Registers.{Registers}
use Rattle.config.specs.declared.PartialWord.TheVariants as PartialWord
use Rattle.config.specs.declared.Control.{Control}
use Rattle.config.specs.declared.Phase.{Phase}
use Rattle.loader.specs.EventEffects.{buffered, stored}
use Rattle.loader.specs.Run.{after, byte_transition, record_after, memory_after, run}
use Rattle.loader.specs.Laws.Pieces.{byte_run, after_after}
use Rattle.loader.specs.Laws.WordRun.{partial_empty, word_transition, word_run}
use Rattle.config.specs.declared.Event.TheVariants as Event
use Rattle.record.specs.declared.Record.{Record}

-- ---- definitions

-- the last of the words
unfoldable pub last_of : List ℕ → ℕ → ℕ
last_of [] v = v
last_of (w ∷ ws) v = last_of ws w

abbrev pub filled_registers : List ℕ → Registers → Registers
filled_registers ws r = record r { crc = fed_words r.crc 2 ws; fdri = last_of ws r.fdri }

abbrev pub filled_control : List ℕ → Control → Control
filled_control ws c = with_registers (filled_registers ws c.registers) c

abbrev pub record_of : Phase → Control → List ℕ → Record
record_of p c f = record { phase = p; control = c; frame = f }

-- ---- the next byte, and the next four

pub run_byte : (d : Record) (m s : List ℕ) → is_stopped d.phase ≡ false → 0 < length s
    → run d m s ≡ after 1 (run (record_after (byte_transition d (get_or s 0 0)) d) (memory_after (byte_transition d (get_or s 0 0)) d m) (drop 1 s))
run_byte d m s g h = rw (drop-cons s 0 0 h) (byte_run d m (get_or s 0 0) (drop 1 s) g)

pub run_word : (d : Record) (m s : List ℕ) → takes_words d.phase ≡ true → d.control.partial ≡ PartialWord.Zero → 4 ≤ length s
    → run d m s ≡ after 4 (run (record_after (word_transition d (word_at s 0)) d) (memory_after (word_transition d (word_at s 0)) d m) (drop 4 s))
unfolding word_at
run_word d m s t e h = rw (four_bytes s 0 h) (word_run d t m (get_or s 0 0) (get_or s 1 0) (get_or s 2 0) (get_or s 3 0) (drop 4 s) e)

-- ---- a word that only fills

pub fills : (left filled : ℕ) (c : Control) (w : ℕ) → 1 < left → filled + 1 < length_at c.device
    → word (Phase.Data Register.Fdri left filled) c w ≡ transition (Phase.Data Register.Fdri (left - 1) (filled + 1)) (filled_control (w ∷ []) c) (Event.Keep filled w)
unfolding word data_word fdri_word hold fed_crc address_of fed_words last_of
fills left filled c w hl hf = simp (lt-leb left 1 hl, lt-ltb (filled + 1) (length_at c.device) hf)

-- n words that only fill the buffer
pub run_filling : (n left filled : ℕ) (c : Control) (f m s : List ℕ)
    → n < left → filled + n < length_at c.device → c.partial ≡ PartialWord.Zero → 4 * n ≤ length s
    → run (record_of (Phase.Data Register.Fdri left filled) c f) m s
    ≡ after (4 * n) (run (record_of (Phase.Data Register.Fdri (left - n) (filled + n)) (filled_control (words_from n s) c) (sets f filled (words_from n s))) m (drop (4 * n) s))
unfolding words_from fed_words last_of buffered stored
run_filling zero left filled c f m s hl hf hp hs = simp (sub-zero, add-zero, zero-add)
run_filling (suc n) left filled c f m s hl hf hp hs =
    let w = word_at s 0 in
    let e₁ : left - 1 - n ≡ left - suc n = omega arith in
    let e₂ : filled + 1 + n ≡ filled + suc n = omega arith in
    let e₃ : 4 + 4 * n ≡ 4 * suc n = omega arith in
    run_word (record_of (Phase.Data Register.Fdri left filled) c f) m s refl hp (omega arith)
    ∙ rw (partial_empty c hp, fills left filled c w (omega arith) (omega arith))
    (ap (after 4) (run_filling n (left - 1) (filled + 1) (filled_control (w ∷ []) c) (set f filled w) m (drop 4 s) (omega arith) (omega arith) hp (omega (arith, length-drop 4 s)))
    ∙ after_after 4 (4 * n) _
    ∙ rw (e₁, e₂, drop-drop (4 * n) 4 s, e₃, add-one filled))
