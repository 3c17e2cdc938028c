-- A turn of the load at an offset: some of the next bytes are taken, and the rest, run from what they leave, gives what all of them give.
-- By the laws of the next byte, the next word and the next words that only fill; no step changes the device number.
use Rattle.std.specs.Prelude.{◌≡◌, refl, List, [], ◌∷◌, true, false, ℕ, zero, suc, ◌+◌, ◌-◌, ◌*◌, ◌≤◌, ◌<◌, length, get_or, drop, set}
use Rattle.std.proofs.Common.{◌∙◌, ap, zero-add, add-zero, add-one, arith, drop-cons}
use Rattle.std.proofs.Math.Nat.{sub-zero}
use Rattle.std.specs.Borrow.{Bor, MutBor}
use denote.Triple.Both.{Both}
use Rattle.crc16.specs.CrcRegister.{fed_words}
use Rattle.parts.specs.Table.{length_at}
use Rattle.registers.specs.declared.Register.TheVariants as Register
use Rattle.config.specs.PhaseTests.{is_stopped, takes_words}
use Rattle.config.proofs.Laws.StaysSet.{word_keeps, byte_keeps}
use Rattle.config.specs.DataWords.{word}
use Rattle.config.specs.StreamBytes.{byte}
use Rattle.config.specs.declared.PartialWord.TheVariants as PartialWord
use Rattle.config.specs.declared.Control.{Control}
use Rattle.config.specs.declared.Transition.{Transition}
use Rattle.config.specs.declared.Phase.{Phase}
use Rattle.words.specs.WordsInBytes.{word_at, words_from, words_at}
use Rattle.words.proofs.Laws.WordReads.{four_bytes, words_next}
use Rattle.record.specs.declared.Record.{Record}
use Rattle.loader.specs.EventEffects.{buffered, stored}
use Rattle.loader.specs.Run.{after, byte_transition, record_after, memory_after, run}
use Rattle.loader.specs.Laws.Pieces.{byte_run, after_after}
use Rattle.loader.specs.Laws.WordRun.{partial_empty, word_transition, word_run}
use Rattle.loader.specs.Inner.FillWords.{last_of, filled_control, record_of, fills}

-- ---- words that only fill

-- the buffer with words kept from a place on
unfoldable pub kept_all : List ℕ → ℕ → List ℕ → List ℕ
kept_all [] at f = f
kept_all (w ∷ ws) at f = kept_all ws (at + 1) (set f at w)

filled_on : (w : ℕ) (ws : List ℕ) (c : Control) → filled_control ws (filled_control (w ∷ []) c) ≡ filled_control (w ∷ ws) c
unfolding fed_words last_of
filled_on w ws c = refl

-- ---- the next byte, and the next four

pub run_byte : (d : Record) (m s : List ℕ) (i : ℕ) → is_stopped d.phase ≡ false → i < length s
    → run d m (drop i s) ≡ after 1 (run (record_after (byte_transition d (get_or s i 0)) d) (memory_after (byte_transition d (get_or s i 0)) d m) (drop (i + 1) s))
run_byte d m s i g h = rw (add-one i, drop-cons s i 0 h) (byte_run d m (get_or s i 0) (drop (suc i) s) g)

pub run_word : (d : Record) (m s : List ℕ) (i : ℕ) → takes_words d.phase ≡ true → d.control.partial ≡ PartialWord.Zero → i + 4 ≤ length s
    → run d m (drop i s) ≡ after 4 (run (record_after (word_transition d (word_at s i)) d) (memory_after (word_transition d (word_at s i)) d m) (drop (i + 4) s))
unfolding word_at
run_word d m s i t e h = rw (four_bytes s i h) (word_run d t m (get_or s i 0) (get_or s (i + 1) 0) (get_or s (i + 2) 0) (get_or s (i + 3) 0) (drop (i + 4) s) e)

-- n words that only fill the buffer
pub run_filling : (n left filled : ℕ) (c : Control) (f m s : List ℕ) (i : ℕ)
    → n < left → filled + n < length_at c.device → c.partial ≡ PartialWord.Zero → i + 4 * n ≤ length s
    → run (record_of (Phase.Data Register.Fdri left filled) c f) m (drop i s)
    ≡ after (4 * n) (run (record_of (Phase.Data Register.Fdri (left - n) (filled + n)) (filled_control (words_at s i n) c) (kept_all (words_at s i n) filled f)) m (drop (i + 4 * n) s))
unfolding words_from kept_all fed_words last_of buffered stored
run_filling zero left filled c f m s i hl hf hp hs = simp (sub-zero, add-zero, zero-add)
run_filling (suc n) left filled c f m s i hl hf hp hs =
    let w = word_at s i in
    let e₁ : left - 1 - n ≡ left - suc n = omega arith in
    let e₂ : filled + 1 + n ≡ filled + suc n = omega arith in
    let e₃ : i + 4 + 4 * n ≡ i + 4 * suc n = omega arith in
    let e₄ : 4 + 4 * n ≡ 4 * suc n = omega arith in
    rw (words_next s i n) (run_word (record_of (Phase.Data Register.Fdri left filled) c f) m s i refl hp (omega arith)
    ∙ rw (partial_empty c hp, fills left filled c w (omega arith) (omega arith))
    (ap (after 4) (run_filling n (left - 1) (filled + 1) (filled_control (w ∷ []) c) (set f filled w) m s (i + 4) (omega arith) (omega arith) hp (omega arith))
    ∙ after_after 4 (4 * n) _
    ∙ rw (e₁, e₂, e₃, e₄)))

-- ---- a turn

-- the machine after some bytes, and how many
pub record Turned : Type 0 where
  pub phase : Phase
  pub control : Control
  pub taken : ℕ

-- n of the bytes from offset i on lead from record d and memory m to record e and memory k
pub record Turn (d : Record) (m : List ℕ) (e : Record) (k : List ℕ) (s : List ℕ) (i n : ℕ) : Type 0 where
  pub some : 1 ≤ n
  pub within : i + n ≤ length s
  pub same : e.control.device ≡ d.control.device
  pub runs : run d m (drop i s) ≡ after n (run e k (drop (i + n) s))

-- bytes or words that a caller lends: what they are at entry and at exit
abbrev Lent : Type 0
Lent = Both (Bor (List ℕ)) (Bor (List ℕ))

-- the same of what the callee may write
abbrev LentToWrite : Type 0
LentToWrite = Both (MutBor (List ℕ)) (MutBor (List ℕ))

-- the bytes taken from offset i on lead from p, c, the frame and memory m to what r holds, the frame and memory k
abbrev pub TurnsOver : Phase → Control → LentToWrite → List ℕ → List ℕ → Lent → ℕ → Turned → Type 0
TurnsOver p c frame m k bytes i r =
    Turn (record_of p c frame.entry.now) m (record_of r.phase r.control frame.exit.now) k bytes.entry.now i r.taken

-- the same over a memory that is lent
abbrev pub Turns : Phase → Control → LentToWrite → LentToWrite → Lent → ℕ → Turned → Type 0
Turns p c frame memory bytes i r = TurnsOver p c frame memory.entry.now memory.exit.now bytes i r

-- between words: the partial word is empty; a frame of the part has so many words
abbrev pub BetweenWords : Control → ℕ → Type 0
BetweenWords c words = (c.partial ≡ PartialWord.Zero) × (words ≡ length_at c.device)

module _ (p : Phase) (c : Control) (f m s : List ℕ) (i : ℕ) where
  pub byte_turn : is_stopped p ≡ false → i < length s →
      let x = byte p c (get_or s i 0) in
      Turn (record_of p c f) m (record_of x.phase x.control (buffered x.event f)) (stored (length_at c.device) x.event f m) s i 1
  byte_turn g h = record { some = omega arith; within = omega arith; same = (byte_keeps p c (get_or s i 0)).device; runs = run_byte (record_of p c f) m s i g h }

  pub word_turn : takes_words p ≡ true → c.partial ≡ PartialWord.Zero → i + 4 ≤ length s →
      let x = word p c (word_at s i) in
      Turn (record_of p c f) m (record_of x.phase x.control (buffered x.event f)) (stored (length_at c.device) x.event f m) s i 4
  word_turn t e h = record {
    some = omega arith;
    within = h;
    same = (word_keeps p c (word_at s i)).device;
    runs = rw (partial_empty c e) at (run_word (record_of p c f) m s i t e h);
  }

-- a turn of what the control machine made, by the parts of what is left
pub transition_turn : {d : Record} {m s f k : List ℕ} {i n t words : ℕ} {x y : Transition} {p : Phase} {c : Control}
    → y ≡ x → words ≡ length_at d.control.device → (p ≡ y.phase) × (c ≡ y.control) × (t ≡ n)
    → f ≡ buffered y.event d.frame → k ≡ stored words y.event d.frame m
    → Turn d m (record_after x d) (memory_after x d m) s i n → Turn d m (record_of p c f) k s i t
transition_turn ey ew r ef ek h = rw (ef, ek, r.0, r.1, r.2, ey, ew) h

pub fill_turn : (n left filled : ℕ) (c : Control) (f m s : List ℕ) (i : ℕ)
    → 1 ≤ n → n < left → filled + n < length_at c.device → c.partial ≡ PartialWord.Zero → i + 4 * n ≤ length s
    → Turn (record_of (Phase.Data Register.Fdri left filled) c f) m
    (record_of (Phase.Data Register.Fdri (left - n) (filled + n)) (filled_control (words_at s i n) c) (kept_all (words_at s i n) filled f)) m s i (4 * n)
fill_turn n left filled c f m s i h hl hf e hs = record { some = omega arith; within = hs; same = refl; runs = run_filling n left filled c f m s i hl hf e hs }
