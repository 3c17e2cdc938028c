-- A byte leads from a record of which its image loses nothing to such a record: the image holds all that is remembered between two bytes.
-- By the cases of each definition: a whole word empties the partial word, registers take words of 32 bits, and only FDRI's data counts the words filled.
use Rattle.std.specs.Prelude.{◌≡◌, refl, List, Bool, true, false, cond, ℕ, ◌+◌, ◌-◌, ◌^◌, ◌<◌, eqb, leb, ltb, length, Option, Some, None}
use Rattle.std.proofs.Common.{sym, ap, arith, ne_eqb, leb-true, ltb-true}
use Rattle.std.proofs.Math.Bool.{and-eq-true_iff}
use Rattle.std.specs.Int.Bits.{bit_and}
use Rattle.std.proofs.lemmas.Nat.{and_le_l, or_lt}
use Rattle.crc16.specs.CrcRegister.{feed}
use Rattle.crc16.specs.Laws.CrcBounds.{feed_lt}
use Rattle.parts.specs.Laws.Cases.{either}
use Rattle.words.specs.WordsInBytes.{word_of}
use Rattle.words.specs.Laws.ByteLists.{AreWords}
use Rattle.parts.specs.Table.{idcode_at, length_at, count_at}
use Rattle.parts.proofs.Laws.Figures.{length_fits, count_fits}
use Rattle.registers.specs.RegisterAddresses.{address_of, is_fdri, is_lout, register_at}
use Rattle.config.specs.RegisterWrites.{masked, hold, fed_crc, written}
use Rattle.registers.specs.CommandCodes.{RCRC, last_command}
use Rattle.config.specs.ControlState.{with_partial, stopped}
use Rattle.config.specs.PacketHeaders.{ready, counted, begin, type_one_write, obeyed, packet}
use Rattle.config.specs.Commands.{command_crc, command_phase, acted}
use Rattle.config.specs.DataWords.{ended, onward, checked, crc_word, far_word, cmd_word, frame_stored, fdri_word, mfwr_stored, mfwr_word, idcode_word, flr_word, data_word, word}
use Rattle.config.specs.StreamBytes.{is_sync, hunted, gathered, byte}
use Rattle.record.specs.Consistency.{current_fits, data_fits, phase_fits, consistent}
use Rattle.record.specs.Laws.StaysConsistent.{to_items, byte_consistent}
use Rattle.record.specs.Laws.EventPlaces.{Asked, word_asked}
use Rattle.answers.specs.declared.Stop.{Stop}
use Rattle.registers.specs.declared.Register.{Register}
use Rattle.config.specs.declared.PacketHeader.{PacketHeader}
use Rattle.config.specs.declared.PartialWord.{PartialWord}
use Rattle.config.specs.declared.Registers.{Registers}
use Rattle.config.specs.declared.Control.{Control}
use Rattle.config.specs.declared.Phase.{Phase}
use Rattle.config.specs.declared.Event.{Event}
use Rattle.config.specs.declared.Transition.{Transition}
use Rattle.record.specs.declared.Record.{Record}
use Rattle.record_image.specs.Image.{register_words}
use Rattle.record_image.specs.Laws.KeptRecord.{PartialBytes, PhaseInRange, CurrentInRange, kept_phase, kept_partial, kept_current, Lossless}
use Rattle.record_image.specs.Laws.Remembered.{Held, Remembered, KeepsWord}

-- ---- registers

fed_small : (r : Register) (w v : ℕ) → v < 2 ^ 32 → fed_crc r w v < 2 ^ 32
unfolding fed_crc
fed_small r w v h = either (λ (n : ℕ). n < 2 ^ 32) (is_lout r) (λ _. h) (λ _. omega (arith, feed_lt v (address_of r) w))

masked_small : (mask ctl w : ℕ) → ctl < 2 ^ 32 → w < 2 ^ 32 → masked mask ctl w < 2 ^ 32
unfolding masked
masked_small mask ctl w c h = or_lt 32 (bit_and ctl (4294967295 - mask)) (bit_and w mask) (omega (arith, and_le_l ctl (4294967295 - mask))) (omega (arith, and_le_l w mask))

written_small : (r : Register) (w : ℕ) (q : Registers) → w < 2 ^ 32 → AreWords (register_words q) → AreWords (register_words (written r w q))
unfolding hold address_of
written_small Register.Crc w q s h = (fed_small Register.Crc w q.crc h.0, h.1)
written_small Register.Far w q s h = let v = fed_small Register.Far w q.crc h.0 in omega arith
written_small Register.Fdri w q s h = let v = fed_small Register.Fdri w q.crc h.0 in omega arith
written_small Register.Cmd w q s h = let v = fed_small Register.Cmd w q.crc h.0 in omega arith
written_small Register.Ctl w q s h = let v = fed_small Register.Ctl w q.crc h.0 in let m = masked_small q.mask q.ctl w h.1.1.1.1.1.0 s in omega arith
written_small Register.Mask w q s h = let v = fed_small Register.Mask w q.crc h.0 in omega arith
written_small Register.Lout w q s h = let v = fed_small Register.Lout w q.crc h.0 in omega arith
written_small Register.Cor w q s h = let v = fed_small Register.Cor w q.crc h.0 in omega arith
written_small Register.Mfwr w q s h = let v = fed_small Register.Mfwr w q.crc h.0 in omega arith
written_small Register.Flr w q s h = let v = fed_small Register.Flr w q.crc h.0 in omega arith
written_small Register.Idcode w q s h = let v = fed_small Register.Idcode w q.crc h.0 in omega arith

-- ---- phases with an empty partial word

onward_held : (r : Register) (left filled : ℕ) → Held (Phase.Data r left filled) PartialWord.Zero → Held (onward r left filled) PartialWord.Zero
unfolding onward ended
onward_held r left filled h =
    either (λ p. Held p PartialWord.Zero) (leb left 1) (λ _. either (λ p. Held p PartialWord.Zero) (is_fdri r) (λ _. tt) (λ _. tt)) (λ _. h)

after_held : (k : ℕ) (p : Phase) → Held p PartialWord.Zero → Held (command_phase k p) PartialWord.Zero
unfolding command_phase
after_held k p h = either (λ q. Held q PartialWord.Zero) (eqb k 13) (λ _. (tt, refl)) (λ _. h)

zero_held : (r : Register) (left : ℕ) → Held (Phase.Data r left 0) PartialWord.Zero
zero_held r left = (tt, either (λ (n : ℕ). n ≡ 0) (is_fdri r) (λ _. refl) (λ _. refl))

-- ---- a whole word

-- what it leaves
record Left (f : Transition) : Type 0 where
  held : Held f.phase PartialWord.Zero
  empty : f.control.partial ≡ PartialWord.Zero
  registers : AreWords (register_words f.control.registers)

-- a command leaves the registers but for the CRC, which it can make zero
acted_left : (k : ℕ) (p : Phase) (c : Control) → Held p PartialWord.Zero → c.partial ≡ PartialWord.Zero → AreWords (register_words c.registers) → Left (acted k p c)
unfolding acted command_crc
acted_left k p c h e s = record {
  held = after_held k p h;
  empty = e;
  registers = (either (λ (n : ℕ). n < 2 ^ 32) (eqb k RCRC) (λ _. omega arith) (λ _. s.0), s.1);
}

module _ (c : Control) (empty : c.partial ≡ PartialWord.Zero) (small : AreWords (register_words c.registers)) where
  -- the phase alone changes
  plain : (p : Phase) (e : Event) → Held p PartialWord.Zero → Left (record { phase = p; control = c; event = e })
  plain p e h = record { held = h; empty = empty; registers = small }

  -- a stop empties the partial word
  stop_left : (s : Stop) → Left (stopped s c)
  stop_left s = record { held = tt; empty = refl; registers = small }

  begin_left : (r : Register) (n : ℕ) → Left (begin r n c)
  unfolding begin
  begin_left r n =
      either Left (ready r c) (λ _. either Left (counted r (length_at c.device) n) (λ _. plain _ _ (zero_held r n)) (λ _. stop_left _)) (λ _. stop_left _)

  one_left : (o : Option Register) (n : ℕ) → Left (type_one_write o n c)
  unfolding type_one_write
  one_left None n = stop_left _
  one_left (Some r) n = either Left (eqb n 0) (λ _. plain _ _ tt) (λ _. begin_left r n)

  obeyed_left : (k : PacketHeader) → Left (obeyed k c)
  unfolding obeyed
  obeyed_left PacketHeader.Idle = plain _ _ tt
  obeyed_left PacketHeader.Bad = stop_left _
  obeyed_left PacketHeader.Read = stop_left _
  obeyed_left (PacketHeader.Write a n) = one_left (register_at a) n
  obeyed_left (PacketHeader.LongWrite r n) = either Left (eqb n 0) (λ _. plain _ _ tt) (λ _. begin_left r n)

  module _ (w : ℕ) (word_small : w < 2 ^ 32) where
    crc_left : (p : Phase) → Held p PartialWord.Zero → Left (crc_word p c w)
    unfolding checked
    crc_left p h =
        let v : feed c.registers.crc 0 w < 2 ^ 32 = omega (arith, feed_lt c.registers.crc 0 w) in
        either Left (eqb (feed c.registers.crc 0 w) 0) (λ _. record { held = h; empty = empty; registers = (v, small.1) }) (λ _. record { held = tt; empty = refl; registers = (v, small.1) })

    -- the word is written to its register
    abbrev Put : Register → Type 0
    Put r = AreWords (register_words (written r w c.registers))

    put_small : (r : Register) → Put r
    put_small r = written_small r w c.registers word_small small

    stored_left : (n : Option ℕ) (left filled : ℕ) → Left (frame_stored n left filled c w)
    unfolding frame_stored address_of
    stored_left (Some n) left filled = record { held = (tt, refl); empty = empty; registers = put_small Register.Fdri }
    stored_left None left filled = stop_left _

    fdri_left : (left filled : ℕ) → Left (fdri_word left filled c w)
    unfolding fdri_word ended address_of
    fdri_left left filled =
        either Left (leb left 1) (λ _. record { held = tt; empty = empty; registers = put_small Register.Fdri })
        (λ _. either Left (ltb (filled + 1) (length_at c.device)) (λ _. record { held = (tt, refl); empty = empty; registers = put_small Register.Fdri })
        (λ _. stored_left c.current left filled))

    second_left : (n : Option ℕ) → Left (mfwr_stored n c w)
    unfolding mfwr_stored ended address_of
    second_left (Some n) = record { held = tt; empty = empty; registers = put_small Register.Mfwr }
    second_left None = stop_left _

    data_left : (r : Register) (left filled : ℕ) → Held (Phase.Data r left filled) PartialWord.Zero → Left (data_word r left filled c w)
    unfolding data_word far_word cmd_word mfwr_word flr_word idcode_word
    data_left Register.Crc left filled h = crc_left _ (onward_held Register.Crc left filled h)
    data_left Register.Far left filled h = acted_left _ _ _ (onward_held Register.Far left filled h) empty (put_small Register.Far)
    data_left Register.Fdri left filled h = fdri_left left filled
    data_left Register.Cmd left filled h = either Left (ltb last_command w) (λ _. stop_left _) (λ _. acted_left _ _ _ (onward_held Register.Cmd left filled h) empty (put_small Register.Cmd))
    data_left Register.Ctl left filled h = record { held = onward_held Register.Ctl left filled h; empty = empty; registers = put_small Register.Ctl }
    data_left Register.Mask left filled h = record { held = onward_held Register.Mask left filled h; empty = empty; registers = put_small Register.Mask }
    data_left Register.Lout left filled h = record { held = onward_held Register.Lout left filled h; empty = empty; registers = put_small Register.Lout }
    data_left Register.Cor left filled h = record { held = onward_held Register.Cor left filled h; empty = empty; registers = put_small Register.Cor }
    data_left Register.Mfwr left filled h =
        either Left (leb left 1) (λ _. second_left c.current) (λ _. record { held = h; empty = empty; registers = put_small Register.Mfwr })
    data_left Register.Flr left filled h =
        either Left (eqb (w + 1) (length_at c.device)) (λ _. record { held = onward_held Register.Flr left filled h; empty = empty; registers = put_small Register.Flr }) (λ _. stop_left _)
    data_left Register.Idcode left filled h =
        either Left (eqb w (idcode_at c.device)) (λ _. record { held = onward_held Register.Idcode left filled h; empty = empty; registers = put_small Register.Idcode }) (λ _. stop_left _)

    word_left : (p : Phase) → Held p PartialWord.Zero → Left (word p c w)
    unfolding word
    word_left (Phase.Hunting b) h = plain _ _ h
    word_left (Phase.Header o) h = obeyed_left (packet o w)
    word_left (Phase.Data r left filled) h = data_left r left filled h
    word_left Phase.Crc h = crc_left _ tt
    word_left (Phase.Stopped s) h = plain _ _ h

-- ---- a byte

-- a state after a word remembers as much
left_remembered : (f : Transition) → Left f → Remembered f.phase f.control
left_remembered f k = record { held = rw k.empty k.held; registers = k.registers }

gathered_remembered : (b : PartialWord) (p : Phase) (c : Control) (x : ℕ) → x < 2 ^ 8 → PartialBytes b → ((b : PartialWord) → PartialBytes b → Held p b)
    → AreWords (register_words c.registers) → Remembered (gathered b p c x).phase (gathered b p c x).control
unfolding gathered
gathered_remembered PartialWord.Zero p c x h k again s = record { held = again (PartialWord.One x) h; registers = s }
gathered_remembered (PartialWord.One a) p c x h k again s = record { held = again (PartialWord.Two a x) (k, h); registers = s }
gathered_remembered (PartialWord.Two a b) p c x h k again s = record { held = again (PartialWord.Three a b x) (k.0, k.1, h); registers = s }
gathered_remembered (PartialWord.Three a b d) p c x h k again s =
    left_remembered _ (word_left (with_partial PartialWord.Zero c) refl s (word_of a b d x) (omega arith) p (again PartialWord.Zero tt))

hunted_held : (b : PartialWord) (x : ℕ) → x < 2 ^ 8 → PartialBytes b → Held (hunted b x) PartialWord.Zero
unfolding hunted
hunted_held PartialWord.Zero x h k = (h, refl)
hunted_held (PartialWord.One a) x h k = ((k, h), refl)
hunted_held (PartialWord.Two a b) x h k = ((k.0, k.1, h), refl)
hunted_held (PartialWord.Three a b c) x h k = either (λ p. Held p PartialWord.Zero) (is_sync a b c x) (λ _. tt) (λ _. ((k.1, k.2, h), refl))

byte_remembered : (p : Phase) (c : Control) (x : ℕ) → x < 2 ^ 8 → Remembered p c → Remembered (byte p c x).phase (byte p c x).control
unfolding byte
byte_remembered (Phase.Hunting b) c x h k = record { held = hunted_held b x h k.held.0; registers = k.registers }
byte_remembered (Phase.Header o) c x h k = gathered_remembered c.partial _ c x h k.held (λ b s. s) k.registers
byte_remembered (Phase.Data r left filled) c x h k = gathered_remembered c.partial _ c x h k.held.0 (λ b s. (s, k.held.1)) k.registers
byte_remembered Phase.Crc c x h k = gathered_remembered c.partial _ c x h k.held (λ b s. s) k.registers
byte_remembered (Phase.Stopped s) c x h k = k

-- ---- the word that an event keeps

asked_small : (p : Phase) (c : Control) (w : ℕ) (e : Event) → w < 2 ^ 32 → Asked p c w e → KeepsWord e
asked_small p c w Event.Nothing h a = tt
asked_small p c w (Event.Keep at v) h a = rw a.2 h
asked_small p c w (Event.KeepAndStore at v n) h a = rw a.2 h
asked_small p c w (Event.Store n) h a = tt

gathered_keeps : (b : PartialWord) (p : Phase) (c : Control) (x : ℕ) → x < 2 ^ 8 → PartialBytes b → KeepsWord (gathered b p c x).event
unfolding gathered
gathered_keeps PartialWord.Zero p c x h k = tt
gathered_keeps (PartialWord.One a) p c x h k = tt
gathered_keeps (PartialWord.Two a b) p c x h k = tt
gathered_keeps (PartialWord.Three a b d) p c x h k =
    let c' = with_partial PartialWord.Zero c in
    asked_small p c' (word_of a b d x) (word p c' (word_of a b d x)).event (omega arith) (word_asked p c' (word_of a b d x))

byte_keeps : (p : Phase) (c : Control) (x : ℕ) → x < 2 ^ 8 → Remembered p c → KeepsWord (byte p c x).event
unfolding byte
byte_keeps (Phase.Hunting b) c x h k = tt
byte_keeps (Phase.Header o) c x h k = gathered_keeps c.partial _ c x h k.held
byte_keeps (Phase.Data r left filled) c x h k = gathered_keeps c.partial _ c x h k.held.0
byte_keeps Phase.Crc c x h k = gathered_keeps c.partial _ c x h k.held
byte_keeps (Phase.Stopped s) c x h k = tt

-- ---- what is remembered is what the image keeps

held_phase : (p : Phase) (b : PartialWord) → Held p b → kept_phase p ≡ p
held_phase (Phase.Hunting w) b h = refl
held_phase (Phase.Header o) b h = refl
held_phase (Phase.Data r left filled) b h = ap (Phase.Data r left) h.1
held_phase Phase.Crc b h = refl
held_phase (Phase.Stopped s) b h = refl

held_partial : (p : Phase) (b : PartialWord) → Held p b → kept_partial p b ≡ b
held_partial (Phase.Hunting w) b h = sym h.1
held_partial (Phase.Header o) b h = refl
held_partial (Phase.Data r left filled) b h = refl
held_partial Phase.Crc b h = refl
held_partial (Phase.Stopped s) b h = refl

held_bytes : (p : Phase) (b : PartialWord) → Held p b → PartialBytes b
held_bytes (Phase.Hunting w) b h = rw h.1 tt
held_bytes (Phase.Header o) b h = h
held_bytes (Phase.Data r left filled) b h = h.0
held_bytes Phase.Crc b h = h
held_bytes (Phase.Stopped s) b h = h

-- words filled are under L in FDRI's data, and 0 in the data of others
filled_small : (r : Register) (left filled : ℕ) (c : Control) → cond (is_fdri r) filled 0 ≡ filled → data_fits r left filled c ≡ true → filled < 2 ^ 32
unfolding data_fits
filled_small r left filled c e h = go (is_fdri r) refl
  where
    go : (t : Bool) → is_fdri r ≡ t → filled < 2 ^ 32
    go true f = let k = simp (f, and-eq-true_iff) at h in omega (arith, ltb-true filled (length_at c.device) k.0, length_fits c.device)
    go false f = let z : 0 ≡ filled = rw f at e in omega arith

held_range : (p : Phase) (c : Control) → Held p c.partial → phase_fits p c ≡ true → PhaseInRange p
unfolding phase_fits
held_range (Phase.Hunting w) c h f = h.0
held_range (Phase.Header o) c h f = tt
held_range (Phase.Data r left filled) c h f =
    let k = simp and-eq-true_iff at f in
    (omega (arith, leb-true left 134217727 k.0.1), filled_small r left filled c h.1 k.1)
held_range Phase.Crc c h f = tt
held_range (Phase.Stopped s) c h f = tt

-- a frame under F is none of the image's numbers for no frame
current_range : (d : ℕ) (n : Option ℕ) → current_fits d n ≡ true → CurrentInRange n
unfolding current_fits
current_range d (Some n) h = omega (arith, ltb-true n (count_at d) h, count_fits d)
current_range d None h = tt

current_whole : (d : ℕ) (n : Option ℕ) → current_fits d n ≡ true → kept_current n ≡ n
unfolding current_fits
current_whole d (Some n) h = rw (ne_eqb n 0xFFFFFFFF (λ e. omega (arith, ltb-true n (count_at d) h, count_fits d)))
current_whole d None h = refl

-- from what is remembered of a consistent record its image loses nothing
remembered_lossless : (d : Record) → consistent d.phase d.control ≡ true → Remembered d.phase d.control
    → AreWords d.frame → length d.frame ≡ 213 → Lossless d
remembered_lossless d t k words full =
    let p = d.phase in
    let c = d.control in
    let i = to_items p c t in
    record {
      range = record {
        phase = held_range p c k.held i.phase;
        device = omega (arith, i.state.device);
        registers = k.registers;
        current = current_range c.device c.current i.state.current;
        partial = held_bytes p c.partial k.held;
        frame = words;
        length = full;
      };
      whole = rw (held_phase p c.partial k.held, held_partial p c.partial k.held, current_whole c.device c.current i.state.current);
    }

-- and what its image keeps is remembered
kept_held : (p : Phase) (b : PartialWord) → PhaseInRange p → PartialBytes b → kept_phase p ≡ p → kept_partial p b ≡ b → Held p b
kept_held (Phase.Hunting w) b h s e f = (h, sym f)
kept_held (Phase.Header o) b h s e f = s
kept_held (Phase.Data r left filled) b h s e f = (s, cc)
kept_held Phase.Crc b h s e f = s
kept_held (Phase.Stopped t) b h s e f = s

lossless_remembered : (d : Record) → Lossless d → Remembered d.phase d.control
lossless_remembered d k = record {
  held = kept_held d.phase d.control.partial k.range.phase k.range.partial (ap (λ (e : Record). e.phase) k.whole) (ap (λ (e : Record). e.control.partial) k.whole);
  registers = k.range.registers;
}

-- ---- records

module _ (d : Record) (x : ℕ) (h : x < 2 ^ 8) (k : Lossless d) where
  abbrev After : Transition
  After = byte d.phase d.control x

  -- a byte taken by a consistent record, whatever words the frame buffer then holds
  pub byte_lossless : consistent d.phase d.control ≡ true → (f : List ℕ) → AreWords f → length f ≡ 213
      → Lossless (record { phase = After.phase; control = After.control; frame = f })
  byte_lossless t f words full =
      remembered_lossless _ (byte_consistent d.phase d.control x t) (byte_remembered d.phase d.control x h (lossless_remembered d k)) words full

  -- and the word that it puts there
  pub byte_keeps_word : KeepsWord After.event
  byte_keeps_word = byte_keeps d.phase d.control x h (lossless_remembered d k)
