-- No word and no byte changes the device number, or clears started, buffer_valid, idcode_ok or flr_ok.
-- By the cases of each definition: every transition leaves the device number and either leaves the four flags or sets one of them.
use Rattle.std.specs.Prelude.{◌≡◌, refl, Bool, true, cond, ◌||◌, ℕ, ◌+◌, eqb, leb, ltb, Option, Some, None}
use Rattle.std.proofs.Common.{◌∙◌, ap}
use Rattle.parts.specs.Laws.Cases.{either}
use Rattle.parts.specs.Table.{idcode_at, length_at}
use Rattle.registers.specs.RegisterAddresses.{same, register_at}
use Rattle.registers.specs.CommandCodes.{DESYNC, last_command}
use Rattle.config.specs.ControlState.{with_partial, raised}
use Rattle.config.specs.PacketHeaders.{ready, counted, begin, type_one_write, obeyed, packet, header_word}
use Rattle.config.specs.Commands.{signalled, acted}
use Rattle.config.specs.DataWords.{checked, far_word, cmd_word, frame_stored, fdri_word, mfwr_stored, mfwr_word, idcode_word, flr_word, data_word, word}
use Rattle.words.specs.WordsInBytes.{word_of}
use Rattle.config.specs.StreamBytes.{gathered, byte}
use Rattle.registers.specs.declared.Register.{Register}
use Rattle.config.specs.declared.PacketHeader.{PacketHeader}
use Rattle.config.specs.declared.PartialWord.{PartialWord}
use Rattle.config.specs.declared.Flags.{Flags}
use Rattle.config.specs.declared.Control.{Control}
use Rattle.config.specs.declared.Phase.{Phase}
use Rattle.config.specs.declared.Event.TheVariants as Event
use Rattle.config.specs.declared.Transition.{Transition}

-- the four flags that stay set; the others (ghigh, start_pending, check_passed) are free, so flags that differ in these alone have grown
abbrev pub Grown : Flags → Flags → Type 0
Grown f g = record {
  started : f.started ≡ true → g.started ≡ true;
  buffer_valid : f.buffer_valid ≡ true → g.buffer_valid ≡ true;
  idcode_ok : f.idcode_ok ≡ true → g.idcode_ok ≡ true;
  flr_ok : f.flr_ok ≡ true → g.flr_ok ≡ true;
}

pub grown_refl : (f : Flags) → Grown f f
grown_refl f = record { started = λ h. h; buffer_valid = λ h. h; idcode_ok = λ h. h; flr_ok = λ h. h }

pub grown_trans : (f g k : Flags) → Grown f g → Grown g k → Grown f k
grown_trans f g k a b = record {
  started = λ h. b.started (a.started h);
  buffer_valid = λ h. b.buffer_valid (a.buffer_valid h);
  idcode_ok = λ h. b.idcode_ok (a.idcode_ok h);
  flr_ok = λ h. b.flr_ok (a.flr_ok h);
}

-- what every step keeps of the control state
abbrev pub StaysSet : Control → Control → Type 0
StaysSet c d = record { device : d.device ≡ c.device; flags : Grown c.flags d.flags }

pub stays_refl : (c : Control) → StaysSet c c
stays_refl c = record { device = refl; flags = grown_refl c.flags }

pub stays_trans : (c d e : Control) → StaysSet c d → StaysSet d e → StaysSet c e
stays_trans c d e a b = record { device = b.device ∙ a.device; flags = grown_trans c.flags d.flags e.flags a.flags b.flags }

-- ---- commands

or_left : (a b : Bool) → a ≡ true → (a || b) ≡ true
or_left a b h = rw h

pub signalled_grown : (k : ℕ) (f : Flags) → Grown f (signalled k f)
unfolding signalled
signalled_grown k f = record {
  started = λ h. either (λ (b : Bool). b ≡ true) (eqb k DESYNC) (λ e. or_left _ _ h) (λ e. h);
  buffer_valid = λ h. h;
  idcode_ok = λ h. h;
  flr_ok = λ h. h;
}

pub acted_keeps : (k : ℕ) (p : Phase) (c : Control) → StaysSet c (acted k p c).control
unfolding acted
acted_keeps k p c = record { device = refl; flags = signalled_grown k c.flags }

-- ---- words

set_stays : (t a : Bool) → a ≡ true → cond t true a ≡ true
set_stays t a h = either (λ (b : Bool). b ≡ true) t (λ e. refl) (λ e. h)

pub raised_grown : (r : Register) (f : Flags) → Grown f (raised r f)
unfolding raised
raised_grown r f = record { started = λ h. h; buffer_valid = set_stays (same Register.Fdri r) _; idcode_ok = set_stays (same Register.Idcode r) _; flr_ok = set_stays (same Register.Flr r) _ }

module _ (c : Control) where
  abbrev Keeping : Transition → Type 0
  Keeping f = StaysSet c f.control

  -- a header word changes only the phase, and the partial word where it stops
  abbrev pub Plain : Transition → Type 0
  Plain f = (with_partial PartialWord.Zero f.control ≡ with_partial PartialWord.Zero c) × (f.event ≡ Event.Nothing)

  begin_plain : (r : Register) (n : ℕ) → Plain (begin r n c)
  unfolding begin
  begin_plain r n = either Plain (ready r c) (λ h. either Plain (counted r (length_at c.device) n) (λ h. (refl, refl)) (λ h. (refl, refl))) (λ h. (refl, refl))

  one_plain : (o : Option Register) (n : ℕ) → Plain (type_one_write o n c)
  unfolding type_one_write
  one_plain None n = (refl, refl)
  one_plain (Some r) n = either Plain (eqb n 0) (λ h. (refl, refl)) (λ h. begin_plain r n)

  obeyed_plain : (k : PacketHeader) → Plain (obeyed k c)
  unfolding obeyed
  obeyed_plain PacketHeader.Idle = (refl, refl)
  obeyed_plain PacketHeader.Bad = (refl, refl)
  obeyed_plain PacketHeader.Read = (refl, refl)
  obeyed_plain (PacketHeader.Write a n) = one_plain (register_at a) n
  obeyed_plain (PacketHeader.LongWrite r n) = either Plain (eqb n 0) (λ h. (refl, refl)) (λ h. begin_plain r n)

  pub header_plain : (o : Option Register) (w : ℕ) → Plain (header_word o c w)
  header_plain o w = obeyed_plain (packet o w)

  pub header_keeps : (o : Option Register) (w : ℕ) → StaysSet c (header_word o c w).control
  header_keeps o w =
      let e = (header_plain o w).0 in
      record { device = ap (λ (k : Control). k.device) e; flags = rw (ap (λ (k : Control). k.flags) e) (grown_refl c.flags) }

  crc_keeps : (v : ℕ) (p : Phase) → Keeping (checked v p c)
  unfolding checked
  crc_keeps v p = either Keeping (eqb v 0) (λ h. record { device = refl; flags = raised_grown Register.Crc c.flags }) (λ h. stays_refl c)

  stored_keeps : (n : Option ℕ) (left filled w : ℕ) → Keeping (frame_stored n left filled c w)
  unfolding frame_stored
  stored_keeps (Some n) left filled w = stays_refl c
  stored_keeps None left filled w = stays_refl c

  fdri_keeps : (left filled w : ℕ) → Keeping (fdri_word left filled c w)
  unfolding fdri_word
  fdri_keeps left filled w =
      either Keeping (leb left 1) (λ h. record { device = refl; flags = raised_grown Register.Fdri c.flags })
      (λ h. either Keeping (ltb (filled + 1) (length_at c.device)) (λ h. stays_refl c) (λ h. stored_keeps c.current left filled w))

  second_keeps : (n : Option ℕ) (w : ℕ) → Keeping (mfwr_stored n c w)
  unfolding mfwr_stored
  second_keeps (Some n) w = stays_refl c
  second_keeps None w = stays_refl c

  pub data_keeps : (r : Register) (left filled w : ℕ) → StaysSet c (data_word r left filled c w).control
  unfolding data_word far_word cmd_word mfwr_word flr_word idcode_word
  data_keeps Register.Crc left filled w = crc_keeps _ _
  data_keeps Register.Far left filled w = acted_keeps c.registers.cmd _ _
  data_keeps Register.Fdri left filled w = fdri_keeps left filled w
  data_keeps Register.Cmd left filled w = either Keeping (ltb last_command w) (λ h. stays_refl c) (λ h. acted_keeps w _ _)
  data_keeps Register.Ctl left filled w = stays_refl c
  data_keeps Register.Mask left filled w = stays_refl c
  data_keeps Register.Lout left filled w = stays_refl c
  data_keeps Register.Cor left filled w = stays_refl c
  data_keeps Register.Mfwr left filled w = either Keeping (leb left 1) (λ h. second_keeps c.current w) (λ h. stays_refl c)
  data_keeps Register.Flr left filled w =
      either Keeping (eqb (w + 1) (length_at c.device)) (λ h. record { device = refl; flags = raised_grown Register.Flr c.flags }) (λ h. stays_refl c)
  data_keeps Register.Idcode left filled w =
      either Keeping (eqb w (idcode_at c.device)) (λ h. record { device = refl; flags = raised_grown Register.Idcode c.flags }) (λ h. stays_refl c)

pub word_keeps : (p : Phase) (c : Control) (w : ℕ) → StaysSet c (word p c w).control
unfolding word
word_keeps (Phase.Hunting b) c w = stays_refl c
word_keeps (Phase.Header o) c w = header_keeps c o w
word_keeps (Phase.Data r left filled) c w = data_keeps c r left filled w
word_keeps Phase.Crc c w = crc_keeps c _ _
word_keeps (Phase.Stopped s) c w = stays_refl c

-- ---- bytes

gathered_keeps : (b : PartialWord) (p : Phase) (c : Control) (x : ℕ) → StaysSet c (gathered b p c x).control
unfolding gathered
gathered_keeps PartialWord.Zero p c x = stays_refl c
gathered_keeps (PartialWord.One a) p c x = stays_refl c
gathered_keeps (PartialWord.Two a b) p c x = stays_refl c
gathered_keeps (PartialWord.Three a b d) p c x = word_keeps p (with_partial PartialWord.Zero c) (word_of a b d x)

pub byte_keeps : (p : Phase) (c : Control) (x : ℕ) → StaysSet c (byte p c x).control
unfolding byte
byte_keeps (Phase.Hunting b) c x = stays_refl c
byte_keeps (Phase.Header o) c x = gathered_keeps c.partial _ c x
byte_keeps (Phase.Data r left filled) c x = gathered_keeps c.partial _ c x
byte_keeps Phase.Crc c x = gathered_keeps c.partial _ c x
byte_keeps (Phase.Stopped s) c x = stays_refl c
