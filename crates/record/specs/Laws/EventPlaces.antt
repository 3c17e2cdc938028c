-- An event is FDRI's word, kept at the next place, or a store at the current frame; from a consistent state the place is under L, the frame under F.
-- By the cases of each definition, with the phase and the current frame that the word met; then by the items of consistency.
use Rattle.std.specs.Prelude.{◌≡◌, true, ℕ, ◌+◌, ◌<◌, eqb, leb, ltb, Option, Some, None}
use Rattle.std.proofs.Math.Path.{refl}
use Rattle.std.proofs.Math.Bool.{and-eq-true_iff}
use Rattle.std.proofs.Common.{arith, ltb-true}
use Rattle.crc16.specs.CrcRegister.{feed}
use Rattle.parts.specs.Laws.Cases.{either}
use Rattle.parts.specs.Table.{idcode_at, length_at, count_at}
use Rattle.parts.proofs.Laws.Figures.{figures}
use Rattle.registers.specs.RegisterAddresses.{address_of}
use Rattle.registers.specs.CommandCodes.{last_command}
use Rattle.config.specs.ControlState.{with_partial}
use Rattle.config.specs.PacketHeaders.{header_word}
use Rattle.config.specs.Commands.{acted}
use Rattle.config.specs.DataWords.{checked, crc_word, far_word, cmd_word, frame_stored, fdri_word, mfwr_stored, mfwr_word, idcode_word, flr_word, data_word, word}
use Rattle.words.specs.WordsInBytes.{word_of}
use Rattle.config.specs.StreamBytes.{gathered, byte}
use Rattle.record.specs.Consistency.{current_fits, data_fits, phase_fits, consistent}
use Rattle.config.proofs.Laws.StaysSet.{header_plain}
use Rattle.record.specs.Laws.StaysConsistent.{Consistent, to_items, to_filling, partial_fine}
use Rattle.registers.specs.declared.Register.{Register}
use Rattle.config.specs.declared.PartialWord.{PartialWord}
use Rattle.config.specs.declared.Control.{Control}
use Rattle.config.specs.declared.Phase.{Phase}
use Rattle.config.specs.declared.Event.{Event}
use Rattle.config.specs.declared.Transition.{Transition}

pub header_quiet : (o : Option Register) (c : Control) (w : ℕ) → (header_word o c w).event ≡ Event.Nothing
header_quiet o c w = (header_plain c o w).1

-- ---- where an event comes from: the phase that the word met, and the current frame before it

abbrev pub Asked : Phase → Control → ℕ → Event → Type 0
Asked p c w Event.Nothing = Unit {0}
Asked p c w (Event.Keep at v) = (left : ℕ) × (p ≡ Phase.Data Register.Fdri left at) × (v ≡ w)
Asked p c w (Event.KeepAndStore at v n) = (left : ℕ) × (p ≡ Phase.Data Register.Fdri left at) × (v ≡ w) × (c.current ≡ Some n)
Asked p c w (Event.Store n) = (left filled : ℕ) × (p ≡ Phase.Data Register.Mfwr left filled) × (c.current ≡ Some n)

module _ (c : Control) (w : ℕ) where
  abbrev Asks : Phase → Transition → Type 0
  Asks p f = Asked p c w f.event

  crc_asked : (p q : Phase) → Asks p (crc_word q c w)
  unfolding checked
  crc_asked p q = either (Asks p) (eqb (feed c.registers.crc 0 w) 0) (λ t. tt) (λ t. tt)

  stored_asked : (q : Option ℕ) → c.current ≡ q → (left filled : ℕ) → Asks (Phase.Data Register.Fdri left filled) (frame_stored q left filled c w)
  unfolding frame_stored
  stored_asked (Some n) e left filled = (left, refl, refl, e)
  stored_asked None e left filled = tt

  second_asked : (q : Option ℕ) → c.current ≡ q → (left filled : ℕ) → Asks (Phase.Data Register.Mfwr left filled) (mfwr_stored q c w)
  unfolding mfwr_stored
  second_asked (Some n) e left filled = (left, filled, refl, e)
  second_asked None e left filled = tt

  data_asked : (r : Register) (left filled : ℕ) → Asks (Phase.Data r left filled) (data_word r left filled c w)
  unfolding data_word far_word cmd_word fdri_word mfwr_word flr_word idcode_word acted
  data_asked Register.Crc left filled = crc_asked _ _
  data_asked Register.Far left filled = tt
  data_asked Register.Fdri left filled =
      either (Asks (Phase.Data Register.Fdri left filled)) (leb left 1) (λ t. (left, refl, refl))
      (λ t. either (Asks (Phase.Data Register.Fdri left filled)) (ltb (filled + 1) (length_at c.device)) (λ t. (left, refl, refl)) (λ t. stored_asked c.current refl left filled))
  data_asked Register.Cmd left filled = either (Asks (Phase.Data Register.Cmd left filled)) (ltb last_command w) (λ t. tt) (λ t. tt)
  data_asked Register.Ctl left filled = tt
  data_asked Register.Mask left filled = tt
  data_asked Register.Lout left filled = tt
  data_asked Register.Cor left filled = tt
  data_asked Register.Mfwr left filled = either (Asks (Phase.Data Register.Mfwr left filled)) (leb left 1) (λ t. second_asked c.current refl left filled) (λ t. tt)
  data_asked Register.Flr left filled = either (Asks (Phase.Data Register.Flr left filled)) (eqb (w + 1) (length_at c.device)) (λ t. tt) (λ t. tt)
  data_asked Register.Idcode left filled = either (Asks (Phase.Data Register.Idcode left filled)) (eqb w (idcode_at c.device)) (λ t. tt) (λ t. tt)

pub word_asked : (p : Phase) (c : Control) (w : ℕ) → Asked p c w (word p c w).event
unfolding word
word_asked (Phase.Hunting b) c w = tt
word_asked (Phase.Header o) c w = rw (header_quiet o c w) tt
word_asked (Phase.Data r left filled) c w = data_asked c w r left filled
word_asked Phase.Crc c w = crc_asked c w _ _
word_asked (Phase.Stopped s) c w = tt

-- ---- from a consistent state

-- a place of the frame buffer: under L, and so one of the 213 words of the frame in hand
abbrev pub Place : Control → ℕ → Type 0
Place c at = record { below : at < length_at c.device; room : at < 213 }

-- the frame to store at
abbrev pub Target : Control → ℕ → Type 0
Target c n = record { current : c.current ≡ Some n; inside : n < count_at c.device }

abbrev pub EventFits : Control → Event → Type 0
EventFits c Event.Nothing = Unit {0}
EventFits c (Event.Keep at w) = Place c at
EventFits c (Event.KeepAndStore at w n) = record { place : Place c at; target : Target c n }
EventFits c (Event.Store n) = record { target : Target c n; buffer_valid : c.flags.buffer_valid ≡ true }

place : (p : Phase) (c : Control) (left at : ℕ) → Consistent p c → p ≡ Phase.Data Register.Fdri left at → Place c at
place p c left at k e =
    let f = to_filling left at c (rw e at k.phase) in
    record { below = f.below; room = omega (arith, f.below, (figures c.device k.state.device).length_limit) }

target : (p : Phase) (c : Control) (n : ℕ) → Consistent p c → c.current ≡ Some n → Target c n
unfolding current_fits
target p c n k e = record { current = e; inside = ltb-true _ _ (rw e at k.state.current) }

buffer_valid : (p : Phase) (c : Control) (left filled : ℕ) → Consistent p c → p ≡ Phase.Data Register.Mfwr left filled → c.flags.buffer_valid ≡ true
unfolding phase_fits data_fits address_of
buffer_valid p c left filled k e = (simp and-eq-true_iff at (rw e at k.phase)).1.1

placed : (p : Phase) (c : Control) (w : ℕ) (e : Event) → Consistent p c → Asked p c w e → EventFits c e
placed p c w Event.Nothing k a = tt
placed p c w (Event.Keep at v) k a = place p c a.0 at k a.1
placed p c w (Event.KeepAndStore at v n) k a = record { place = place p c a.0 at k a.1; target = target p c n k a.3 }
placed p c w (Event.Store n) k a = record { target = target p c n k a.3; buffer_valid = buffer_valid p c a.0 a.1 k a.2 }

word_fits : (p : Phase) (c : Control) (w : ℕ) → Consistent p c → EventFits c (word p c w).event
word_fits p c w k = placed p c w (word p c w).event k (word_asked p c w)

pub word_placed : (p : Phase) (c : Control) (w : ℕ) → consistent p c ≡ true → EventFits c (word p c w).event
word_placed p c w t = word_fits p c w (to_items p c t)

-- ---- bytes

-- the partial word has no bearing on what an event asks
partial_placed : (b : PartialWord) (c : Control) (e : Event) → EventFits (with_partial b c) e → EventFits c e
partial_placed b c Event.Nothing h = h
partial_placed b c (Event.Keep at w) h = h
partial_placed b c (Event.KeepAndStore at w n) h = h
partial_placed b c (Event.Store n) h = h

gathered_placed : (b : PartialWord) (p : Phase) (c : Control) (x : ℕ) → Consistent p c → EventFits c (gathered b p c x).event
unfolding gathered
gathered_placed PartialWord.Zero p c x k = tt
gathered_placed (PartialWord.One a) p c x k = tt
gathered_placed (PartialWord.Two a b) p c x k = tt
gathered_placed (PartialWord.Three a b d) p c x k =
    let c' = with_partial PartialWord.Zero c in
    partial_placed PartialWord.Zero c (word p c' (word_of a b d x)).event (word_fits p c' (word_of a b d x) (partial_fine p PartialWord.Zero c k))

pub byte_placed : (p : Phase) (c : Control) (x : ℕ) → consistent p c ≡ true → EventFits c (byte p c x).event
unfolding byte
byte_placed (Phase.Hunting b) c x t = tt
byte_placed (Phase.Header o) c x t = gathered_placed c.partial _ c x (to_items _ c t)
byte_placed (Phase.Data r left filled) c x t = gathered_placed c.partial _ c x (to_items _ c t)
byte_placed Phase.Crc c x t = gathered_placed c.partial _ c x (to_items _ c t)
byte_placed (Phase.Stopped s) c x t = tt
