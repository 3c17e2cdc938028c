-- A stop leaves the control state as it was, with an emptied partial word; only at stop 8 the CRC register has the word fed.
-- By the cases of each definition: a transition either goes on or is a stop over the state that it is to leave.
use Rattle.std.specs.Prelude.{◌≡◌, false, ℕ, ◌+◌, eqb, leb, ltb, Option, Some, None}
use Rattle.std.proofs.Common.{◌∙◌, sym, ap}
use Rattle.std.proofs.Math.Path.{refl}
use Rattle.std.proofs.lemmas.Bool.{false≢true}
use Rattle.crc16.specs.CrcRegister.{feed}
use Rattle.parts.specs.Laws.Cases.{either}
use Rattle.parts.specs.Table.{idcode_at, length_at}
use Rattle.registers.specs.RegisterAddresses.{is_fdri, register_at}
use Rattle.registers.specs.CommandCodes.{DESYNC, last_command}
use Rattle.config.specs.PhaseTests.{is_stopped}
use Rattle.config.specs.RegisterWrites.{with_crc}
use Rattle.config.specs.ControlState.{with_registers, with_partial, transition, stopped}
use Rattle.config.specs.PacketHeaders.{ready, counted, begin, type_one_write, obeyed, packet}
use Rattle.config.specs.Commands.{command_phase, acted}
use Rattle.config.specs.DataWords.{ended, onward, checked, crc_word, far_word, cmd_word, frame_stored, fdri_word, mfwr_stored, mfwr_word, idcode_word, flr_word, data_word, word}
use Rattle.words.specs.WordsInBytes.{word_of}
use Rattle.config.specs.StreamBytes.{is_sync, hunted, gathered, byte}
use Rattle.registers.specs.declared.Register.{Register}
use Rattle.config.specs.declared.PacketHeader.{PacketHeader}
use Rattle.config.specs.declared.PartialWord.{PartialWord}
use Rattle.config.specs.declared.Control.{Control}
use Rattle.config.specs.declared.Phase.{Phase}
use Rattle.answers.specs.declared.Stop.{Stop}
use Rattle.config.specs.declared.Event.{Event}
use Rattle.config.specs.declared.Transition.{Transition}

-- 01: "with nothing in the record changed ... Only at 8 it is fed first, and the CRC stays as it then is"
abbrev pub left_at : Stop → Control → ℕ → Control
left_at Stop.BadHeader c w = c
left_at Stop.BadRegister c w = c
left_at Stop.ReadOperation c w = c
left_at Stop.WrongIdcode c w = c
left_at Stop.WrongFrameLength c w = c
left_at Stop.NotReady c w = c
left_at Stop.WrongCount c w = c
left_at Stop.CrcMismatch c w = with_registers (with_crc (feed c.registers.crc 0 w) c.registers) c
left_at Stop.NoCurrentFrame c w = c
left_at Stop.UnknownCommand c w = c

-- the partial word has no bearing on what a stop leaves
pub left_partial : (s : Stop) (b : PartialWord) (c : Control) (w : ℕ) → left_at s (with_partial b c) w ≡ with_partial b (left_at s c w)
left_partial Stop.BadHeader b c w = refl
left_partial Stop.BadRegister b c w = refl
left_partial Stop.ReadOperation b c w = refl
left_partial Stop.WrongIdcode b c w = refl
left_partial Stop.WrongFrameLength b c w = refl
left_partial Stop.NotReady b c w = refl
left_partial Stop.WrongCount b c w = refl
left_partial Stop.CrcMismatch b c w = refl
left_partial Stop.NoCurrentFrame b c w = refl
left_partial Stop.UnknownCommand b c w = refl

-- not stopped
abbrev Running : Phase → Type 0
Running p = is_stopped p ≡ false

-- ---- phases that go on

pub ended_runs : (r : Register) → is_stopped (ended r) ≡ false
unfolding ended
ended_runs r = either Running (is_fdri r) (λ h. refl) (λ h. refl)

pub onward_runs : (r : Register) (left filled : ℕ) → is_stopped (onward r left filled) ≡ false
unfolding onward
onward_runs r left filled = either Running (leb left 1) (λ h. ended_runs r) (λ h. refl)

pub after_runs : (k : ℕ) (p : Phase) → is_stopped p ≡ false → is_stopped (command_phase k p) ≡ false
unfolding command_phase
after_runs k p g = either Running (eqb k DESYNC) (λ h. refl) (λ h. g)

-- ---- words

module _ (c : Control) (w : ℕ) where
  -- a step that, if it stops, stops so
  abbrev pub Stopping : Transition → Type 0
  Stopping f = (s : Stop) → f.phase ≡ Phase.Stopped s → f ≡ stopped s (left_at s c w)

  stops : (t : Stop) → Stopping (stopped t (left_at t c w))
  stops t s e = let same : t ≡ s = cc in ap (λ (u : Stop). stopped u (left_at u c w)) same

  goes : (p : Phase) (d : Control) (e : Event) → is_stopped p ≡ false → Stopping (transition p d e)
  goes p d e g s k = absurd (false≢true (sym (rw k at g)))

  begin_stops : (r : Register) (n : ℕ) → Stopping (begin r n c)
  unfolding begin
  begin_stops r n =
      either Stopping (ready r c)
      (λ h. either Stopping (counted r (length_at c.device) n) (λ h. goes _ _ _ refl) (λ h. stops Stop.WrongCount))
      (λ h. stops Stop.NotReady)

  one_stops : (o : Option Register) (n : ℕ) → Stopping (type_one_write o n c)
  unfolding type_one_write
  one_stops None n = stops Stop.BadRegister
  one_stops (Some r) n = either Stopping (eqb n 0) (λ h. goes _ _ _ refl) (λ h. begin_stops r n)

  obeyed_stops : (k : PacketHeader) → Stopping (obeyed k c)
  unfolding obeyed
  obeyed_stops PacketHeader.Idle = goes _ _ _ refl
  obeyed_stops PacketHeader.Bad = stops Stop.BadHeader
  obeyed_stops PacketHeader.Read = stops Stop.ReadOperation
  obeyed_stops (PacketHeader.Write a n) = one_stops (register_at a) n
  obeyed_stops (PacketHeader.LongWrite r n) = either Stopping (eqb n 0) (λ h. goes _ _ _ refl) (λ h. begin_stops r n)

  crc_stops : (p : Phase) → is_stopped p ≡ false → Stopping (crc_word p c w)
  unfolding checked
  crc_stops p g = either Stopping (eqb (feed c.registers.crc 0 w) 0) (λ h. goes p _ _ g) (λ h. stops Stop.CrcMismatch)

  acted_stops : (k : ℕ) (p : Phase) (d : Control) → is_stopped p ≡ false → Stopping (acted k p d)
  unfolding acted
  acted_stops k p d g = goes (command_phase k p) _ _ (after_runs k p g)

  stored_stops : (n : Option ℕ) (left filled : ℕ) → Stopping (frame_stored n left filled c w)
  unfolding frame_stored
  stored_stops (Some n) left filled = goes _ _ _ refl
  stored_stops None left filled = stops Stop.NoCurrentFrame

  fdri_stops : (left filled : ℕ) → Stopping (fdri_word left filled c w)
  unfolding fdri_word
  fdri_stops left filled =
      either Stopping (leb left 1) (λ h. goes _ _ _ (ended_runs Register.Fdri))
      (λ h. either Stopping (ltb (filled + 1) (length_at c.device)) (λ h. goes _ _ _ refl) (λ h. stored_stops c.current left filled))

  second_stops : (n : Option ℕ) → Stopping (mfwr_stored n c w)
  unfolding mfwr_stored
  second_stops (Some n) = goes _ _ _ (ended_runs Register.Mfwr)
  second_stops None = stops Stop.NoCurrentFrame

  pub data_stops : (r : Register) (left filled : ℕ) → Stopping (data_word r left filled c w)
  unfolding data_word far_word cmd_word mfwr_word flr_word idcode_word
  data_stops Register.Crc left filled = crc_stops _ (onward_runs Register.Crc left filled)
  data_stops Register.Far left filled = acted_stops _ _ _ (onward_runs Register.Far left filled)
  data_stops Register.Fdri left filled = fdri_stops left filled
  data_stops Register.Cmd left filled = either Stopping (ltb last_command w) (λ h. stops Stop.UnknownCommand) (λ h. acted_stops _ _ _ (onward_runs Register.Cmd left filled))
  data_stops Register.Ctl left filled = goes _ _ _ (onward_runs Register.Ctl left filled)
  data_stops Register.Mask left filled = goes _ _ _ (onward_runs Register.Mask left filled)
  data_stops Register.Lout left filled = goes _ _ _ (onward_runs Register.Lout left filled)
  data_stops Register.Cor left filled = goes _ _ _ (onward_runs Register.Cor left filled)
  data_stops Register.Mfwr left filled = either Stopping (leb left 1) (λ h. second_stops c.current) (λ h. goes _ _ _ refl)
  data_stops Register.Flr left filled = either Stopping (eqb (w + 1) (length_at c.device)) (λ h. goes _ _ _ (onward_runs Register.Flr left filled)) (λ h. stops Stop.WrongFrameLength)
  data_stops Register.Idcode left filled = either Stopping (eqb w (idcode_at c.device)) (λ h. goes _ _ _ (onward_runs Register.Idcode left filled)) (λ h. stops Stop.WrongIdcode)

-- a word that stops the machine
pub word_stops : (p : Phase) (c : Control) (w : ℕ) → is_stopped p ≡ false → (s : Stop) → (word p c w).phase ≡ Phase.Stopped s
    → word p c w ≡ stopped s (left_at s c w)
unfolding word
word_stops (Phase.Hunting b) c w g = goes c w _ _ _ refl
word_stops (Phase.Header o) c w g = obeyed_stops c w (packet o w)
word_stops (Phase.Data r left filled) c w g = data_stops c w r left filled
word_stops Phase.Crc c w g = crc_stops c w _ refl
word_stops (Phase.Stopped t) c w g = absurd (false≢true (sym g))

-- ---- bytes

-- hunting never stops
pub hunting_runs : (b : PartialWord) (c : Control) (x : ℕ) → is_stopped (byte (Phase.Hunting b) c x).phase ≡ false
unfolding byte hunted
hunting_runs PartialWord.Zero c x = refl
hunting_runs (PartialWord.One a) c x = refl
hunting_runs (PartialWord.Two a b) c x = refl
hunting_runs (PartialWord.Three a b d) c x = either Running (is_sync a b d x) (λ h. refl) (λ h. refl)

-- 01: "A stopped device takes nothing"
pub stopped_stays : (s : Stop) (c : Control) (x : ℕ) → byte (Phase.Stopped s) c x ≡ transition (Phase.Stopped s) c Event.Nothing
unfolding byte
stopped_stays s c x = refl

-- the byte x ended the bad word, after three others
pub record EndsBadWord (p : Phase) (c : Control) (x : ℕ) (s : Stop) : Type 0 where
  pub first : ℕ
  pub second : ℕ
  pub third : ℕ
  pub before : c.partial ≡ PartialWord.Three first second third
  pub left : byte p c x ≡ stopped s (left_at s c (word_of first second third x))

gathered_stops : (b : PartialWord) (p : Phase) (c : Control) (x : ℕ) → is_stopped p ≡ false → c.partial ≡ b → byte p c x ≡ gathered b p c x
    → (s : Stop) → (gathered b p c x).phase ≡ Phase.Stopped s → EndsBadWord p c x s
unfolding gathered
gathered_stops PartialWord.Zero p c x g k e s q = absurd (false≢true (sym (rw q at g)))
gathered_stops (PartialWord.One a) p c x g k e s q = absurd (false≢true (sym (rw q at g)))
gathered_stops (PartialWord.Two a b) p c x g k e s q = absurd (false≢true (sym (rw q at g)))
gathered_stops (PartialWord.Three a b d) p c x g k e s q = record { first = a; second = b; third = d; before = k; left = e ∙ word_stops p (with_partial PartialWord.Zero c) (word_of a b d x) g s q ∙ ap (stopped s) (left_partial s PartialWord.Zero c (word_of a b d x)) }

-- a byte that stops the machine
pub byte_stops : (p : Phase) (c : Control) (x : ℕ) → is_stopped p ≡ false → (s : Stop) → (byte p c x).phase ≡ Phase.Stopped s → EndsBadWord p c x s
unfolding byte
byte_stops (Phase.Hunting b) c x g = λ s q. absurd (false≢true (sym (rw q at (hunting_runs b c x))))
byte_stops (Phase.Header o) c x g = gathered_stops c.partial _ c x refl refl refl
byte_stops (Phase.Data r left filled) c x g = gathered_stops c.partial _ c x refl refl refl
byte_stops Phase.Crc c x g = gathered_stops c.partial _ c x refl refl refl
byte_stops (Phase.Stopped t) c x g = absurd (false≢true (sym g))
