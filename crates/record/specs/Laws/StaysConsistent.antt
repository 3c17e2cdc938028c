-- Every word and every byte from a consistent state gives a consistent state.
-- The items of consistency one by one: the four of the control state, then the phase, by the cases of each definition.
use Rattle.std.specs.Prelude.{◌≡◌, Bool, false, ◌&&◌, ℕ, ◌+◌, ◌-◌, ◌%◌, ◌≤◌, ◌<◌, eqb, ltb, Option, Some, None, Result, Ok, Err}
use Rattle.std.proofs.Common.{◌∙◌, sym, arith, zero-add}
use Rattle.std.proofs.Math.Path.{refl}
use Rattle.std.proofs.Math.Bool.{true, and-eq-true_iff}
use Rattle.std.proofs.Math.Nat.{add-mod_right}
use Rattle.std.proofs.Math.Dec.{leb}
use borrow.Author.Tests.{lt-ltb, le-leb, eq-eqb, ltb-true, ltb-false, leb-true, leb-false, eqb-true, eqb-false}
use Rattle.crc16.specs.CrcRegister.{feed}
use Rattle.crc16.specs.Laws.CrcBounds.{feed_lt}
use Rattle.parts.specs.Laws.Cases.{either}
use Rattle.parts.specs.Table.{idcode_at, length_at, count_at}
use Rattle.parts.proofs.Laws.Figures.{figures}
use Rattle.parts.specs.FrameAddress.{frame_number}
use Rattle.parts.proofs.Laws.FrameNumbers.{number_below}
use Rattle.config.specs.CurrentFrame.{current_from, named}
use Rattle.registers.specs.RegisterAddresses.{address_of, is_fdri, is_mfwr, is_lout, register_at}
use Rattle.registers.specs.CommandCodes.{RCRC, DESYNC, last_command}
use Rattle.config.specs.RegisterWrites.{with_crc, hold, fed_crc, written}
use Rattle.config.specs.ControlState.{with_registers, with_flags, with_partial, stopped}
use Rattle.config.specs.PacketHeaders.{operation, count1, type_of, type1, type2, packet, ready, counted, begin, type_one_write, obeyed}
use Rattle.config.specs.Commands.{signalled, command_crc, command_phase, acted}
use Rattle.config.specs.DataWords.{ended, onward, put, checked, crc_word, far_word, cmd_word, stepped, frame_stored, fdri_word, mfwr_stored, mfwr_word, idcode_word, flr_word, data_word, word}
use Rattle.config.specs.StreamBytes.{is_sync, hunted, gathered, byte}
use Rattle.record.specs.Consistency.{current_fits, data_fits, phase_fits, consistent}
use Rattle.registers.specs.declared.Register.{Register}
use Rattle.config.specs.declared.Registers.{Registers}
use Rattle.config.specs.declared.PacketHeader.{PacketHeader}
use Rattle.config.specs.declared.Flags.{Flags}
use Rattle.config.specs.declared.PartialWord.{PartialWord}
use Rattle.config.specs.declared.Control.{Control}
use Rattle.config.specs.declared.Phase.{Phase}
use Rattle.answers.specs.declared.Stop.{Stop}
use Rattle.config.specs.declared.Transition.{Transition}
use Rattle.answers.specs.declared.Refusal.{Refusal}

-- ---- the items, by name

abbrev pub Sound : Control → Type 0
Sound c = record {
  device : c.device ≤ 7;
  current : current_fits c.device c.current ≡ true;
  crc : c.registers.crc < 65536;
  cmd : c.registers.cmd ≤ last_command;
}

abbrev pub Consistent : Phase → Control → Type 0
Consistent p c = record { state : Sound c; phase : phase_fits p c ≡ true }

pub to_items : (p : Phase) (c : Control) → consistent p c ≡ true → Consistent p c
unfolding consistent
to_items p c t =
    let k = simp and-eq-true_iff at t in
    record {
      state = record { device = leb-true _ _ k.0.0.0.0; current = k.0.0.0.1; crc = ltb-true _ _ k.0.0.1; cmd = leb-true _ _ k.0.1 };
      phase = k.1;
    }

pub from_items : (p : Phase) (c : Control) → Consistent p c → consistent p c ≡ true
unfolding consistent
from_items p c k = simp (le-leb c.device 7 k.state.device, k.state.current, lt-ltb c.registers.crc 65536 k.state.crc, le-leb c.registers.cmd last_command k.state.cmd, k.phase)

-- a step to a consistent state
abbrev pub Fine : Transition → Type 0
Fine f = Consistent f.phase f.control

-- a phase that fits every control state
abbrev Free : Phase → Type 0
Free p = (c : Control) → phase_fits p c ≡ true

stop_fine : (t : Stop) (c : Control) → Sound c → Fine (stopped t c)
unfolding phase_fits
stop_fine t c s = record { state = s; phase = refl }

-- ---- the registers

fed_lt : (r : Register) (w v : ℕ) → v < 65536 → fed_crc r w v < 65536
unfolding fed_crc
fed_lt r w v h = either (λ (n : ℕ). n < 65536) (is_lout r) (λ t. h) (λ t. feed_lt v (address_of r) w)

written_crc : (r : Register) (w : ℕ) (q : Registers) → (written r w q).crc ≡ fed_crc r w q.crc
unfolding hold
written_crc r w q = refl

put_sound : (r : Register) (w : ℕ) (c : Control) → Sound c → (written r w c.registers).cmd ≤ last_command → Sound (put r w c)
put_sound r w c s h = record { device = s.device; current = s.current; crc = rw (written_crc r w c.registers) (fed_lt r w _ s.crc); cmd = h }

-- ---- the phase after one of the words left, of a register other than FDRI and MFWR

one_less : (left : ℕ) → leb left 1 ≡ false → leb left 134217727 ≡ true → (leb 1 (left - 1) && leb (left - 1) 134217727) ≡ true
one_less left t h = simp (le-leb 1 (left - 1) (omega (arith, leb-false left 1 t)), le-leb (left - 1) 134217727 (omega (arith, leb-true left 134217727 h)))

onward_free : (r : Register) (left filled : ℕ) (c : Control) → is_fdri r ≡ false → is_mfwr r ≡ false → phase_fits (Phase.Data r left filled) c ≡ true → Free (onward r left filled)
unfolding phase_fits data_fits onward ended
onward_free r left filled c f m h d =
    let k = simp and-eq-true_iff at h in
    either (λ (p : Phase). phase_fits p d ≡ true) (leb left 1) (λ t. simp f) (λ t. simp (one_less left t k.0.1, f, m))

-- ---- commands

after_fits : (k : ℕ) (p : Phase) (c : Control) (f : Flags) → Free p → phase_fits (command_phase k p) (with_flags (signalled k f) c) ≡ true
unfolding command_phase phase_fits signalled
after_fits k p c f g = go (eqb k DESYNC) refl
  where
    go : (t : Bool) → eqb k DESYNC ≡ t → phase_fits (command_phase k p) (with_flags (signalled k f) c) ≡ true
    go true e = rw (eqb-true k DESYNC e)
    go false e = rw e (g _)

acted_fine : (k : ℕ) (p : Phase) (c : Control) → Sound c → Free p → Fine (acted k p c)
unfolding acted command_crc
acted_fine k p c s g = record {
  state = record { device = s.device; current = s.current; crc = either (λ (n : ℕ). n < 65536) (eqb k RCRC) (λ t. omega arith) (λ t. s.crc); cmd = s.cmd };
  phase = after_fits k p (with_registers _ c) c.flags g;
}

-- ---- CRC

crc_fine : (p : Phase) (c : Control) (w : ℕ) → Sound c → Free p → Fine (crc_word p c w)
unfolding checked phase_fits
crc_fine p c w s g =
    let q : Sound (with_registers (with_crc (feed c.registers.crc 0 w) c.registers) c) = record { device = s.device; current = s.current; crc = feed_lt _ 0 w; cmd = s.cmd } in
    either Fine (eqb (feed c.registers.crc 0 w) 0) (λ t. record { state = q; phase = g _ }) (λ t. record { state = q; phase = refl })

-- ---- FDRI

-- an FDRI packet with words left, where frames have l words
pub record Filling (left filled l : ℕ) : Type 0 where
  pub low : 1 ≤ left
  pub high : left ≤ 134217727
  pub below : filled < l
  pub whole : (filled + left) % l ≡ 0

pub to_filling : (left filled : ℕ) (c : Control) → phase_fits (Phase.Data Register.Fdri left filled) c ≡ true → Filling left filled (length_at c.device)
unfolding phase_fits data_fits address_of
to_filling left filled c h =
    let k = simp and-eq-true_iff at h in
    record { low = leb-true _ _ k.0.0; high = leb-true _ _ k.0.1; below = ltb-true _ _ k.1.0; whole = eqb-true _ _ k.1.1 }

from_filling : (left filled : ℕ) (c : Control) → Filling left filled (length_at c.device) → phase_fits (Phase.Data Register.Fdri left filled) c ≡ true
unfolding phase_fits data_fits address_of
from_filling left filled c k = simp (le-leb 1 left k.low, le-leb left 134217727 k.high, lt-ltb filled (length_at c.device) k.below, eq-eqb _ 0 k.whole)

-- a word within a frame, and the last word of a frame
fill : (left filled l : ℕ) → Filling left filled l → 1 < left → filled + 1 < l → Filling (left - 1) (filled + 1) l
fill left filled l k h b = let e : filled + 1 + (left - 1) ≡ filled + left = omega arith in
    record { low = omega arith; high = omega arith; below = b; whole = rw e k.whole }

filled_up : (left filled l : ℕ) → Filling left filled l → 1 < left → l ≤ filled + 1 → Filling (left - 1) 0 l
filled_up left filled l k h b =
    let e : filled + left ≡ 0 + (left - 1) + l = omega arith in
    record { low = omega arith; high = omega arith; below = omega arith; whole = sym (add-mod_right (0 + (left - 1)) l) ∙ rw (← e) k.whole }

-- 01: the frame that an address names is under F
pub named_fits : (d a : ℕ) → d ≤ 7 → current_fits d (named d a) ≡ true
unfolding current_fits current_from
named_fits d a h = go (frame_number d a) refl
  where
    go : (q : Result (Option ℕ) Refusal) → frame_number d a ≡ q → current_fits d (current_from q) ≡ true
    go (Ok (Some n)) e = let f = figures d h in lt-ltb n (count_at d) (omega (arith, number_below d f.part a n f.known e, f.count))
    go (Ok None) e = refl
    go (Err c) e = refl

-- 01: the current frame "steps on by one (after F-1: none)"
stepped_fits : (d n : ℕ) → current_fits d (stepped d n) ≡ true
unfolding stepped current_fits
stepped_fits d n = either (λ (q : Option ℕ). current_fits d q ≡ true) (ltb (n + 1) (count_at d)) (λ t. t) (λ t. refl)

module _ (c : Control) (s : Sound c) where
  stored_fine : (n : Option ℕ) (left filled w : ℕ) → Filling (left - 1) 0 (length_at c.device) → Fine (frame_stored n left filled c w)
  unfolding frame_stored hold address_of
  stored_fine (Some n) left filled w k =
      let q = put_sound Register.Fdri w c s s.cmd in
      record { state = record { device = s.device; current = stepped_fits c.device n; crc = q.crc; cmd = s.cmd }; phase = from_filling (left - 1) 0 _ k }
  stored_fine None left filled w k = stop_fine Stop.NoCurrentFrame c s

  fdri_fine : (left filled w : ℕ) → Filling left filled (length_at c.device) → Fine (fdri_word left filled c w)
  unfolding fdri_word ended address_of hold phase_fits
  fdri_fine left filled w k =
      let q = put_sound Register.Fdri w c s s.cmd in
      either Fine (leb left 1) (λ t. record { state = q; phase = refl })
      (λ t. either Fine (ltb (filled + 1) (length_at c.device))
      (λ b. record { state = q; phase = from_filling _ _ _ (fill left filled _ k (leb-false left 1 t) (ltb-true _ _ b)) })
      (λ b. stored_fine c.current left filled w (filled_up left filled _ k (leb-false left 1 t) (ltb-false _ _ b))))

  -- ---- MFWR

  second_fine : (n : Option ℕ) (w : ℕ) → Fine (mfwr_stored n c w)
  unfolding mfwr_stored ended address_of hold phase_fits
  second_fine (Some n) w = record { state = put_sound Register.Mfwr w c s s.cmd; phase = refl }
  second_fine None w = stop_fine Stop.NoCurrentFrame c s

  mfwr_fine : (left filled w : ℕ) → phase_fits (Phase.Data Register.Mfwr left filled) c ≡ true → Fine (mfwr_word left filled c w)
  unfolding mfwr_word hold phase_fits data_fits address_of
  mfwr_fine left filled w h =
      let k = simp and-eq-true_iff at h in
      either Fine (leb left 1) (λ t. second_fine c.current w)
      (λ t. record { state = put_sound Register.Mfwr w c s s.cmd; phase = simp (one_less left t k.0.1, le-leb (left - 1) 2 (omega (arith, leb-true left 2 k.1.0)), k.1.1) })

  -- ---- data words

  -- a word to a register other than FDRI and MFWR is written, and flags may change
  put_fine : (r : Register) (left filled w : ℕ) (f : Flags) → is_fdri r ≡ false → is_mfwr r ≡ false → (written r w c.registers).cmd ≤ last_command
      → phase_fits (Phase.Data r left filled) c ≡ true → Consistent (onward r left filled) (with_flags f (put r w c))
  put_fine r left filled w f d m k h = record { state = put_sound r w c s k; phase = onward_free r left filled c d m h _ }

  pub data_fine : (r : Register) (left filled w : ℕ) → phase_fits (Phase.Data r left filled) c ≡ true → Fine (data_word r left filled c w)
  unfolding data_word far_word cmd_word flr_word idcode_word hold address_of
  data_fine Register.Crc left filled w h = crc_fine _ c w s (onward_free Register.Crc left filled c refl refl h)
  data_fine Register.Far left filled w h =
      let q = put_sound Register.Far w c s s.cmd in
      acted_fine _ _ _ (record { device = s.device; current = named_fits c.device w s.device; crc = q.crc; cmd = s.cmd }) (onward_free Register.Far left filled c refl refl h)
  data_fine Register.Fdri left filled w h = fdri_fine left filled w (to_filling left filled c h)
  data_fine Register.Cmd left filled w h =
      either Fine (ltb last_command w) (λ t. stop_fine _ c s) (λ t. acted_fine w _ _ (put_sound Register.Cmd w c s (ltb-false last_command w t)) (onward_free Register.Cmd left filled c refl refl h))
  data_fine Register.Ctl left filled w h = put_fine Register.Ctl left filled w _ refl refl s.cmd h
  data_fine Register.Mask left filled w h = put_fine Register.Mask left filled w _ refl refl s.cmd h
  data_fine Register.Lout left filled w h = put_fine Register.Lout left filled w _ refl refl s.cmd h
  data_fine Register.Cor left filled w h = put_fine Register.Cor left filled w _ refl refl s.cmd h
  data_fine Register.Mfwr left filled w h = mfwr_fine left filled w h
  data_fine Register.Flr left filled w h =
      either Fine (eqb (w + 1) (length_at c.device)) (λ t. put_fine Register.Flr left filled w _ refl refl s.cmd h) (λ t. stop_fine _ c s)
  data_fine Register.Idcode left filled w h =
      either Fine (eqb w (idcode_at c.device)) (λ t. put_fine Register.Idcode left filled w _ refl refl s.cmd h) (λ t. stop_fine _ c s)

-- ---- headers

-- 01: counts of 11 and of 27 bits
abbrev Short : PacketHeader → Type 0
Short PacketHeader.Idle = Unit {0}
Short PacketHeader.Bad = Unit {0}
Short PacketHeader.Read = Unit {0}
Short (PacketHeader.Write a n) = n ≤ 134217727
Short (PacketHeader.LongWrite r n) = n ≤ 134217727

one_short : (w : ℕ) → Short (type1 w)
unfolding type1
one_short w =
    either Short (eqb (operation w) 0) (λ t. either Short (eqb (count1 w) 0) (λ t. tt) (λ t. tt))
    (λ t. either Short (eqb (operation w) 1) (λ t. tt) (λ t. either Short (eqb (operation w) 2) (λ t. omega arith) (λ t. tt)))

two_short : (o : Option Register) (w : ℕ) → Short (type2 o w)
unfolding type2
two_short None w = tt
two_short (Some r) w = either Short (eqb (operation w) 1) (λ t. tt) (λ t. either Short (eqb (operation w) 2) (λ t. omega arith) (λ t. tt))

packet_short : (o : Option Register) (w : ℕ) → Short (packet o w)
unfolding packet
packet_short o w =
    either Short (eqb w 0) (λ t. tt)
    (λ t. either Short (eqb (type_of w) 1) (λ t. one_short w) (λ t. either Short (eqb (type_of w) 2) (λ t. two_short o w) (λ t. tt)))

module _ (c : Control) (s : Sound c) where
  -- a write that begins
  begin_fits : (r : Register) (n : ℕ) → eqb n 0 ≡ false → n ≤ 134217727 → ready r c ≡ true → counted r (length_at c.device) n ≡ true → phase_fits (Phase.Data r n 0) c ≡ true
  unfolding phase_fits data_fits ready counted
  begin_fits r n z high a b = go (is_fdri r) refl (is_mfwr r) refl
    where
      low : leb 1 n ≡ true
      low = le-leb 1 n (omega (arith, eqb-false n 0 z))

      go : (f : Bool) → is_fdri r ≡ f → (m : Bool) → is_mfwr r ≡ m → phase_fits (Phase.Data r n 0) c ≡ true
      go true f m g = simp (low, le-leb n 134217727 high, f, lt-ltb 0 (length_at c.device) (figures c.device s.device).length_positive, zero-add) (simp f at b)
      go false f true g =
          let a' = simp (f, g, and-eq-true_iff) at a in
          let b' : eqb n 2 ≡ true = simp (f, g) at b in
          simp (low, le-leb n 134217727 high, f, g, le-leb n 2 (omega (arith, eqb-true n 2 b')), a'.1)
      go false f false g = simp (low, le-leb n 134217727 high, f, g)

  begin_fine : (r : Register) (n : ℕ) → eqb n 0 ≡ false → n ≤ 134217727 → Fine (begin r n c)
  unfolding begin
  begin_fine r n z h =
      either Fine (ready r c)
      (λ a. either Fine (counted r (length_at c.device) n) (λ b. record { state = s; phase = begin_fits r n z h a b }) (λ b. stop_fine _ c s))
      (λ a. stop_fine _ c s)

  one_fine : (o : Option Register) (n : ℕ) → n ≤ 134217727 → Fine (type_one_write o n c)
  unfolding type_one_write phase_fits
  one_fine None n h = stop_fine Stop.BadRegister c s
  one_fine (Some r) n h = either Fine (eqb n 0) (λ t. record { state = s; phase = refl }) (λ t. begin_fine r n t h)

  obeyed_fine : (k : PacketHeader) → Short k → Fine (obeyed k c)
  unfolding obeyed phase_fits
  obeyed_fine PacketHeader.Idle h = record { state = s; phase = refl }
  obeyed_fine PacketHeader.Bad h = stop_fine Stop.BadHeader c s
  obeyed_fine PacketHeader.Read h = stop_fine Stop.ReadOperation c s
  obeyed_fine (PacketHeader.Write a n) h = one_fine (register_at a) n h
  obeyed_fine (PacketHeader.LongWrite r n) h = either Fine (eqb n 0) (λ t. record { state = s; phase = refl }) (λ t. begin_fine r n t h)

-- ---- words and bytes

pub word_fine : (p : Phase) (c : Control) (w : ℕ) → Consistent p c → Fine (word p c w)
unfolding word phase_fits
word_fine (Phase.Hunting b) c w k = k
word_fine (Phase.Header o) c w k = obeyed_fine c k.state (packet o w) (packet_short o w)
word_fine (Phase.Data r left filled) c w k = data_fine c k.state r left filled w k.phase
word_fine Phase.Crc c w k = crc_fine _ c w k.state (λ d. refl)
word_fine (Phase.Stopped t) c w k = k

-- the partial word is no item of consistency
partial_fits : (p : Phase) (b : PartialWord) (c : Control) → phase_fits p (with_partial b c) ≡ phase_fits p c
unfolding phase_fits data_fits
partial_fits (Phase.Hunting a) b c = refl
partial_fits (Phase.Header o) b c = refl
partial_fits (Phase.Data r left filled) b c = refl
partial_fits Phase.Crc b c = refl
partial_fits (Phase.Stopped t) b c = refl

pub partial_fine : (p : Phase) (b : PartialWord) (c : Control) → Consistent p c → Consistent p (with_partial b c)
partial_fine p b c k = record { state = k.state; phase = partial_fits p b c ∙ k.phase }

gathered_fine : (b : PartialWord) (p : Phase) (c : Control) (x : ℕ) → Consistent p c → Fine (gathered b p c x)
unfolding gathered
gathered_fine PartialWord.Zero p c x k = partial_fine p _ c k
gathered_fine (PartialWord.One a) p c x k = partial_fine p _ c k
gathered_fine (PartialWord.Two a b) p c x k = partial_fine p _ c k
gathered_fine (PartialWord.Three a b d) p c x k = word_fine p _ _ (partial_fine p PartialWord.Zero c k)

-- no start is pending while hunting, and none becomes so by a byte
hunted_fits : (b : PartialWord) (c : Control) (x : ℕ) → phase_fits (Phase.Hunting b) c ≡ true → phase_fits (hunted b x) c ≡ true
unfolding hunted phase_fits
hunted_fits PartialWord.Zero c x h = h
hunted_fits (PartialWord.One a) c x h = h
hunted_fits (PartialWord.Two a b) c x h = h
hunted_fits (PartialWord.Three a b d) c x h = either (λ (p : Phase). phase_fits p c ≡ true) (is_sync a b d x) (λ t. refl) (λ t. h)

pub byte_fine : (p : Phase) (c : Control) (x : ℕ) → Consistent p c → Fine (byte p c x)
unfolding byte
byte_fine (Phase.Hunting b) c x k = partial_fine (hunted b x) PartialWord.Zero c (record { state = k.state; phase = hunted_fits b c x k.phase })
byte_fine (Phase.Header o) c x k = gathered_fine c.partial _ c x k
byte_fine (Phase.Data r left filled) c x k = gathered_fine c.partial _ c x k
byte_fine Phase.Crc c x k = gathered_fine c.partial _ c x k
byte_fine (Phase.Stopped t) c x k = k

pub word_consistent : (p : Phase) (c : Control) (w : ℕ) → consistent p c ≡ true → consistent (word p c w).phase (word p c w).control ≡ true
word_consistent p c w t = from_items _ _ (word_fine p c w (to_items p c t))

pub byte_consistent : (p : Phase) (c : Control) (x : ℕ) → consistent p c ≡ true → consistent (byte p c x).phase (byte p c x).control ≡ true
byte_consistent p c x t = from_items _ _ (byte_fine p c x (to_items p c t))
