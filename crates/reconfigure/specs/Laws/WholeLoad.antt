-- A whole stream: from any record that hunts, the load takes all of it, the memory is what the steps make of it, and the record hunts.
-- The sync word, the three packets that open a stream, the steps, and the two that end it.
use Rattle.std.specs.Prelude.{◌≡◌, List, [], ◌++◌, Bool, ℕ, ◌+◌, ◌-◌, ◌*◌, ◌≤◌, length, take, Option, None}
use Rattle.std.proofs.Common.{◌∙◌, sym, ap, append-nil, add-zero, arith, length-take-le, eq-eqb}
use Rattle.std.proofs.Math.Path.{refl}
use Rattle.parts.specs.Table.{idcode_at, length_at, count_at}
use Rattle.parts.proofs.Laws.Figures.{figures, length_fits, idcode_fits}
use Rattle.words.specs.WordsInBytes.{bytes_of}
use Rattle.words.proofs.Laws.WordBytes.{bytes_length}
use Rattle.registers.specs.RegisterAddresses.{address_of}
use Rattle.registers.specs.CommandCodes.{RCRC, DESYNC}
use Rattle.registers.specs.declared.Register.TheVariants as Register
use Rattle.config.specs.RegisterWrites.{with_crc, fed_crc, hold}
use Rattle.config.specs.ControlState.{with_registers, with_flags, with_partial, raised, transition}
use Rattle.config.specs.Commands.{signalled, command_crc, command_phase, acted}
use Rattle.config.specs.DataWords.{ended, onward, put, idcode_word, flr_word, data_word}
use Rattle.config.specs.declared.PartialWord.{PartialWord}
use Rattle.config.specs.declared.Control.{Control}
use Rattle.config.specs.declared.Phase.{Phase}
use Rattle.config.specs.declared.Event.TheVariants as Event
use Rattle.record.specs.declared.Record.{Record}
use Rattle.layout.specs.Step.{Step}
use Rattle.layout.specs.Laws.AcceptedSteps.{AllFit}
use Rattle.layout.specs.Laws.ByteFrames.{ByteSteps}
use Rattle.layout.specs.ReferenceMachine.{steps_applied}
use Rattle.stream.specs.StreamPackets.{crc_of, packet_words, packets_words}
use Rattle.stream.specs.Stream.{steps_packets, heading, ending, stream_packets, words_of}
use Rattle.stream.specs.Laws.PacketsJoined.{crc_after, words_append}
use Rattle.loader.specs.EventEffects.{buffered, stored}
use Rattle.loader.specs.Run.{ran, run}
use Rattle.loader.specs.Inner.FillWords.{record_of}
use Rattle.reconfigure.specs.Laws.WordsReach.{Reaches, reaches_none, reaches_on}
use Rattle.reconfigure.specs.Laws.Headers.{write_reaches}
use Rattle.reconfigure.specs.Laws.RecordView.{View, view, waiting}
use Rattle.reconfigure.specs.Laws.RegisterPackets.{command_word, check_reaches}
use Rattle.reconfigure.specs.Laws.StepEffects.{steps_reached}
use Rattle.reconfigure.specs.Laws.Sync.{hunt_ends}

-- ---- the three packets that open a stream

-- the control state after each
abbrev reset : Control → Control
reset c = with_registers (with_crc 0 (put Register.Cmd RCRC c).registers) (put Register.Cmd RCRC c)

abbrev sized : ℕ → Control → Control
sized w c = with_flags (raised Register.Flr c.flags) (put Register.Flr w c)

abbrev identified : ℕ → Control → Control
identified w c = with_flags (raised Register.Idcode c.flags) (put Register.Idcode w c)

reset_word : (c : Control) → data_word Register.Cmd 1 0 c RCRC ≡ transition (Phase.Header None) (reset c) Event.Nothing
unfolding acted signalled command_crc command_phase
reset_word c = command_word RCRC c (omega arith)

sized_word : (c : Control) (w : ℕ) → w + 1 ≡ length_at c.device → data_word Register.Flr 1 0 c w ≡ transition (Phase.Header None) (sized w c) Event.Nothing
unfolding data_word flr_word onward ended address_of
sized_word c w e = simp (eq-eqb _ _ e)

identified_word : (c : Control) (w : ℕ) → w ≡ idcode_at c.device → data_word Register.Idcode 1 0 c w ≡ transition (Phase.Header None) (identified w c) Event.Nothing
unfolding data_word idcode_word onward ended address_of
identified_word c w e = simp (eq-eqb _ _ e)

module _ (d : ℕ) (known : d ≤ 7) (c : Control) (f m : List ℕ) (at : c.device ≡ d) (empty : c.partial ≡ PartialWord.Zero) where
  abbrev opened : Control
  opened = identified (idcode_at d) (sized (length_at d - 1) (reset c))

  heading_reaches : Reaches (record_of (Phase.Header None) c f) m (packets_words 0 (heading d)) (record_of (Phase.Header None) opened f) m
  unfolding packets_words packet_words buffered stored address_of
  heading_reaches =
      let some = (figures d known).length_positive in
      reaches_on (write_reaches (record_of (Phase.Header None) c f) m Register.Cmd RCRC _ (refl, refl) refl empty (omega arith) (reset_word c))
      (reaches_on (write_reaches (record_of (Phase.Header None) (reset c) f) m Register.Flr (length_at d - 1) _ (refl, refl) refl empty
      (omega (arith, length_fits d)) (sized_word (reset c) (length_at d - 1) (rw at (omega arith))))
      (reaches_on (write_reaches (record_of (Phase.Header None) (sized (length_at d - 1) (reset c)) f) m Register.Idcode (idcode_at d) _ (refl, refl) refl empty
      (omega (arith, idcode_fits d)) (identified_word (sized (length_at d - 1) (reset c)) (idcode_at d) (ap idcode_at (sym at)))) reaches_none))

  heading_seen : length f ≡ 213
      → view (record_of (Phase.Header None) opened f) ≡ waiting d (crc_after 0 (heading d)) RCRC c.current c.flags.buffer_valid (take (length_at d) f)
  unfolding crc_after crc_of hold fed_crc raised address_of
  heading_seen full = rw (at, empty, full)

-- ---- the two that end it

-- DESYNC
abbrev dismissed : Control → Control
dismissed c = with_flags (signalled DESYNC c.flags) (put Register.Cmd DESYNC c)

desync_word : (c : Control) → data_word Register.Cmd 1 0 c DESYNC ≡ transition (Phase.Hunting PartialWord.Zero) (dismissed c) Event.Nothing
unfolding acted signalled command_crc command_phase
desync_word c = command_word DESYNC c (omega arith)

-- the words lead to a record that hunts with no bytes remembered
pub record ReachesHunting (e : Record) (m ws k : List ℕ) : Type 0 where
  pub next : Record
  pub reaches : Reaches e m ws next k
  pub hunts : next.phase ≡ Phase.Hunting PartialWord.Zero
  pub empty : next.control.partial ≡ PartialWord.Zero

ending_reaches : (d v k : ℕ) (n : Option ℕ) (b : Bool) (buffer m : List ℕ) (e : Record) → view e ≡ waiting d v k n b buffer → ReachesHunting e m (packets_words v ending) m
unfolding packets_words packet_words buffered stored address_of
ending_reaches d v k n b buffer m e h =
    let checked = (check_reaches d v k n b buffer m).from e h in
    let empty = ap (λ (s : View). s.partial) checked.seen in
    record {
      next = record_of (Phase.Hunting PartialWord.Zero) (dismissed checked.next.control) checked.next.frame;
      reaches = reaches_on checked.reaches (reaches_on (write_reaches checked.next m Register.Cmd DESYNC _ (refl, refl) (ap (λ (s : View). s.phase) checked.seen) empty (omega arith)
          (desync_word checked.next.control)) reaches_none);
      hunts = refl;
      empty = empty;
    }

-- ---- the whole

module _ (d : ℕ) (known : d ≤ 7) (own : ℕ → Bool) (ss : List Step) (fits : AllFit (length_at d) (count_at d) own ss) (bytes : ByteSteps ss) where
  -- the packets after the sync word
  packets_reach : (c : Control) (f m : List ℕ) → c.device ≡ d → c.partial ≡ PartialWord.Zero → length f ≡ 213 → length m ≡ 4 * length_at d * count_at d
      → ReachesHunting (record_of (Phase.Header None) c f) m (packets_words 0 (stream_packets d ss)) (steps_applied (length_at d) ss m)
  packets_reach c f m at empty full room =
      let v₁ = crc_after 0 (heading d) in
      let v₂ = crc_after v₁ (steps_packets d ss) in
      let counts = length-take-le (length_at d) f (omega (arith, length_fits d)) in
      let steps = steps_reached d known own ss v₁ 7 c.current c.flags.buffer_valid (take (length_at d) f) m fits bytes counts room in
      let done = steps.runs_to.from (record_of (Phase.Header None) (opened d known c f m at empty) f) (heading_seen d known c f m at empty full) in
      let last = ending_reaches d v₂ steps.cmd steps.current steps.valid steps.buffer (steps_applied (length_at d) ss m) done.next done.seen in
      rw (words_append 0 (heading d) (steps_packets d ss ++ ending), words_append v₁ (steps_packets d ss) ending)
      (record {
        next = last.next;
        reaches = reaches_on (heading_reaches d known c f m at empty) (reaches_on done.reaches last.reaches);
        hunts = last.hunts;
        empty = last.empty;
      })

  -- all words, from any record of the part that hunts
  pub stream_reaches : (b : PartialWord) (c : Control) (f m : List ℕ) → c.device ≡ d → length f ≡ 213 → length m ≡ 4 * length_at d * count_at d
      → ReachesHunting (record_of (Phase.Hunting b) c f) m (words_of d ss) (steps_applied (length_at d) ss m)
  unfolding words_of
  stream_reaches b c f m at full room =
      let rest = packets_reach (with_partial PartialWord.Zero c) f m at refl full room in
      record { next = rest.next; reaches = reaches_on (hunt_ends b c f m) rest.reaches; hunts = rest.hunts; empty = rest.empty }

-- words and nothing after them
pub reaches_all : {e g : Record} {m ws k : List ℕ} → Reaches e m ws g k → run e m (bytes_of ws) ≡ ran g k (length (bytes_of ws))
unfolding run
reaches_all {e} {g} {m} {ws} {k} go =
    rw (append-nil (bytes_of ws)) at (go.runs_to []) ∙ ap (ran g k) (add-zero (4 * length ws) ∙ sym (bytes_length ws))
