-- Where the packets of a step lead, and those of a list of steps: the memory is what the steps make of it.
-- Packet by packet; targets and steps by induction.
use Rattle.std.specs.Prelude.{◌≡◌, refl, Bool, ℕ, ◌+◌, ◌*◌, ◌^◌, ◌≤◌, ◌<◌, length, Option, Some}
use Rattle.std.proofs.Common.{◌∙◌, ap, subst, arith}
use mathlib.Core.List.{List, [], ◌∷◌, ◌++◌}
use Rattle.std.proofs.Math.Bool.{true}
use Rattle.std.proofs.Math.ListN.{replicate, length-replicate}
use Rattle.parts.specs.Table.{length_at, count_at}
use Rattle.parts.proofs.Laws.Figures.{figures}
use Rattle.parts.specs.FrameMemory.{placed}
use Rattle.words.specs.WordsInBytes.{words_from}
use Rattle.words.specs.Laws.ByteLists.{AreBytes, zero_words}
use Rattle.words.proofs.Laws.WordBytes.{words_small, bytes_words, words_length}
use Rattle.parts.specs.Laws.FramePlacing.{frame_end, placed_length}
use Rattle.answers.specs.AnswerNumbers.{answer_value}
use Rattle.parts.specs.FrameAddress.{address_at}
use Rattle.parts.proofs.Laws.FrameNumbers.{number_address_number, address_fits, has_address}
use Rattle.config.specs.CurrentFrame.{current_from, named}
use Rattle.layout.specs.Step.{Step, FrameWrite, MultiFrameWrite}
use Rattle.layout.specs.Laws.AcceptedSteps.{FitsWrite, FitsMulti, Fits, AllFit, Targets}
use Rattle.layout.specs.Laws.ByteFrames.{ByteStep, ByteSteps}
use Rattle.layout.specs.ReferenceMachine.{frames_written, spread, step_applied, steps_applied}
use Rattle.layout.specs.Laws.UnownedFrames.{done_keeps}
use Rattle.stream.specs.StreamPackets.{Packet, crc_of, packet_words, packets_words}
use Rattle.stream.specs.Stream.{frames_words, to_frame, further, spread_packets, step_packets, steps_packets}
use Rattle.stream.specs.Laws.PacketsJoined.{crc_after, words_append, crc_append}
use Rattle.reconfigure.specs.Laws.RecordView.{View, waiting, ReachesView, view_none, view_on}
use Rattle.reconfigure.specs.Laws.RegisterPackets.{Quiet, wcfg_quiet, mfwr_quiet, command_reaches, address_reaches}
use Rattle.reconfigure.specs.Laws.MultiFrameWrite.{multi_reaches}
use Rattle.reconfigure.specs.Laws.FrameDataPacket.{Aims, reached, data_reaches}

-- ---- one packet and those after it

-- packets lead from a state and a memory to others, from one CRC to the next
then_packets : {s t u : View} {m k r : List ℕ} (v : ℕ) (p : Packet) (ps : List Packet) → ReachesView s m (packet_words v p) t k → ReachesView t k (packets_words (crc_of v p) ps) u r
    → ReachesView s m (packets_words v (p ∷ ps)) u r
unfolding packets_words
then_packets v p ps first others = view_on first others

no_packets : {s : View} {m : List ℕ} (v : ℕ) → ReachesView s m (packets_words v []) s m
unfolding packets_words
no_packets v = view_none

-- ---- a frame's address makes the frame the current one

record Named (d n : ℕ) : Type 0 where
  names : named d (address_at d n) ≡ Some n
  small : address_at d n < 2 ^ 32

frame_named : (d n : ℕ) → d ≤ 7 → n < count_at d → Named d n
unfolding current_from
frame_named d n known inside =
    let f = figures d known in
    let found = has_address d f.part n f.known (omega (arith, f.count)) in
    let a : address_at d n ≡ found.0 = ap answer_value found.1 in
    let fits = address_fits d n found.0 found.1 in
    record { names = rw a (ap current_from (number_address_number d n found.0 found.1)); small = omega (arith, fits, a) }

module _ (d : ℕ) (known : d ≤ 7) where
  far_reaches : (v k n : ℕ) (c : Option ℕ) (b : Bool) (buffer m : List ℕ) → Quiet k → n < count_at d
      → ReachesView (waiting d v k c b buffer) m (packet_words v (to_frame d n)) (waiting d (crc_of v (to_frame d n)) k (Some n) b buffer) m
  far_reaches v k n c b buffer m quiet inside =
      let f = frame_named d n known inside in
      subst (λ (at : Option ℕ). ReachesView (waiting d v k c b buffer) m (packet_words v (to_frame d n)) (waiting d (crc_of v (to_frame d n)) k at b buffer) m) f.names
      (address_reaches d v k c b buffer m (address_at d n) quiet f.small)

  -- ---- targets, with the frame in hand

  -- a frame fits a memory of F frames, and leaves it as long as it was
  fits : (n : ℕ) (m : List ℕ) → n < count_at d → length m ≡ 4 * length_at d * count_at d → 4 * length_at d * n + 4 * length_at d ≤ length m
  fits n m inside room = omega (arith, frame_end (length_at d) n (count_at d) inside)

  -- the current frame after targets
  unfoldable last_of : Option ℕ → List ℕ → Option ℕ
  last_of c [] = c
  last_of c (t ∷ ts) = last_of (Some t) ts

  module _ (x : List ℕ) (bytes : AreBytes x) (size : length x ≡ 4 * length_at d) where
    abbrev buffer : List ℕ
    buffer = words_from (length_at d) x

    -- MFWR at a target
    target_reaches : (v t : ℕ) (m : List ℕ) → t < count_at d → length m ≡ 4 * length_at d * count_at d
        → ReachesView (waiting d v 2 (Some t) true buffer) m (packet_words v Packet.MultiFrame) (waiting d (crc_of v Packet.MultiFrame) 2 (Some t) true buffer) (placed (length_at d) t x m)
    target_reaches v t m inside room = rw (bytes_words (length_at d) x bytes size) at (multi_reaches d v t buffer m (fits t m inside room))

    placed_room : (t : ℕ) (m : List ℕ) → t < count_at d → length m ≡ 4 * length_at d * count_at d → length (placed (length_at d) t x m) ≡ 4 * length_at d * count_at d
    placed_room t m inside room = placed_length (length_at d) t x m (fits t m inside room) size ∙ room

    further_reaches : (own : ℕ → Bool) (ts : List ℕ) (low v : ℕ) (c : Option ℕ) (m : List ℕ) → Targets (length_at d) (count_at d) own low ts → length m ≡ 4 * length_at d * count_at d
        → ReachesView (waiting d v 2 c true buffer) m (packets_words v (further d ts)) (waiting d (crc_after v (further d ts)) 2 (last_of c ts) true buffer) (spread (length_at d) x ts m)
    unfolding further crc_after last_of spread
    further_reaches own [] low v c m targets room = no_packets v
    further_reaches own (t ∷ ts) low v c m targets room =
        then_packets v (to_frame d t) _ (far_reaches v 2 t c true buffer m mfwr_quiet targets.1)
        (then_packets (crc_of v (to_frame d t)) Packet.MultiFrame (further d ts) (target_reaches (crc_of v (to_frame d t)) t m targets.1 room)
        (further_reaches own ts (t + 1) (crc_of (crc_of v (to_frame d t)) Packet.MultiFrame) (Some t) (placed (length_at d) t x m) targets.3 (placed_room t m targets.1 room)))

    -- the first target, for which CMD is written, and the others
    spread_reaches : (own : ℕ → Bool) (t : ℕ) (ts : List ℕ) (v : ℕ) (c : Option ℕ) (m : List ℕ) → Targets (length_at d) (count_at d) own 0 (t ∷ ts) → length m ≡ 4 * length_at d * count_at d
        → ReachesView (waiting d v 1 c true buffer) m (packets_words v (spread_packets d (t ∷ ts)))
        (waiting d (crc_after v (spread_packets d (t ∷ ts))) 2 (last_of (Some t) ts) true buffer) (spread (length_at d) x (t ∷ ts) m)
    unfolding spread_packets crc_after spread
    spread_reaches own t ts v c m targets room =
        let v₁ = crc_of v (to_frame d t) in
        let v₂ = crc_of v₁ (Packet.Command 2) in
        then_packets v (to_frame d t) _ (far_reaches v 1 t c true buffer m wcfg_quiet targets.1)
        (then_packets v₁ (Packet.Command 2) _ (command_reaches d v₁ 1 (Some t) true buffer m 2 mfwr_quiet)
        (then_packets v₂ Packet.MultiFrame (further d ts) (target_reaches v₂ t m targets.1 room)
        (further_reaches own ts (t + 1) (crc_of v₂ Packet.MultiFrame) (Some t) (placed (length_at d) t x m) targets.3 (placed_room t m targets.1 room))))

-- ---- a step, from any state between two packets

-- where words lead, with what the next step does not rely on left open
pub record Reached (d v : ℕ) (s : View) (m ws k : List ℕ) : Type 0 where
  pub cmd : ℕ
  pub current : Option ℕ
  pub valid : Bool
  pub buffer : List ℕ
  pub full : length buffer ≡ length_at d
  pub runs_to : ReachesView s m ws (waiting d v cmd current valid buffer) k

aims_any : (n : ℕ) (fs : List (List ℕ)) → Aims n (Some n) fs
aims_any n [] = tt
aims_any n (x ∷ xs) = refl

module _ (d : ℕ) (known : d ≤ 7) (own : ℕ → Bool) where
  positive : 0 < length_at d
  positive = (figures d known).length_positive

  module _ (v k : ℕ) (c : Option ℕ) (b : Bool) (buffer m : List ℕ) (full : length buffer ≡ length_at d) (room : length m ≡ 4 * length_at d * count_at d) where
    write_reached : (n : ℕ) (fs : List (List ℕ)) → FitsWrite (length_at d) (count_at d) own n fs → ByteStep (FrameWrite n fs)
        → Reached d (crc_after v (step_packets d (FrameWrite n fs))) (waiting d v k c b buffer) m (packets_words v (step_packets d (FrameWrite n fs))) (frames_written (length_at d) n fs m)
    unfolding step_packets crc_after crc_of
    write_reached n fs fit bytes =
        let v₁ = crc_of v (Packet.Command 1) in
        let v₂ = crc_of v₁ (to_frame d n) in
        let zeros = replicate {A = ℕ} (length_at d) 0 in
        record {
          cmd = 1;
          current = reached d n (Some n) fs;
          valid = true;
          buffer = zeros;
          full = length-replicate (length_at d) 0;
          runs_to = then_packets v (Packet.Command 1) _ (command_reaches d v k c b buffer m 1 wcfg_quiet)
              (then_packets v₁ (to_frame d n) _ (far_reaches d known v₁ 1 n c b buffer m wcfg_quiet (omega (arith, fit.part, fit.positive)))
              (then_packets v₂ (Packet.FrameData (frames_words (length_at d) fs ++ zeros)) []
              (data_reaches d v₂ n (Some n) b fs zeros buffer m positive full room fit.part (aims_any n fs) bytes fit.sized (zero_words (length_at d)) (length-replicate (length_at d) 0))
              (no_packets 0)));
        }

    multi_reached : (x : List ℕ) (t : ℕ) (ts : List ℕ) → FitsMulti (length_at d) (count_at d) own x (t ∷ ts) → AreBytes x
        → Reached d (crc_after v (step_packets d (MultiFrameWrite x (t ∷ ts)))) (waiting d v k c b buffer) m (packets_words v (step_packets d (MultiFrameWrite x (t ∷ ts))))
        (spread (length_at d) x (t ∷ ts) m)
    unfolding step_packets crc_after crc_of frames_words reached frames_written
    multi_reached x t ts fit bytes =
        let v₁ = crc_of v (Packet.Command 1) in
        let ws = words_from (length_at d) x in
        record {
          cmd = 2;
          current = last_of d known (Some t) ts;
          valid = true;
          buffer = ws;
          full = words_length (length_at d) x;
          runs_to = then_packets v (Packet.Command 1) _ (command_reaches d v k c b buffer m 1 wcfg_quiet)
              (then_packets v₁ (Packet.FrameData ws) (spread_packets d (t ∷ ts))
              (data_reaches d v₁ 0 c b [] ws buffer m positive full room (omega arith) tt tt tt (words_small (length_at d) x bytes) (words_length (length_at d) x))
              (spread_reaches d known x bytes fit.size own t ts 0 c m fit.targets room));
        }

    step_reached : (s : Step) → Fits (length_at d) (count_at d) own s → ByteStep s
        → Reached d (crc_after v (step_packets d s)) (waiting d v k c b buffer) m (packets_words v (step_packets d s)) (step_applied (length_at d) s m)
    unfolding step_applied
    step_reached (FrameWrite n fs) fit bytes = write_reached n fs fit bytes
    step_reached (MultiFrameWrite x []) fit bytes = absurd (omega (arith, fit.positive))
    step_reached (MultiFrameWrite x (t ∷ ts)) fit bytes = multi_reached x t ts fit bytes

  -- ---- the list of steps

  none_reached : (v k : ℕ) (c : Option ℕ) (b : Bool) (buffer m : List ℕ) → length buffer ≡ length_at d → Reached d v (waiting d v k c b buffer) m (packets_words v []) m
  none_reached v k c b buffer m full = record { cmd = k; current = c; valid = b; buffer = buffer; full = full; runs_to = no_packets v }

  then_steps : {s : View} {m k : List ℕ} (v : ℕ) (ps qs : List Packet) (r : List ℕ) (first : Reached d (crc_after v ps) s m (packets_words v ps) k)
      → Reached d (crc_after (crc_after v ps) qs) (waiting d (crc_after v ps) first.cmd first.current first.valid first.buffer) k (packets_words (crc_after v ps) qs) r
      → Reached d (crc_after v (ps ++ qs)) s m (packets_words v (ps ++ qs)) r
  then_steps v ps qs r first others =
      rw (words_append v ps qs, ← crc_append v ps qs)
      (record { cmd = others.cmd; current = others.current; valid = others.valid; buffer = others.buffer; full = others.full; runs_to = view_on first.runs_to others.runs_to })

  -- 01: "Each step works on what the last one left"
  pub steps_reached : (ss : List Step) (v k : ℕ) (c : Option ℕ) (b : Bool) (buffer m : List ℕ) → AllFit (length_at d) (count_at d) own ss → ByteSteps ss
      → length buffer ≡ length_at d → length m ≡ 4 * length_at d * count_at d
      → Reached d (crc_after v (steps_packets d ss)) (waiting d v k c b buffer) m (packets_words v (steps_packets d ss)) (steps_applied (length_at d) ss m)
  unfolding steps_packets crc_after steps_applied
  steps_reached [] v k c b buffer m fit bytes full room = none_reached v k c b buffer m full
  steps_reached (s ∷ ss) v k c b buffer m fit bytes full room =
      let one = step_reached v k c b buffer m full room s fit.0 bytes.0 in
      then_steps v (step_packets d s) (steps_packets d ss) _ one
      (steps_reached ss (crc_after v (step_packets d s)) one.cmd one.current one.valid one.buffer (step_applied (length_at d) s m) fit.1 bytes.1 one.full
      ((done_keeps (length_at d) (count_at d) own s m fit.0 room).size ∙ room))
