-- `Source::step` meets its contract: each arm writes the packets of its kind of step.
-- By joining what the calls write, once the step is known.
use Rattle.std.proofs.Common.{◌≡◌, List, [], ◌∷◌, ◌++◌, ℕ, ◌+◌, ◌*◌, ◌≤◌, ◌<◌, Ok, length, drop, replicate, subst, refl, arith}
use native.Mathlib.Nat.{mul_comm, mul_assoc}
use Rattle.parts.specs.Table.{length_at, count_at}
use Rattle.parts.proofs.Laws.Figures.{length_fits}
use Rattle.layout.specs.Inner.TargetNumbers.{numbers_at}
use Rattle.layout.specs.Inner.FirstStep.{StepBytes}
use Rattle.layout.specs.declared.step.PlacedStep.{PlacedStep}
use Rattle.stream.specs.StreamPackets.{Packet}
use Rattle.words.specs.WordsInBytes.{words_from}
use Rattle.stream.specs.Stream.{to_frame, spread_packets}
use Rattle.compiler.specs.Inner.FrameDataWords.{data_size, data_part}
use Rattle.compiler.specs.Inner.PacketWriting.{Room, first_room, frames_room, joined, joined_room, next_room}
use Rattle.compiler.specs.Inner.StepPackets.{StepCount, packets_at, write_packets, multi_packets, few_words}
use Rattle.compiler.specs.declared.packet.Writer.{Writer}
use Rattle.compiler.proofs.emit.Source.step.Goals as goal

module _ (d : ℕ) (b : List ℕ) (s : PlacedStep) where
  -- a run of frames: the room of its packets; its words are few, and lie in the layout
  module _ (n k body next : ℕ) (e : s ≡ PlacedStep.FrameWrite n k body next) where
    written_room : (w : Writer) → Room w (packets_at d b s)
        → Room w (Packet.Command 1 ∷ to_frame d n ∷ Packet.FrameData (words_from (k * length_at d) (drop body b) ++ replicate (length_at d) 0) ∷ [])
    written_room w h = subst (Room w) (write_packets d b s n k body next e) h

    few : StepCount (count_at d) s → k * length_at d + length_at d < 134217728
    few h = few_words d n k (subst (StepCount (count_at d)) e h)

    within : StepBytes (length_at d) b (Ok s) → body + 4 * length_at d * k ≤ length b
    within h = subst (λ (x : PlacedStep). StepBytes (length_at d) b (Ok x)) e h

    four : 4 * length_at d * k ≡ 4 * (k * length_at d)
    four = omega (arith, mul_assoc 4 (length_at d) k, mul_comm (length_at d) k)

  -- a frame and its targets: the room of their packets; the frame lies in the layout
  module _ (k body targets next : ℕ) (e : s ≡ PlacedStep.MultiFrameWrite k body targets next) where
    spread_room : (w : Writer) → Room w (packets_at d b s)
        → Room w (Packet.Command 1 ∷ Packet.FrameData (words_from (length_at d) (drop body b) ++ replicate 0 0) ∷ spread_packets d (numbers_at b k targets))
    spread_room w h = subst (Room w) (multi_packets d b s k body targets next e) h

    frame_within : StepBytes (length_at d) b (Ok s) → body + 4 * length_at d ≤ length b
    frame_within h = subst (λ (x : PlacedStep). StepBytes (length_at d) b (Ok x)) e h

-- either begins with a command
command_room : (d : ℕ) (b : List ℕ) (s : PlacedStep) (w : Writer) → Room w (packets_at d b s) → Room w (Packet.Command 1 ∷ [])
command_room d b (PlacedStep.FrameWrite n k body next) w h = first_room w _ _ (written_room d b _ n k body next refl w h)
command_room d b (PlacedStep.MultiFrameWrite k body targets next) w h = first_room w _ _ (spread_room d b _ k body targets next refl w h)

pub command-requires : goal.command-requires
command-requires c = command_room c.args.self.device c.args.self.layout.now c.args.step c.args.writer.now c.requires.2

pub address-requires : goal.address-requires
address-requires c =
    let s = c.args.self in
    let h = written_room s.device s.layout.now c.args.step _ _ _ _ c.in-FrameWrite.is c.args.writer.now c.requires.2 in
    next_room c.command.ensures _ _ h

pub frames-requires : goal.frames-requires
frames-requires c =
    let s = c.args.self in
    let b = s.layout.now in
    let is = c.in-FrameWrite.is in
    let n = c.in-FrameWrite.count * length_at s.device in
    let h = next_room (joined c.command.ensures c.address.ensures) _ _ (written_room s.device b c.args.step _ _ _ _ is c.args.writer.now c.requires.2) in
    rw (c.length_at-l.ensures, data_size n (4 * length_at s.device * c.in-FrameWrite.count) c.in-FrameWrite.body b (four s.device b c.args.step _ _ _ _ is) (within s.device b c.args.step _ _ _ _ is c.requires.0))
    (few s.device b c.args.step _ _ _ _ is c.requires.1, frames_room c.address.new.self n (length_at s.device) (drop c.in-FrameWrite.body b) h)

pub frames-requires-in-MultiFrameWrite : goal.frames-requires-in-MultiFrameWrite
frames-requires-in-MultiFrameWrite c =
    let s = c.args.self in
    let b = s.layout.now in
    let is = c.in-MultiFrameWrite.is in
    let n = length_at s.device in
    let h = next_room c.command.ensures _ _ (spread_room s.device b c.args.step _ _ _ _ is c.args.writer.now c.requires.2) in
    rw (c.length_at-l.ensures, data_size n (4 * n) c.in-MultiFrameWrite.body b refl (frame_within s.device b c.args.step _ _ _ _ is c.requires.0))
    (omega (arith, length_fits s.device), frames_room c.command.new.self n 0 (drop c.in-MultiFrameWrite.body b) h)

pub spread-requires : goal.spread-requires
spread-requires c =
    let s = c.args.self in
    let b = s.layout.now in
    let is = c.in-MultiFrameWrite.is in
    let n = length_at s.device in
    let frames = rw (c.length_at-l.ensures, data_part n (4 * n) c.in-MultiFrameWrite.body b refl (frame_within s.device b c.args.step _ _ _ _ is c.requires.0)) at c.frames-in-MultiFrameWrite.ensures in
    (subst (StepCount (count_at s.device)) is c.requires.1, joined_room (joined c.command.ensures frames) _ (spread_room s.device b c.args.step _ _ _ _ is c.args.writer.now c.requires.2))

pub returns-in-FrameWrite : goal.returns-in-FrameWrite
returns-in-FrameWrite c =
    let s = c.args.self in
    let b = s.layout.now in
    let is = c.in-FrameWrite.is in
    let n = c.in-FrameWrite.count * length_at s.device in
    let frames = rw (c.length_at-l.ensures, data_part n (4 * length_at s.device * c.in-FrameWrite.count) c.in-FrameWrite.body b (four s.device b c.args.step _ _ _ _ is) (within s.device b c.args.step _ _ _ _ is c.requires.0)) at c.frames.ensures in
    rw (write_packets s.device b c.args.step _ _ _ _ is) (joined (joined c.command.ensures c.address.ensures) frames)

pub returns-in-MultiFrameWrite : goal.returns-in-MultiFrameWrite
returns-in-MultiFrameWrite c =
    let s = c.args.self in
    let b = s.layout.now in
    let is = c.in-MultiFrameWrite.is in
    let n = length_at s.device in
    let frames = rw (c.length_at-l.ensures, data_part n (4 * n) c.in-MultiFrameWrite.body b refl (frame_within s.device b c.args.step _ _ _ _ is c.requires.0)) at c.frames-in-MultiFrameWrite.ensures in
    rw (multi_packets s.device b c.args.step _ _ _ _ is) (joined (joined c.command.ensures frames) c.spread.ensures)
