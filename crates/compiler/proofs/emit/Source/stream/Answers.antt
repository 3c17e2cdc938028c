-- `Source::stream` meets its contract: the heading, the steps and the ending are the stream's packets.
-- By joining what the calls write; the stream's length gives each of them room.
use Rattle.std.proofs.Common.{◌∙◌, arith}
use Rattle.layout.specs.Layout.{desk_layout}
use Rattle.stream.specs.Stream.{heading, ending}
use Rattle.compiler.specs.Inner.PacketWriting.{front_room, joined, joined_room, middle_room, next_room}
use Rattle.compiler.specs.Inner.StepPackets.{layout_packets}
use Rattle.compiler.specs.Inner.WholeStream.{word_room, stream_room, stream_written}
use Rattle.compiler.proofs.emit.Source.stream.Goals as goal

pub word-requires : goal.word-requires
word-requires c =
    let s = c.args.self in
    let new = c.new-writer.ensures in
    omega (arith, new.place, word_room s.device (desk_layout s.device s.range s.layout.now) _ c.requires.1 c.requires.2 c.new-writer.result new.place new.crc new.output)

pub word-requires-2 : goal.word-requires-2
word-requires-2 c =
    let s = c.args.self in
    let new = c.new-writer.ensures in
    omega (arith, new.place, c.word.ensures.place, c.word.ensures.size, word_room s.device (desk_layout s.device s.range s.layout.now) _ c.requires.1 c.requires.2 c.new-writer.result new.place new.crc new.output)

pub heading-requires : goal.heading-requires
heading-requires c =
    let s = c.args.self in
    let new = c.new-writer.ensures in
    let h = stream_room s.device (desk_layout s.device s.range s.layout.now) _ c.requires.1 c.requires.2 _ new.place new.crc new.output c.word.ensures c.word-2.ensures in
    (c.requires.0, front_room c.word-2.new.self (heading s.device) _ h)

pub steps-requires : goal.steps-requires
steps-requires c =
    let s = c.args.self in
    let new = c.new-writer.ensures in
    let h = stream_room s.device (desk_layout s.device s.range s.layout.now) _ c.requires.1 c.requires.2 _ new.place new.crc new.output c.word.ensures c.word-2.ensures in
    (c.requires.0, c.requires.1, middle_room c.heading.ensures (layout_packets s.device s.range s.layout.now) ending h)

pub check-requires : goal.check-requires
check-requires c =
    let s = c.args.self in
    let new = c.new-writer.ensures in
    let h = stream_room s.device (desk_layout s.device s.range s.layout.now) _ c.requires.1 c.requires.2 _ new.place new.crc new.output c.word.ensures c.word-2.ensures in
    next_room (joined c.heading.ensures c.steps.ensures) _ _ h

pub command-requires : goal.command-requires
command-requires c =
    let s = c.args.self in
    let new = c.new-writer.ensures in
    let h = stream_room s.device (desk_layout s.device s.range s.layout.now) _ c.requires.1 c.requires.2 _ new.place new.crc new.output c.word.ensures c.word-2.ensures in
    next_room c.check.ensures _ _ (joined_room (joined c.heading.ensures c.steps.ensures) ending h)

pub returns : goal.returns
returns c =
    let s = c.args.self in
    let new = c.new-writer.ensures in
    let all = joined (joined c.heading.ensures c.steps.ensures) (joined c.check.ensures c.command.ensures) in
    let told = stream_written s.device (desk_layout s.device s.range s.layout.now) _ c.requires.1 c.requires.2 _ new.place new.crc new.output c.word.ensures c.word-2.ensures all in
    let same = told.0 ∙ new.same_output in
    grind arith
