-- `Writer::check` meets its contract: the header and then the check word are the packet's words.
-- By what `word` and `check_word` ensure.
use Rattle.stream.specs.StreamPackets.{Packet, crc_of, packet_words}
use Rattle.compiler.specs.Inner.PacketWriting.{put_more, put_ended, once}
use Rattle.compiler.proofs.packet.Writer.check.Goals as goal

pub returns : goal.returns
unfolding crc_of packet_words
returns c =
    let ended = put_ended (put_more c.word.ensures c.word-2.ensures) 0 in
    once Packet.Check (rw (c.header.ensures, c.check_word.ensures, c.word.ensures.fed) at ended)
