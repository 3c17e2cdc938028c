-- `Writer::multi` meets its contract: the header and then two zeros are the packet's words.
-- By what `word` and `fed` ensure.
use Rattle.crc16.specs.CrcRegister.{fed_words}
use Rattle.stream.specs.StreamPackets.{Packet, crc_of, packet_words}
use Rattle.compiler.specs.Inner.PacketWriting.{put_more, once}
use Rattle.compiler.proofs.packet.Writer.multi.Goals as goal

pub returns : goal.returns
unfolding crc_of packet_words fed_words
returns c =
    let put = put_more (put_more c.word.ensures c.fed.ensures) c.fed-2.ensures in
    once Packet.MultiFrame (rw (c.header.ensures, c.fed.ensures.fed, c.word.ensures.fed) at put)
