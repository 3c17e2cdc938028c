-- `Writer::write` meets its contract: the header and then the word are the packet's words.
-- By what `word` and `fed` ensure.
use Rattle.stream.specs.StreamPackets.{Packet, crc_of, packet_words}
use Rattle.compiler.specs.Inner.PacketWriting.{put_more, once}
use Rattle.compiler.proofs.packet.Writer.write.Goals as goal

pub returns : goal.returns
unfolding crc_of packet_words
returns c = once (Packet.Write c.args.register c.args.word) (rw (c.header.ensures, c.word.ensures.fed) at (put_more c.word.ensures c.fed.ensures))
