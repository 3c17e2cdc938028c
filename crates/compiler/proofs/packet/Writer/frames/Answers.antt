-- `Writer::frames` meets its contract: headers, data, zeros and the check word, one after the other, are the packet's words.
-- By what each callee ensures, joined.
use Rattle.std.proofs.Common.{◌≡◌, ℕ, ◌+◌, ◌++◌, ◌/◌, length, replicate, arith, length-append}
use Rattle.std.proofs.lemmas.List.{length-replicate}
use Rattle.crc16.specs.Laws.FedWords.{fed_append}
use Rattle.registers.specs.RegisterAddresses.{address_of}
use Rattle.stream.specs.StreamPackets.{Packet, crc_of, packet_words}
use Rattle.words.proofs.Laws.WordBytes.{words_length}
use Rattle.compiler.specs.Inner.FrameDataWords.{data_words}
use Rattle.compiler.specs.Inner.PacketWriting.{put_more, put_ended, once}
use Rattle.compiler.proofs.packet.Writer.frames.Goals as goal

pub zeros-requires : goal.zeros-requires
zeros-requires c = omega (arith, words_length (length c.args.words.now / 4) c.args.words.now)

pub word-requires-3 : goal.word-requires-3
word-requires-3 c = omega (arith, words_length (length c.args.words.now / 4) c.args.words.now, length-replicate {A = ℕ} c.args.zeros 0)

pub returns : goal.returns
unfolding address_of crc_of packet_words
returns c =
    let ws = data_words c.args.words.now in
    let zs = replicate {A = ℕ} c.args.zeros 0 in
    let n = length c.args.words.now / 4 in
    let count : length (ws ++ zs) ≡ n + c.args.zeros = simp (length-append, length-replicate) (omega (arith, words_length n c.args.words.now)) in
    let put = put_ended (put_more (put_more (put_more (put_more c.word.ensures c.word-2.ensures) c.data.ensures) c.zeros.ensures) c.word-3.ensures) 0 in
    once (Packet.FrameData (ws ++ zs))
    (rw count (rw (c.header.ensures, c.check_word.ensures, c.zeros.ensures.fed, c.data.ensures.fed, c.word-2.ensures.fed, c.word.ensures.fed, fed_append) at put))
