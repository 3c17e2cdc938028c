-- `Writer::data` meets its contract: the words so far are written and fed.
-- By what `fed` ensures of the next word.
use Rattle.std.proofs.Common.{ℕ, List, [], ◌/◌, length, get_or, ap, refl, arith}
use Rattle.registers.specs.RegisterAddresses.{address_of}
use Rattle.crc16.specs.CrcRegister.{fed_words}
use Rattle.words.specs.WordsInBytes.{words_from, bytes_of}
use Rattle.words.proofs.Laws.WordBytes.{words_length}
use Rattle.compiler.specs.Inner.FrameDataWords.{chunk_word, words_last, fed_last}
use Rattle.compiler.specs.Inner.PacketWriting.{put_more}
use Rattle.compiler.proofs.packet.Writer.data.Goals as goal

pub loop-word-init : goal.loop-word-init
unfolding words_from fed_words bytes_of
loop-word-init c = record { same_output = refl; size = refl; place = omega arith; fed = refl; bytes = refl }

pub fed-requires : goal.fed-requires
fed-requires c =
    let l = c.loop-word in
    omega (arith, l.invariant.place, words_length l.word-index c.args.words.now)

pub loop-word-preserved : goal.loop-word-preserved
unfolding address_of
loop-word-preserved c =
    let l = c.loop-word in
    let ws = c.args.words.now in
    let word = chunk_word (length ws / 4) l.word-index ws _ (omega (arith, c.as_chunks.ensures.front_len)) (ap (λ (xs : List (List ℕ)). get_or xs l.word-index []) c.as_chunks.ensures.front) in
    let more = put_more l.invariant c.fed.ensures in
    rw (c.from_be_bytes.ensures, word, l.invariant.fed, fed_last, words_last) at more
