-- `Writer::data` meets its contract: the words so far are written and fed.
use Rattle.words.specs.WordsInBytes.{words_from}
use Rattle.crc16.specs.CrcRegister.{fed_words}
use Rattle.compiler.specs.Inner.PacketWriting.{Put}
use Rattle.compiler.proofs.packet.Writer.data.Given as goal

abbrev pub invariant-loop-word : goal.invariant-loop-word
invariant-loop-word l = let ws = words_from l.word-index l.words in Put l.initial.self ws (fed_words l.initial.self.crc 2 ws) l.self
