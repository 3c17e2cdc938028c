-- `Writer::zeros` meets its contract: the zeros so far are written and fed.
use Rattle.std.proofs.Common.{ℕ, replicate}
use Rattle.crc16.specs.CrcRegister.{fed_words}
use Rattle.compiler.specs.Inner.PacketWriting.{Put}
use Rattle.compiler.proofs.packet.Writer.zeros.Given as goal

abbrev pub invariant-loop : goal.invariant-loop
invariant-loop l = let ws = replicate {A = ℕ} l.counter 0 in Put l.initial.self ws (fed_words l.initial.self.crc 2 ws) l.self
