-- `Writer::zeros` meets its contract: the zeros so far are written and fed.
-- By what `fed` ensures of the next zero.
use Rattle.std.proofs.Common.{ℕ, refl, arith}
use Rattle.std.proofs.lemmas.List.{length-replicate}
use Rattle.registers.specs.RegisterAddresses.{address_of}
use Rattle.crc16.specs.CrcRegister.{fed_words}
use Rattle.words.specs.WordsInBytes.{bytes_of}
use Rattle.compiler.specs.Inner.FrameDataWords.{zeros_last, fed_last}
use Rattle.compiler.specs.Inner.PacketWriting.{put_more}
use Rattle.compiler.proofs.packet.Writer.zeros.Goals as goal

pub loop-init : goal.loop-init
unfolding fed_words bytes_of
loop-init c = record { same_output = refl; size = refl; place = omega arith; fed = refl; bytes = refl }

pub fed-requires : goal.fed-requires
fed-requires c =
    let l = c.loop in
    omega (arith, l.invariant.place, length-replicate {A = ℕ} l.counter 0)

pub loop-preserved : goal.loop-preserved
unfolding address_of
loop-preserved c =
    let l = c.loop in
    let more = put_more l.invariant c.fed.ensures in
    rw (l.invariant.fed, fed_last, zeros_last) at more
