-- `Writer::heading` meets its contract: the first three packets.
-- By joining what the calls write, once L and IDCODE are known. There is room by sizes alone, whatever word is written.
use Rattle.std.proofs.Common.{arith}
use Rattle.parts.proofs.Laws.Figures.{figures}
use Rattle.stream.specs.Laws.StreamLength.{size, sizes}
use Rattle.compiler.specs.Inner.PacketWriting.{first_room, joined}
use Rattle.compiler.proofs.packet.Writer.heading.Goals as goal

pub command-requires : goal.command-requires
command-requires c = first_room c.args.self.now _ _ c.requires.1

pub overflow_sub-length_at : goal.overflow_sub-length_at
overflow_sub-length_at c = omega (arith, c.length_at.ensures, (figures _ c.requires.0).length_positive)

pub write-requires : goal.write-requires
unfolding sizes size
write-requires c = omega (arith, c.command.ensures.place, c.command.ensures.size, c.requires.1)

pub write-requires-2 : goal.write-requires-2
unfolding sizes size
write-requires-2 c = omega (arith, c.command.ensures.place, c.command.ensures.size, c.write.ensures.place, c.write.ensures.size, c.requires.1)

pub returns : goal.returns
returns c = joined (joined c.command.ensures (rw c.length_at.ensures at c.write.ensures)) (rw c.idcode_at.ensures at c.write-2.ensures)
