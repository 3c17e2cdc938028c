-- `loader::turn::advance` meets its contract: words that only fill the buffer are a turn.
use Rattle.std.proofs.Common.{arith}
use Rattle.loader.specs.Inner.Turn.{fill_turn}
use Rattle.loader.proofs.turn.advance.Goals as goal

pub returns-then-n-gt0 : goal.returns-then-n-gt0
returns-then-n-gt0 c =
    let a = c.args in
    let p = c.in-Data-Fdri-default-default in
    grind (arith, fill_turn a.device.now a.memory.now a.bytes.now c.fill.new.device c.fillable-n.result p.left p.filled)
