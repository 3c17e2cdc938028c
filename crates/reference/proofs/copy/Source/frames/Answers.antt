-- `Source::frames` meets its contract. The invariant goes by what is left: the frames not yet written, from where
-- the code stands, make what all of them make of the memory at first.
use Rattle.std.proofs.Common.{◌≡◌, ◌∙◌, ◌+◌, ◌-◌, ◌*◌, sym, arith}
use Rattle.parts.specs.Table.{length_at}
use Rattle.reference.specs.Inner.MachineTurns.{write_next, write_none}
use Rattle.reference.proofs.copy.Source.frames.Goals as goal

pub loop-i-preserved : goal.loop-i-preserved
loop-i-preserved c =
    let l = c.loop-i in
    let a = c.args in
    let n = length_at a.self.device in
    let size : a.body + 4 * n * l.i + 4 * n - (a.body + 4 * n * l.i) ≡ 4 * n = omega arith in
    (c.frame.auto.memory ∙ l.invariant.0, rw (c.frame.ensures, c.frame_size-size.ensures, size, write_next n a.first a.count l.i a.body a.self.layout.now l.memory (omega arith)) (rw c.frame_size-size.ensures at l.invariant.1))

pub returns : goal.returns
returns c =
    let l = c.loop-i in
    let a = c.args in
    sym (write_none (length_at a.self.device) _ (a.count - l.i) _ l.memory (omega arith)) ∙ l.invariant.1
