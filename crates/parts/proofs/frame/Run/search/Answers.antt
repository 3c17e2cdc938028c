-- `parts::frame::Run::search` meets its contract. The invariant goes by what is left: the columns not yet passed, searched for
-- the number that is left, give what the whole run gives, whatever columns follow. It holds after the leap, by `run_past`.
use Rattle.std.specs.Prelude.{Ok}
use mathlib.Core.Path.{◌∙◌, sym, ap}
use native.Mathlib.Omega.{arith}
use Rattle.parts.specs.FrameAddress.{address_in}
use Rattle.parts.specs.Inner.ColumnRuns.{resumed, run_here, run_later, run_end, run_past}
use Rattle.parts.proofs.frame.Run.search.Goals as goal

pub loop-i-init : goal.loop-i-init
loop-i-init c = (omega arith, omega arith, λ rest. sym (run_past _ _ _ _ rest _ c.leap-passed.result (omega arith) (omega arith)))

pub returns-then-left-self : goal.returns-then-left-self
unfolding resumed
returns-then-left-self c rest =
    let l = c.loop-i in
    sym (l.invariant.2 rest) ∙ run_here _ _ _ _ rest l.i l.left (omega arith) (omega arith) ∙ ap Ok (sym c.address_of.ensures)

pub loop-i-preserved : goal.loop-i-preserved
loop-i-preserved c =
    let l = c.loop-i in
    (omega arith, omega arith, λ rest. sym (run_later _ _ _ _ rest l.i l.left (omega arith) (omega arith)) ∙ l.invariant.2 rest)

pub returns : goal.returns
unfolding resumed
returns c rest =
    let l = c.loop-i in
    sym (l.invariant.2 rest) ∙ ap (λ cs. address_in cs l.left) (run_end _ _ _ _ rest l.i l.left (omega arith))
