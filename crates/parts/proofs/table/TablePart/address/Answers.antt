-- `parts::table::TablePart::address` meets its contract. The invariant goes by what is left: the runs not yet searched, for the number
-- that is left, give what all columns give.
use Rattle.std.specs.Prelude.{Err}
use mathlib.Core.Path.{◌∙◌, refl, sym, ap}
use native.Mathlib.Omega.{arith}
use Rattle.parts.specs.FrameAddress.{address_in}
use Rattle.parts.specs.Inner.ColumnRuns.{runs_found, runs_past, runs_end, runs_fit}
use Rattle.parts.proofs.table.TablePart.address.Goals as goal

pub loop-i-init : goal.loop-i-init
loop-i-init c = refl

pub search-requires : goal.search-requires
search-requires c = rw c.run.ensures (runs_fit _ c.args.self.limits _ (omega arith))

pub returns-in-Ok : goal.returns-in-Ok
returns-in-Ok c =
    let l = c.loop-i in
    runs_found _ l.i l.left _ _ (omega arith) c.run.ensures c.search.ensures _ c.in-Ok.is
    ∙ l.invariant

pub loop-i-preserved : goal.loop-i-preserved
loop-i-preserved c =
    let l = c.loop-i in
    runs_past _ l.i l.left _ _ (omega arith) c.run.ensures c.search.ensures _ c.in-Err.is
    ∙ l.invariant

pub returns : goal.returns
unfolding address_in
returns c =
    let l = c.loop-i in
    ap Err c.into.ensures ∙ sym (ap (λ cs. address_in cs l.left) (runs_end c.args.self.part l.i (omega arith))) ∙ l.invariant
