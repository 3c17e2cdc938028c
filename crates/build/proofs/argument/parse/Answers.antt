-- A byte that is no digit, or that leads past 2 ^ 32, ends the text as malformed; any other leads on.
use Rattle.std.proofs.Common.{◌∙◌, sym, arith, get_or}
use borrow.Author.Tests.{eqb-true, eqb-false}
use Rattle.build.specs.Inner.Decimal.{unfit_large, fit, parsed_none, parsed_starts, parsed_ends, parsed_goes, parsed_done}
use Rattle.build.proofs.argument.parse.Goals as goal

pub returns-then-is_empty : goal.returns-then-is_empty
returns-then-is_empty c = parsed_none _ (eqb-true _ _ (sym c.is_empty.ensures ∙ c.if-is_empty.true))

pub loop-x-init : goal.loop-x-init
loop-x-init c = (omega arith, parsed_starts _ (eqb-false _ _ (sym c.is_empty.ensures ∙ c.if-is_empty.false)))

pub returns-then-value-gt4294967295 : goal.returns-then-value-gt4294967295
returns-then-value-gt4294967295 c =
    let l = c.loop-x in let text = c.args.text.now in
    parsed_ends text l.x-index l.value (omega arith) l.invariant.1 (unfit_large l.value (get_or text l.x-index 0) (omega arith))

pub loop-x-preserved : goal.loop-x-preserved
loop-x-preserved c = (omega arith, grind (arith, fit, parsed_goes))

pub returns : goal.returns
returns c = let l = c.loop-x in parsed_done _ l.x-index l.value (omega arith) l.invariant.1
