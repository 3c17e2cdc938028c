-- `layout::range::owns_run` meets its contract: the frames of the run are a list of numbers, and each is tried.
use Rattle.std.proofs.Common.{◌∙◌, ◌+◌, rules, tests, refl}
use native.Mathlib.Omega.{arith}
use Rattle.std.proofs.lemmas.Iterator.{YieldsList-from_range}
use Rattle.std.proofs.lemmas.Iterator.Search.{all_from_yields_List}
use Rattle.layout.specs.Ownership.{owns}
use Rattle.layout.specs.Inner.CheckLoops.{run_all}
use Rattle.layout.proofs.range.owns_run.Goals as goal

pub returns : goal.returns
returns c =
    let a = c.args in
    all_from_yields_List (owns a.range) _ _ _ c.all.ensures.ran (YieldsList-from_range a.first (a.first + a.count) a.count refl (omega arith)) (λ x b q k. search (rules, tests))
    ∙ run_all (owns a.range) a.count a.first
