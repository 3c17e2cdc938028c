-- `words::has_all` meets its contract.
-- By std's law of `all` on a chain, and the law of words that are there where all of them are read.
use Rattle.std.proofs.Common.{◌∙◌, arith, rules, tests}
use Rattle.std.proofs.lemmas.Iterator.{YieldsList-from_slice}
use Rattle.std.proofs.lemmas.Iterator.Consumers.{YieldsList-from_enumerate}
use Rattle.std.proofs.lemmas.Iterator.Search.{all_from_yields_List}
use Rattle.words.proofs.Laws.WordTests.{is_read, has_read}
use Rattle.words.proofs.has_all.Goals as goal

pub returns : goal.returns
returns c =
    let a = c.args in
    let there = has_read a.bytes.now a.at a.words.now (λ i. omega (arith, c.type_inv.bytes i)) (λ i. omega (arith, c.type_inv.words i)) c.requires in
    all_from_yields_List (is_read a.bytes.now a.at) _ _ c.all.result c.all.ensures.ran (YieldsList-from_enumerate (YieldsList-from_slice a.words.now cc) cc) (λ x b q k. search (rules, tests)) ∙ there
