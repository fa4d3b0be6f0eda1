-- `Digits::run_end` meets its contract: as many bytes are counted as stand in the run (run_counted).
-- Assumes nothing.
use Rattle.std.proofs.Common.{ℕ, ◌+◌, ◌∙◌, ap, drop, take_all, length-drop, arith, rules, tests}
use Rattle.std.proofs.lemmas.Iterator.{YieldsList-from_slice}
use Rattle.std.proofs.lemmas.Iterator.Consumers.{YieldsList-at, count_from_yields_List}
use Rattle.std.proofs.lemmas.Iterator.Search.{YieldsList-from_take_while}
use Rattle.numbers.specs.Parts.{run}
use Rattle.numbers.specs.Laws.{run_counted}
use Rattle.numbers.proofs.Digits.run_end.Goals as goal

pub returns : goal.returns
returns c =
    let a = c.args in
    let f = run a.self.base a.self.underscores in
    let rest = drop a.at a.src.now in
    let counted = count_from_yields_List c.take_while.result c.count.result c.count.ensures.ran
    (YieldsList-from_take_while _ f (YieldsList-at c.take_while.ensures.source (YieldsList-from_slice rest (c.iter.ensures.rest ∙ take_all _ rest (omega (arith, length-drop a.at a.src.now))))) c.take_while.ensures.closure c.take_while.ensures.done
    (λ x b q k. search (rules, tests))) in
    ap (λ (n : ℕ). a.at + n) (counted ∙ run_counted f rest)
