-- The first spelling that is the word is found, and its kind is the answer (found).
-- Assumes nothing.
use Rattle.std.specs.Str.{bytes_eq}
use Rattle.std.proofs.Common.{◌∙◌, ap, rules, tests}
use Rattle.std.proofs.lemmas.Iterator.{YieldsList-from_slice}
use Rattle.std.proofs.lemmas.Iterator.Search.{find_from_yields_List}
use Rattle.words.specs.Spellings.{kind_of, found}
use Rattle.words.proofs.keywords.among.Goals as goal

pub returns-in-Some : goal.returns-in-Some
returns-in-Some c =
    let w = c.args.word.now in
    let xs = c.args.spellings.now in
    rw c.in-Some.is at (ap kind_of (find_from_yields_List (λ x. bytes_eq w x.0.now) _ _ _ c.find.ensures.ran (YieldsList-from_slice xs c.iter.ensures.rest) (λ x b q k. search (rules, tests)))) ∙ found xs w

pub returns-in-None : goal.returns-in-None
returns-in-None c =
    let w = c.args.word.now in
    let xs = c.args.spellings.now in
    rw c.in-None.is at (ap kind_of (find_from_yields_List (λ x. bytes_eq w x.0.now) _ _ _ c.find.ensures.ran (YieldsList-from_slice xs c.iter.ensures.rest) (λ x b q k. search (rules, tests)))) ∙ found xs w
