-- `listing_text::number_len` meets its contract: a number has one digit more than there are powers of ten up to it.
-- Assumes nothing.
use Rattle.std.proofs.Common.{ℕ, leb, ◌∙◌, arith, rules, tests}
use Rattle.std.proofs.lemmas.Iterator.{YieldsList-from_slice}
use Rattle.std.proofs.lemmas.Iterator.Consumers.{count_from_yields_List}
use Rattle.std.proofs.lemmas.Iterator.Search.{YieldsList-from_take_while}
use Rattle.std.proofs.lemmas.List.Folds.{length-prefix_len}
use Rattle.listing_text.proofs.Numbers.{decimal_short, tens, length_tens}
use Rattle.listing_text.proofs.form.number_len.Goals as goal

pub returns : goal.returns
returns c =
    let n = c.args.n in
    let p = λ (k : ℕ). leb k n in
    let e =
    count_from_yields_List c.take_while.result _ c.count.ensures.ran
    (YieldsList-from_take_while _ p (YieldsList-from_slice (tens 9) cc) c.take_while.ensures.closure c.take_while.ensures.done (λ x b q k. search (rules, tests)))
    ∙ length-prefix_len p (tens 9) in
    let l = length_tens 9 n (omega arith) in
    (omega (arith, e, l), omega (arith, e, l, decimal_short 9 n (omega arith)))
