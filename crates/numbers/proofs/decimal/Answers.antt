-- `numbers::decimal` meets its contract: past the digits a suffix is left of the integer and a fraction of the float, and neither begins
-- with what may stand in the run of digits. Assumes nothing.
use Rattle.std.proofs.Common.{refl, sym, ◌∙◌, arith}
use Rattle.patterns.proofs.Walk.{onto}
use Rattle.tokens.specs.Tokens.{dec, or_underscore}
use Rattle.numbers.specs.Parts.{digits, suffix, fraction}
use Rattle.numbers.specs.Onward.{head_none, head_then}
use Rattle.numbers.specs.Laws.{suffix_apart, fraction_apart}
use Rattle.numbers.proofs.decimal.Goals as goal

pub returns-in-Some : goal.returns-in-Some
unfolding digits
returns-in-Some c =
    let e = c.in-Some.ensures.value c.args.at in (
      c.suffix_end.ensures ∙ onto (head_then dec (or_underscore dec) suffix _ _ e suffix_apart c.in-Some.ensures.after) refl,
      c.unwrap_or.ensures ∙ c.fraction_end.ensures c.args.at
          ∙ sym (head_then dec (or_underscore dec) fraction _ _ e fraction_apart c.in-Some.ensures.after).same,
    )

pub returns-in-None : goal.returns-in-None
unfolding digits
returns-in-None c =
    let e = c.in-None.ensures.value c.args.at in
    (head_none dec (or_underscore dec) suffix _ _ e (omega arith), head_none dec (or_underscore dec) fraction _ _ e (omega arith))
