-- `numbers::number` meets its contract: a prefix leaves the digits of its base and begins no float; without one the integer is decimal.
-- Assumes nothing.
use Rattle.std.proofs.Common.{sym, ◌∙◌, ◌+◌, true, arith}
use Rattle.numbers.specs.Parts.{digits}
use Rattle.numbers.specs.Laws.{integer_ends, prefixed, plain}
use Rattle.numbers.proofs.Bases.{not_decimal}
use Rattle.numbers.proofs.number.Goals as goal

-- in the arm of the other bases a prefix stands there
pub overflow_add-at : goal.overflow_add-at
overflow_add-at c =
    let p = prefixed true integer_ends c.args.src.now c.args.at c.base_at-base.ensures (not_decimal c.in-Octal.is) in
    omega (arith, p.within)

pub overflow_add-at-in-Octal : goal.overflow_add-at-in-Octal
overflow_add-at-in-Octal c =
    let p = prefixed true integer_ends c.args.src.now c.args.at c.base_at-base.ensures (not_decimal c.in-Octal.is) in
    omega (arith, p.within)

pub returns-in-Decimal : goal.returns-in-Decimal
unfolding digits
returns-in-Decimal c = (
  c.decimal.ensures.0 ∙ plain true integer_ends _ _ (sym c.in-Decimal.is ∙ c.base_at-base.ensures),
  c.decimal.ensures.1,
)

pub returns-in-Octal : goal.returns-in-Octal
unfolding digits
returns-in-Octal c =
    let p = prefixed true integer_ends c.args.src.now c.args.at c.base_at-base.ensures (not_decimal c.in-Octal.is) in
    (c.unwrap_or.ensures ∙ c.end.ensures.value (c.args.at + 1) ∙ sym p.left.same, p.no_float)
