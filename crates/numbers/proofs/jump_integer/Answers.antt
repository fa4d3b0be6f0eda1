-- `numbers::jump_integer` meets its contract: a prefix leaves the digits of its base, and without one the integer is decimal.
-- Assumes nothing.
use Rattle.std.proofs.Common.{sym, ap, ◌∙◌, ◌+◌, false, arith, drop}
use Rattle.patterns.specs.Pattern.{walk}
use Rattle.patterns.proofs.Walk.{start}
use Rattle.numbers.specs.Parts.{digits}
use Rattle.numbers.specs.Laws.{jump_ends, prefixed, plain}
use Rattle.numbers.specs.declared.Base.{Base}
use Rattle.numbers.specs.declared.Base.TheVariants.{Decimal}
use Rattle.numbers.proofs.Bases.{not_decimal}
use Rattle.numbers.proofs.jump_integer.Goals as goal

-- in the arm of the other bases a prefix stands there
pub overflow_add-at : goal.overflow_add-at
overflow_add-at c =
    let p = prefixed false jump_ends c.args.src.now c.args.at c.base_at-base.ensures (not_decimal c.in-Octal.is) in
    omega (arith, p.within)

pub overflow_add-at-in-Octal : goal.overflow_add-at-in-Octal
overflow_add-at-in-Octal c =
    let p = prefixed false jump_ends c.args.src.now c.args.at c.base_at-base.ensures (not_decimal c.in-Octal.is) in
    omega (arith, p.within)

pub returns-in-Decimal : goal.returns-in-Decimal
unfolding digits
returns-in-Decimal c =
    let a = c.args in
    c.unwrap_or.ensures ∙ c.end.ensures.value a.at
    ∙ ap (λ (base : Base). walk (digits base false) (drop a.at a.src.now) a.at a.at) c.in-Decimal.is
    ∙ sym (start (digits Decimal false) a.src.now a.at).same
    ∙ plain false jump_ends _ _ (sym c.in-Decimal.is ∙ c.base_at-base.ensures)

pub returns-in-Octal : goal.returns-in-Octal
unfolding digits
returns-in-Octal c =
    let p = prefixed false jump_ends c.args.src.now c.args.at c.base_at-base.ensures (not_decimal c.in-Octal.is) in
    c.unwrap_or-in-Octal.ensures ∙ c.end-in-Octal.ensures.value (c.args.at + 1) ∙ sym p.left.same
