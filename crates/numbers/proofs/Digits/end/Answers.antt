-- `Digits::end` meets its contract: after a digit a run is left, and nothing is where no digit stands.
-- Assumes nothing.
use Rattle.std.proofs.Common.{ℕ, sym, ap, ◌∙◌, arith, Option, unwrap_or}
use Rattle.numbers.specs.Parts.{digit, digits}
use Rattle.numbers.specs.Onward.{head_end, absent}
use Rattle.numbers.proofs.Digits.end.Goals as goal

pub returns-in_err-first-clause-value : goal.returns-in_err-first-clause-value
unfolding digits
returns-in_err-first-clause-value c = λ none.
    ap (λ (o : Option ℕ). unwrap_or o none) c.from_residual.ensures
    ∙ absent _ _ c.args.src.now c.args.at none (λ l. absurd (omega (arith, c.in_err-first.ensures)))

pub returns-then-has-clause-value : goal.returns-then-has-clause-value
unfolding digits
returns-then-has-clause-value c = λ none.
    let first = c.in_ok-first.ensures.lookup.3 in
    head_end _ _ _ _ none first.0 (ap (digit c.args.self.base) (sym (first.1 0)) ∙ sym c.has.ensures ∙ c.if-has.true) c.run_end.ensures

pub returns-clause-value : goal.returns-clause-value
unfolding digits
returns-clause-value c = λ none.
    let first = c.in_ok-first.ensures.lookup.3 in
    absent _ _ c.args.src.now c.args.at none (λ l. ap (digit c.args.self.base) (sym (first.1 0)) ∙ sym c.has.ensures ∙ c.if-has.false)
