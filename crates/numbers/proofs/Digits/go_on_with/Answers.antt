-- `Digits::go_on_with` meets its contract: a byte of a run is a digit or, where they are allowed, an underscore (`run_is`).
-- Assumes nothing.
use Rattle.std.proofs.Common.{◌∙◌, ◌&&◌, eqb}
use Rattle.numbers.specs.Laws.{or_here, or_there, and_here, and_there, run_is}
use Rattle.numbers.proofs.Digits.go_on_with.Goals as goal

pub returns-then-has : goal.returns-then-has
returns-then-has c =
    or_here (c.args.self.underscores && eqb c.args.b 95) c.has.ensures c.if-has.true
    ∙ run_is _ _ _

pub returns-then-self : goal.returns-then-self
returns-then-self c =
    or_there c.has.ensures c.if-has.false (and_there (eqb c.args.b 95) c.if-self.true)
    ∙ run_is _ _ _

pub returns-else-self : goal.returns-else-self
returns-else-self c =
    or_there c.has.ensures c.if-has.false (and_here (eqb c.args.b 95) c.if-self.false)
    ∙ run_is _ _ _
