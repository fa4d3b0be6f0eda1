-- A hit is taken; where there is none, no mode is left, as in the definition.
-- Assumes nothing.
use Rattle.std.proofs.Common.{rules, drop, []}
use Rattle.tokens.specs.declared.Mode.TheVariants.{Normal}
use Rattle.tokens.specs.Tokens.{tables_1}
use Rattle.rules.proofs.Choosing.{hit_or_next}
use Rattle.rules.proofs.normal.Goals as goal

pub returns : goal.returns
returns c =
    let a = c.args in
    hit_or_next tables_1 (drop a.at a.src.now) Normal [] _ c.normal.ensures c.hit_or.ensures (λ q. search rules)
