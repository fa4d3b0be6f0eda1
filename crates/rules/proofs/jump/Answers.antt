-- A hit is taken; where there is none, the next mode is tried, as in the definition.
-- Assumes nothing.
use Rattle.std.proofs.Common.{rules, drop}
use Rattle.tokens.specs.declared.Mode.TheVariants.{HexPattern, HexJump}
use Rattle.tokens.specs.Tokens.{tables_1}
use Rattle.tokens.specs.Scan.{tried}
use Rattle.rules.proofs.Choosing.{hit_or_next}
use Rattle.rules.proofs.jump.Goals as goal

pub returns : goal.returns
returns c =
    let a = c.args in
    hit_or_next tables_1 (drop a.at a.src.now) HexJump (tried HexPattern) _ c.jump.ensures c.hit_or.ensures (λ q. search rules)
