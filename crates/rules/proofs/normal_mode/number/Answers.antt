-- Both ends are those of the rules, and the float stands first.
-- Assumes nothing.
use Rattle.std.proofs.Common.{[], ◌∷◌}
use Rattle.tokens.specs.Kinds.{FLOAT_LIT, INTEGER_LIT}
use Rattle.tokens.specs.Tokens.{rule, float, integer}
use Rattle.rules.proofs.Better.{rule_matched, both_matched}
use Rattle.rules.proofs.normal_mode.number.Goals as goal

pub returns : goal.returns
returns c =
    let a = c.args in
    both_matched a.src.now a.at (rule FLOAT_LIT float ∷ []) (rule INTEGER_LIT integer ∷ []) c.longer.ensures
    (rule_matched a.src.now a.at FLOAT_LIT float c.one-float.ensures c.number-ends.ensures.1)
    (rule_matched a.src.now a.at INTEGER_LIT integer c.one-integer.ensures c.number-ends.ensures.0)
