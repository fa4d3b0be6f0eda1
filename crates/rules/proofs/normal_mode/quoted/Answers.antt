-- Both ends are those of the rules, in the order of the rules.
-- Assumes nothing.
use Rattle.std.proofs.Common.{[], ◌∷◌}
use Rattle.tokens.specs.Kinds.{STRING_LIT}
use Rattle.tokens.specs.Tokens.{rule, string, multi_line_string}
use Rattle.rules.proofs.Better.{rule_matched, both_matched}
use Rattle.rules.proofs.normal_mode.quoted.Goals as goal

pub returns : goal.returns
returns c =
    let a = c.args in
    both_matched a.src.now a.at (rule STRING_LIT string ∷ []) (rule STRING_LIT multi_line_string ∷ []) c.longer.ensures
    (rule_matched a.src.now a.at STRING_LIT string c.one-short.ensures c.string.ensures)
    (rule_matched a.src.now a.at STRING_LIT multi_line_string c.one-long.ensures c.multi_line_string.ensures)
