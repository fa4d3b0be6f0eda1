-- The blanks and the newlines are two lists of rules; the better hit of the two is that of both.
-- Assumes nothing.
use Rattle.std.proofs.Common.{[], ◌∷◌, map}
use Rattle.tokens.specs.Kinds.{WHITESPACE}
use Rattle.tokens.specs.Tokens.{rule, spelled, blanks, newlines}
use Rattle.rules.proofs.Better.{rule_matched, both_matched}
use Rattle.rules.proofs.spacing.spacing.Goals as goal

pub returns : goal.returns
returns c =
    let a = c.args in
    both_matched a.src.now a.at (rule WHITESPACE blanks ∷ []) (map spelled newlines) c.longer.ensures
    (rule_matched a.src.now a.at WHITESPACE blanks c.one-blanks.ensures c.blanks.ensures) c.newline.ensures
