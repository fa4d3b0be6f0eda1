-- The three ends are those of the rules, in the order of the rules.
-- Assumes nothing.
use Rattle.std.proofs.Common.{[], ◌∷◌}
use Rattle.patterns.specs.Pattern.{byte}
use Rattle.tokens.specs.Kinds.{REGEXP, COMMENT}
use Rattle.tokens.specs.Tokens.{rule, regexp, block_comment, line_comment}
use Rattle.rules.proofs.Better.{rule_matched, both_matched}
use Rattle.rules.proofs.normal_mode.slashed.Goals as goal

pub returns : goal.returns
returns c =
    let a = c.args in
    both_matched a.src.now a.at (rule REGEXP regexp ∷ []) (rule COMMENT (block_comment byte) ∷ rule COMMENT line_comment ∷ []) c.longer-2.ensures
    (rule_matched a.src.now a.at REGEXP regexp c.one-regexp.ensures c.regexp.ensures)
    (both_matched a.src.now a.at (rule COMMENT (block_comment byte) ∷ []) (rule COMMENT line_comment ∷ []) c.longer.ensures
    (rule_matched a.src.now a.at COMMENT (block_comment byte) c.one-block.ensures c.block_comment.ensures)
    (rule_matched a.src.now a.at COMMENT line_comment c.one-line.ensures c.line_comment.ensures))
