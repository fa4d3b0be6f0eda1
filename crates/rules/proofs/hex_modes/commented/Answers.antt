-- Both ends are those of the rules, in the order of the rules.
-- Assumes nothing.
use Rattle.std.proofs.Common.{[], ◌∷◌}
use Rattle.patterns.specs.Pattern.{char}
use Rattle.tokens.specs.Kinds.{COMMENT}
use Rattle.tokens.specs.Tokens.{rule, block_comment, line_comment}
use Rattle.rules.proofs.Better.{rule_matched, both_matched}
use Rattle.rules.proofs.hex_modes.commented.Goals as goal

pub returns : goal.returns
returns c =
    let a = c.args in
    both_matched a.src.now a.at (rule COMMENT (block_comment char) ∷ []) (rule COMMENT line_comment ∷ []) c.longer.ensures
    (rule_matched a.src.now a.at COMMENT (block_comment char) c.one-block.ensures c.block_comment_of_chars-end.ensures)
    (rule_matched a.src.now a.at COMMENT line_comment c.one-line.ensures c.line_comment.ensures)
