-- `comments::block` meets its contract. The loop's invariant: `/*` stands at `at`, no `*/` from behind it to `i`, and what is left of the
-- pattern goes by whether a star stands before `i` (inside). The measure is what is left of the source. Assumes nothing.
use Rattle.std.proofs.Common.{◌-◌, length}
use Rattle.patterns.specs.Walk.{Came}
use Rattle.tokens.specs.Tokens.{block_comment}
use Rattle.comments.specs.Comments.{unit, inside}
use Rattle.comments.proofs.block.Given as goal

abbrev pub invariant-loop-i : goal.invariant-loop-i
invariant-loop-i l = Came (block_comment (unit l.chars)) l.src l.at (inside (unit l.chars) l.star) l.i l.at

abbrev pub decreases-loop-i : goal.decreases-loop-i
decreases-loop-i l = length l.src - l.i
