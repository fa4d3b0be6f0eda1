-- `comments::block_comment_of_chars` meets its contract: it is the comment of characters (unit).
-- Assumes nothing.
use Rattle.comments.specs.Comments.{unit}
use Rattle.comments.proofs.block_comment_of_chars.Goals as goal

pub returns : goal.returns
unfolding unit
returns c = c.block.ensures
