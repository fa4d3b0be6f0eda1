-- `comments::block_comment` meets its contract: it is the comment of bytes (unit).
-- Assumes nothing.
use Rattle.comments.specs.Comments.{unit}
use Rattle.comments.proofs.block_comment.Goals as goal

pub returns : goal.returns
unfolding unit
returns c = c.block.ensures
