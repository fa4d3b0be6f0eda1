-- In order so far, and the rest in order behind the last passed, is in order as a whole.
-- Assumes nothing.
use Rattle.std.proofs.Common.{◌≡◌, ◌&&◌, drop}
use Rattle.bookmarks.specs.Bookmarks.{in_order}
use Rattle.bookmarks.proofs.is_in_order.Given as goal

abbrev pub invariant-loop-mark : goal.invariant-loop-mark
invariant-loop-mark l = (l.ordered && in_order l.low l.top.0 (drop l.mark-index l.marks)) ≡ in_order 0 l.top.0 l.marks
