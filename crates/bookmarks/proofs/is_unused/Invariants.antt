-- 0 so far, and the rest 0, is all of them 0.
-- Assumes nothing.
use Rattle.std.proofs.Common.{◌≡◌, ◌&&◌, drop}
use Rattle.bookmarks.specs.Bookmarks.{unused}
use Rattle.bookmarks.proofs.is_unused.Given as goal

abbrev pub invariant-loop-place : goal.invariant-loop-place
invariant-loop-place l = (l.zero && unused (drop l.place-index l.places)) ≡ unused l.places
