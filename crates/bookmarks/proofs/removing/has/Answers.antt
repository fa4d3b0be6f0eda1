-- One is live where its place is found.
-- Assumes nothing.
use Rattle.bookmarks.specs.PlaceLaws.{place_member}
use Rattle.bookmarks.proofs.removing.has.Goals as goal

pub returns : goal.returns
returns c = let m = place_member c.args.live c.args.mark c.args.bookmarks.now in cc
