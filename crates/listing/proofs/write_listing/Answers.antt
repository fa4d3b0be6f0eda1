-- `listing::write_listing` may take the text from what is written: what `list` answers is no longer than that. Assumes nothing.
use Rattle.std.proofs.Common.{sym, length-take-le}
use Rattle.listing_text.proofs.ListedLaws.{listed_written}
use Rattle.listing.proofs.write_listing.Goals as goal

pub slice_bounds-write_all-end : goal.slice_bounds-write_all-end
slice_bounds-write_all-end g c = sym (length-take-le _ _ (listed_written _ _ c.in-Ok.ensures).0)
