-- `c_functions::rattle_listing` meets its contract: what listing_text answers is told as a number, and how long the text is as the other.
-- Assumes nothing.
use Rattle.std.proofs.Common.{Ok, Err}
use Rattle.c_functions.specs.ListingOf.{listing_so}
use Rattle.c_functions.proofs.c_listing.rattle_listing.Goals as goal

pub returns-in-Ok : goal.returns-in-Ok
returns-in-Ok c =
    let a = c.args in
    listing_so a.src.now a.out.now a.len.now (Ok c.in-Ok.n) c.in-Ok.is c.list.ensures

pub returns-in-Err : goal.returns-in-Err
returns-in-Err c =
    let a = c.args in
    rw c.from.ensures (listing_so a.src.now a.out.now a.len.now (Err c.in-Err.refusal) c.in-Err.is c.list.ensures)
