-- `listing_text::put_number` meets its contract. The loop's invariant: what is left has a digit for each place before those that are put,
-- and its digits, and then those that are put, are those of the number. Assumes nothing.
use Rattle.std.proofs.Common.{◌≡◌, ◌++◌, drop, length}
use Rattle.listing_text.specs.Listing.{decimal}
use Rattle.listing_text.proofs.Numbers.{places}
use Rattle.listing_text.proofs.put_number.Given as goal

abbrev pub invariant-loop-i : goal.invariant-loop-i
invariant-loop-i l = (l.i ≡ length (decimal l.left)) × (places l.i l.left ++ drop l.i l.out ≡ decimal l.n)
