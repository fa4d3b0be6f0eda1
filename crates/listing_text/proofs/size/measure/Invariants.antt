-- `listing_text::measure` meets its contract. The loop's invariant: the tokens so far and those that are left are all, and so are the
-- bytes of their lines. Assumes nothing.
use Rattle.reader.specs.Following.{rest}
use Rattle.listing_text.specs.Measuring.{Measured}
use Rattle.listing_text.proofs.size.measure.Given as goal

abbrev pub invariant-loop-token : goal.invariant-loop-token
invariant-loop-token l =
    (goal.iterator-loop-token).can_next l.token-iterator × (goal.iterator-loop-token).is_finite l.token-iterator
    × Measured (rest l.fn.tokens.src.now l.fn.tokens.reader) l.count l.bytes (rest l.token-iterator.src.now l.token-iterator.reader)
