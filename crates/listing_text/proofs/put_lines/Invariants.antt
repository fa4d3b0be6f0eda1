-- `listing_text::put_lines` meets its contract. The loop's invariant: the tokens so far and those that are left are all; and to put the
-- lines that are left from here on is to put all of them from the start. Assumes nothing.
use Rattle.reader.specs.Following.{rest}
use Rattle.listing_text.specs.Turns.{Writing}
use Rattle.listing_text.proofs.put_lines.Given as goal

abbrev pub invariant-loop-token : goal.invariant-loop-token
invariant-loop-token l =
    (goal.iterator-loop-token).can_next l.token-iterator × (goal.iterator-loop-token).is_finite l.token-iterator
    × Writing (rest l.fn.tokens.src.now l.fn.tokens.reader) 0 l.initial.out l.count l.len l.out (rest l.token-iterator.src.now l.token-iterator.reader)
