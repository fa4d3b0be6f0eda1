-- The parts, each read from its numbers.
-- Assumes nothing.
use Rattle.stream_numbers.specs.NumberLaws.{stream_so}
use Rattle.stream_numbers.proofs.stream_of.Goals as goal

pub returns : goal.returns
returns c =
    stream_so c.args.numbers c.joined.ensures c.joined-2.ensures c.joined-3.ensures c.joined-4.ensures c.joined-5.ensures
