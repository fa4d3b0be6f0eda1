-- The numbers, each of its part.
-- Assumes nothing.
use Rattle.stream_numbers.specs.NumberLaws.{numbers_so}
use Rattle.stream_numbers.proofs.numbers_of.Goals as goal

pub returns : goal.returns
returns c =
    numbers_so c.args.stream
    c.low.ensures c.high.ensures c.low-2.ensures c.high-2.ensures c.low-3.ensures c.high-3.ensures
    c.low-4.ensures c.high-4.ensures c.low-5.ensures c.high-5.ensures c.truth.ensures
