-- An advance is what an iterator promises.
-- Assumes nothing.
use Rattle.reader.proofs.Iterating.{next_first, next_goes}
use Rattle.reader.proofs.remaining.TokensIterator.next.Goals as goal

pub returns-clause-steps : goal.returns-clause-steps
returns-clause-steps c = next_first c.args.self.now c.advance.new.self _ (c.advance.ensures.0, c.advance.ensures.2)

pub returns-clause-goes : goal.returns-clause-goes
returns-clause-goes c = next_goes c.args.self.now c.advance.new.self _ (c.advance.ensures.0, c.advance.ensures.2)
