-- The event is a token.
-- Assumes nothing.
use Rattle.std.proofs.Common.{◌∙◌}
use Rattle.events.specs.PushingLaws.{token_is}
use Rattle.events.proofs.Stream.push_token.Goals as goal

pub returns : goal.returns
returns c = rw c.given.ensures (rw c.from.ensures at (c.push.ensures ∙ token_is _ _ _))
