-- The event is an error.
-- Assumes nothing.
use Rattle.std.proofs.Common.{◌∙◌}
use Rattle.events.specs.PushingLaws.{error_is}
use Rattle.events.proofs.Stream.push_error.Goals as goal

pub returns : goal.returns
returns c = rw c.given.ensures (rw c.from.ensures at (c.push.ensures ∙ error_is _ _ _))
