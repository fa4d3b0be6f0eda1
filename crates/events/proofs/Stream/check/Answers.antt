-- What the test says.
-- Assumes nothing.
use Rattle.events.specs.SoundLaws.{fit}
use Rattle.events.proofs.Stream.check.Goals as goal

pub returns-then-is_sound-clause-fit : goal.returns-then-is_sound-clause-fit
returns-then-is_sound-clause-fit c = fit _ c.is_sound.ensures c.if-is_sound.true
