-- The test of 24, and then what `fetch` promises; refused, the window reads on as it was.
-- Assumes nothing.
use Rattle.std.proofs.Common.{sym, ◌∙◌}
use Rattle.window.specs.Window.{state}
use Rattle.window.specs.SoundLaws.{fit}
use Rattle.window.specs.ReachingLaws.{not_reached}
use Rattle.window.proofs.Window.reach.Goals as goal

pub returns-then-not-is_sound : goal.returns-then-not-is_sound
returns-then-not-is_sound c =
    let a = c.args in
    not_reached a.src.now (state a.self.now a.room.now) _ (sym c.is_sound.ensures ∙ c.if-not-is_sound.true)

pub fetch-requires : goal.fetch-requires
fetch-requires c = fit _ _ _ (sym c.is_sound.ensures ∙ c.if-not-is_sound.false)
