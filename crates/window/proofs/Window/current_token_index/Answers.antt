-- The test of 24; else the index, and nothing changes.
-- Assumes nothing.
use Rattle.std.proofs.Common.{refl, sym, ◌∙◌}
use Rattle.token_record.specs.Record.{current_token_index}
use Rattle.window.specs.Window.{state, answered}
use Rattle.window.specs.SoundLaws.{fit}
use Rattle.window.specs.WindowLaws.{not_sound, answered_now}
use Rattle.window.proofs.Window.current_token_index.Goals as goal

pub returns-then-not-is_sound : goal.returns-then-not-is_sound
returns-then-not-is_sound c =
    let a = c.args in
    rw c.«refused».ensures
    (not_sound a.src.now (state a.self a.room.now) current_token_index (sym c.is_sound.ensures ∙ c.if-not-is_sound.true))

pub returns : goal.returns
unfolding answered
returns c =
    let a = c.args in
    rw c.done.ensures
    (answered_now a.src.now (state a.self a.room.now) current_token_index refl
    (fit _ _ _ (sym c.is_sound.ensures ∙ c.if-not-is_sound.false)))
