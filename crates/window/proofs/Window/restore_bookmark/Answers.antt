-- The tests of 24 and 4, in that order; else the current index is the bookmark.
-- Assumes nothing.
use Rattle.std.proofs.Common.{refl, sym, ◌∙◌}
use Rattle.token_record.specs.Record.{restore_bookmark}
use Rattle.window.specs.Window.{state}
use Rattle.window.specs.SoundLaws.{fit}
use Rattle.window.specs.WindowLaws.{not_sound, answered_now}
use Rattle.window.specs.MarkLaws.{not_restored, restored}
use Rattle.window.proofs.Window.restore_bookmark.Goals as goal

pub returns-then-not-is_sound : goal.returns-then-not-is_sound
returns-then-not-is_sound c =
    let a = c.args in
    rw c.«refused».ensures
    (not_sound a.src.now (state a.self a.room.now) (restore_bookmark a.mark) (sym c.is_sound.ensures ∙ c.if-not-is_sound.true))

pub returns-then-has : goal.returns-then-has
returns-then-has c =
    let a = c.args in
    let s = state a.self a.room.now in
    rw c.done.ensures
    (restored s a.mark (sym c.has.ensures ∙ c.if-has.true)
    ∙ answered_now a.src.now s (restore_bookmark a.mark) refl (fit _ _ _ (sym c.is_sound.ensures ∙ c.if-not-is_sound.false)))

pub returns-else-has : goal.returns-else-has
returns-else-has c =
    let a = c.args in
    let s = state a.self a.room.now in
    rw c.refused-else-has.ensures
    (not_restored s a.mark (sym c.has.ensures ∙ c.if-has.false)
    ∙ answered_now a.src.now s (restore_bookmark a.mark) refl (fit _ _ _ (sym c.is_sound.ensures ∙ c.if-not-is_sound.false)))
