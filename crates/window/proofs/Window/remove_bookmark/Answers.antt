-- The tests of 24 and 4, in that order; else the bookmarks without the first that equals it.
-- Assumes nothing.
use Rattle.std.proofs.Common.{refl, sym, ◌∙◌, arith}
use Rattle.token_record.specs.Record.{remove_bookmark}
use Rattle.bookmarks.specs.HeldLaws.{held_facts, length_without}
use Rattle.window.specs.Window.{state, marks}
use Rattle.window.specs.SoundLaws.{fit}
use Rattle.window.specs.WindowLaws.{not_sound, answered_now}
use Rattle.window.specs.MarkLaws.{not_removed, one_less}
use Rattle.window.proofs.Window.remove_bookmark.Goals as goal

pub returns-then-not-is_sound : goal.returns-then-not-is_sound
returns-then-not-is_sound c =
    let a = c.args in
    rw c.«refused».ensures
    (not_sound a.src.now (state a.self a.room.now) (remove_bookmark a.mark) (sym c.is_sound.ensures ∙ c.if-not-is_sound.true))

pub returns-then-not-has : goal.returns-then-not-has
returns-then-not-has c =
    let a = c.args in
    let s = state a.self a.room.now in
    rw c.refused-then-not-has.ensures
    (not_removed s a.mark (sym c.has.ensures ∙ c.if-not-has.true)
    ∙ answered_now a.src.now s (remove_bookmark a.mark) refl (fit _ _ _ (sym c.is_sound.ensures ∙ c.if-not-is_sound.false)))

pub overflow_sub-after : goal.overflow_sub-after
overflow_sub-after c =
    let a = c.args in
    let h = held_facts (fit _ _ _ (sym c.is_sound.ensures ∙ c.if-not-is_sound.false)).held_marks in
    let live = sym c.has.ensures ∙ c.if-not-has.false in
    omega (arith, length_without a.mark (marks a.self) live, h.counted)

pub returns : goal.returns
returns c =
    let a = c.args in
    let s = state a.self a.room.now in
    let f = fit _ _ _ (sym c.is_sound.ensures ∙ c.if-not-is_sound.false) in
    let live = sym c.has.ensures ∙ c.if-not-has.false in
    rw c.done.ensures
    (one_less s (held_facts f.held_marks) a.mark _ live c.remove.ensures
    ∙ answered_now a.src.now s (remove_bookmark a.mark) refl f)
