-- The tests of 24 and 3, in that order; else the bookmark among the others, in order.
-- Assumes nothing.
use Rattle.std.proofs.Common.{◌≤◌, ◌<◌, refl, sym, ◌∙◌, arith}
use Rattle.token_record.specs.Record.{bookmark, bookmark_limit}
use Rattle.bookmarks.specs.HeldLaws.{held_facts}
use Rattle.window.specs.Window.{state}
use Rattle.window.specs.SoundLaws.{fit}
use Rattle.window.specs.WindowLaws.{not_sound, answered_now}
use Rattle.window.specs.MarkLaws.{full, one_more}
use Rattle.window.proofs.Window.bookmark.Goals as goal

pub returns-then-not-is_sound : goal.returns-then-not-is_sound
returns-then-not-is_sound c =
    let a = c.args in
    rw c.«refused».ensures (not_sound a.src.now (state a.self a.room.now) bookmark (sym c.is_sound.ensures ∙ c.if-not-is_sound.true))

pub returns-then-self-eq-BOOKMARKS : goal.returns-then-self-eq-BOOKMARKS
returns-then-self-eq-BOOKMARKS c =
    let a = c.args in
    let s = state a.self a.room.now in
    let h : bookmark_limit ≤ a.self.live = omega arith in
    rw c.refused-then-self-eq-BOOKMARKS.ensures
    (full s h ∙ answered_now a.src.now s bookmark refl (fit _ _ _ (sym c.is_sound.ensures ∙ c.if-not-is_sound.false)))

pub overflow_add-after : goal.overflow_add-after
overflow_add-after c = let h = held_facts (fit _ _ _ (sym c.is_sound.ensures ∙ c.if-not-is_sound.false)).held_marks in omega (arith, h.few)

pub returns : goal.returns
returns c =
    let a = c.args in
    let s = state a.self a.room.now in
    let f = fit _ _ _ (sym c.is_sound.ensures ∙ c.if-not-is_sound.false) in
    let h = held_facts f.held_marks in
    let l : a.self.live < bookmark_limit = omega (arith, h.few) in
    rw c.done.ensures
    (one_more s h _ l c.insert.ensures
    ∙ answered_now a.src.now s bookmark refl f)
