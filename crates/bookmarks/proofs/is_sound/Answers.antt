-- The definition's tests, but for the length, which is 64.
-- Assumes nothing.
use Rattle.std.proofs.Common.{sym, ◌∙◌}
use Rattle.bookmarks.specs.TestLaws.{held_many, held_tests}
use Rattle.bookmarks.proofs.is_sound.Goals as goal

pub returns-then-n-gt-BOOKMARKS : goal.returns-then-n-gt-BOOKMARKS
returns-then-n-gt-BOOKMARKS c =
    let a = c.args in
    held_many a.live a.top.0 a.bookmarks.now c.told-bookmarks c.if-n-gt-BOOKMARKS.true

pub returns-then-is_in_order : goal.returns-then-is_in_order
returns-then-is_in_order c =
    let a = c.args in
    let s = c.split_at.ensures in
    let t = held_tests a.live a.top.0 a.bookmarks.now c.told-bookmarks c.if-n-gt-BOOKMARKS.false in
    let o = sym c.is_in_order.ensures ∙ c.if-is_in_order.true in
    c.is_unused.ensures ∙ rw s.back (rw (rw s.front at o) at t)

pub returns-else-is_in_order : goal.returns-else-is_in_order
returns-else-is_in_order c =
    let a = c.args in
    let s = c.split_at.ensures in
    let t = held_tests a.live a.top.0 a.bookmarks.now c.told-bookmarks c.if-n-gt-BOOKMARKS.false in
    let o = sym c.is_in_order.ensures ∙ c.if-is_in_order.false in
    c.if-is_in_order.false ∙ (rw (rw s.front at o) at t)
