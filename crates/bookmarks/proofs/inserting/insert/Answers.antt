-- The copy at the place of `mark` puts it behind those that are no greater.
-- Assumes nothing.
use Rattle.std.proofs.Common.{List, set, ap, ◌∙◌, arith}
use Rattle.tokens.specs.declared.TokenIndex.{TokenIndex}
use Rattle.bookmarks.specs.InsertingLaws.{place_le, copied_up, shifted_inserted, none_inserted}
use Rattle.bookmarks.proofs.inserting.insert.Goals as goal

pub returns-then-n-lt-BOOKMARKS : goal.returns-then-n-lt-BOOKMARKS
returns-then-n-lt-BOOKMARKS c =
    let a = c.args in
    let xs = a.bookmarks.now in
    let at = c.place-at in
    ap (λ (x : List TokenIndex). set x at.result a.mark) c.copy_within.ensures.after
    ∙ copied_up xs at.result a.live a.mark (place_le a.live a.mark xs at.ensures.place) (omega arith)
    ∙ shifted_inserted a.live a.mark xs at.ensures.place c.if-n-lt-BOOKMARKS.true

pub returns-else-n-lt-BOOKMARKS : goal.returns-else-n-lt-BOOKMARKS
returns-else-n-lt-BOOKMARKS c =
    let a = c.args in
    none_inserted a.live a.mark a.bookmarks.now c.if-n-lt-BOOKMARKS.false
