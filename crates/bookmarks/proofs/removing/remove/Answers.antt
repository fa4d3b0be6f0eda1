-- At the place found the copy takes the bookmark out, and none is live where no place is found.
-- Assumes nothing.
use Rattle.std.proofs.Common.{List, set, sym, ap, ◌∙◌}
use Rattle.tokens.specs.declared.TokenIndex.{TokenIndex}
use Rattle.bookmarks.specs.Bookmarks.{unused_place}
use Rattle.bookmarks.specs.PlaceLaws.{place_inside, copied_down, place_removed, no_place_removed}
use Rattle.bookmarks.proofs.removing.remove.Goals as goal

pub returns-in-Some : goal.returns-in-Some
returns-in-Some c =
    let a = c.args in
    let at = c.in-Some.at in
    let found = sym c.find.ensures ∙ c.in-Some.is in
    ap (λ (x : List TokenIndex). set x 63 unused_place) c.copy_within.ensures.after
    ∙ copied_down a.bookmarks.now at 63 c.told-bookmarks (place_inside a.live a.mark a.bookmarks.now at 63 c.told-bookmarks found)
    ∙ place_removed a.live a.mark a.bookmarks.now at found

pub returns-in_default : goal.returns-in_default
returns-in_default c =
    let a = c.args in
    no_place_removed a.live a.mark a.bookmarks.now (sym c.find.ensures ∙ c.in_default.is)
