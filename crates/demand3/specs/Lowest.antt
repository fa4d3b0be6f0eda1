-- Low, the smaller of the current index and the least bookmark, is never lowered: a call moves the current index on or to a bookmark,
-- sets a bookmark there, or takes one away. And a list of bookmarks not above a number stays so. Assumes nothing.
use Rattle.std.specs.Prelude.{ℕ, ◌≤◌, List}
use Rattle.patterns.specs.Lists.{All}
use Rattle.tokens.specs.declared.TokenIndex.{TokenIndex}

-- no bookmark is above a number
abbrev pub Below : ℕ → List TokenIndex → Type 0
Below top = All (λ (m : TokenIndex). m.0 ≤ top)
