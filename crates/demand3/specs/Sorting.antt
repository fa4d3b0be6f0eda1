-- The window keeps in order the bookmarks that the record keeps in no order. To insert each in turn puts a list in order, and changes
-- neither how many there are, which are members, nor the least; and taking one away may come before or after. Assumes nothing.
use mathlib.Core.List.{List, [], ◌∷◌}
use Rattle.tokens.specs.declared.TokenIndex.{TokenIndex}
use Rattle.bookmarks.specs.Bookmarks.{insert}

unfoldable pub sorted : List TokenIndex → List TokenIndex
unfolding insert
sorted [] = []
sorted (m ∷ ms) = insert m (sorted ms)
