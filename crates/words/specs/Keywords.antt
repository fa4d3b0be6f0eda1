-- The kind of a word, over any list of spellings.
-- Assumes nothing.
use Rattle.std.specs.Prelude.{ℕ, Bool, true, false, cond, ◌&&◌, List, [], ◌∷◌, eqb}
use Rattle.tokens.specs.Kinds.{IDENT}
use Rattle.tokens.specs.Tokens.{Spelling}

-- two texts are the same
unfoldable pub same : List ℕ → List ℕ → Bool
same [] [] = true
same [] (y ∷ ys) = false
same (x ∷ xs) [] = false
same (x ∷ xs) (y ∷ ys) = eqb x y && same xs ys

-- the kind of the first spelling that is the word, else IDENT
unfoldable pub keyword_of : List Spelling → List ℕ → ℕ
unfolding same
keyword_of [] w = IDENT
keyword_of (x ∷ xs) w = cond (same w x.bytes) x.kind (keyword_of xs w)
