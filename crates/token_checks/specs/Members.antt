-- The Unicode classes by their members: White_Space whole, and the first runs of Nd; and the order of the keywords. Each is computed by the
-- definition itself, over every value up to the last that is named. Assumes nothing.
use Rattle.std.specs.Prelude.{ℕ, ◌≡◌, refl, Bool, true, false, ◌&&◌, ◌||◌, List, [], ◌∷◌, eqb, ltb}
use Rattle.patterns.specs.Lists.{members}
use Rattle.tokens.specs.Unicode.{in_runs, digits_16, white}
use Rattle.tokens.specs.Tokens.{Spelling, ascii, words_1}

-- Whether one spelling comes before another in byte order, and whether each does before the next.
unfoldable pub before : List ℕ → List ℕ → Bool
before xs [] = false
before [] (y ∷ ys) = true
before (x ∷ xs) (y ∷ ys) = ltb x y || (eqb x y && before xs ys)

unfoldable pub in_byte_order : List Spelling → Bool
unfolding before
in_byte_order [] = true
in_byte_order (v ∷ []) = true
in_byte_order (v ∷ w ∷ ws) = before v.bytes w.bytes && in_byte_order (w ∷ ws)
