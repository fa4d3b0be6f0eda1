-- Examples that pin the definitions: every keyword and operator, texts that are and are not one token, classes, the Unicode tables.
-- Each is computed by the definitions themselves. Assumes nothing.
use Rattle.std.specs.Prelude.{ℕ, ◌+◌, Bool, true, cond, ◌&&◌, List, [], ◌∷◌, map, length, leb, eqb}
use Prim.Native.String.{String}
use Rattle.tokens.specs.declared.Mode.{Mode}
use Rattle.tokens.specs.Tokens.{ascii, tables_1}
use Rattle.tokens.specs.Scan.{best, rules}

-- the kind of a text that is one token of the mode, and 0 for any other
unfoldable pub one_token : Mode → List ℕ → ℕ
unfolding best rules
one_token m s = let h = best (rules tables_1 m) s in cond (eqb h.len (length s)) h.kind 0

unfoldable pub kinds : Mode → List String → List ℕ
unfolding one_token
kinds m texts = map (λ (s : String). one_token m (ascii s)) texts

-- Nd of Unicode 16.0: 76 runs of ten, in order and apart; the sum of their first values, so that no one of them can move
unfoldable pub sum : List ℕ → ℕ
sum [] = 0
sum (x ∷ xs) = x + sum xs

abbrev pub spaced : List ℕ → Bool
spaced [] = true
spaced (d ∷ []) = true
spaced (d ∷ e ∷ ds) = leb (d + 10) e && spaced (e ∷ ds)
