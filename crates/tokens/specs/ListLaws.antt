-- The list of tokens: it is the scan's answer and then the list from there, and it tiles the source. Since each token is at least
-- one byte long, as many turns as there are bytes are enough, and more change nothing. Assumes nothing.
use Prim.Native.Nat.{ℕ, ◌<◌}
use Rattle.std.specs.Prelude.{◌≡◌, List, [], ◌∷◌}
use Rattle.tokens.specs.declared.Token.{Token}

-- the tokens lie one after the other from a to z, none of them empty
abbrev pub Tiles : ℕ → ℕ → List Token → Type 0
Tiles a z [] = a ≡ z
Tiles a z (x ∷ xs) = (x.start.0 ≡ a) × (a < x.end.0) × Tiles x.end.0 z xs
