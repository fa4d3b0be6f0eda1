-- Examples that pin the definition: pairs one after the other, and what ends them. Each is computed by the definition itself.
-- Assumes nothing.
use Rattle.std.specs.Prelude.{◌≡◌, refl, [], ◌∷◌}
use Rattle.tokens.specs.Tokens.{ascii}
use Rattle.lines.specs.Hex.{decoded}

-- a pair that is cut off and one with another byte end it, and so does the room
in_hex : decoded 4 (ascii "0aff7") ∷ decoded 4 (ascii "90gf") ∷ decoded 1 (ascii "0aff") ∷ decoded 2 (ascii "FF") ∷ []
    ≡ (10 ∷ 255 ∷ []) ∷ (144 ∷ []) ∷ (10 ∷ []) ∷ [] ∷ []
unfolding decoded
in_hex = refl
