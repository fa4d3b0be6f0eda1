-- What the computed forms of a pattern match: `either` what `alt` does, `follow` what `seq` does, `nullable` says whether the empty
-- text is matched, and `deriv b r` matches s exactly where r matches b ∷ s. Each by cases on the pattern. Assumes nothing.
use Rattle.std.specs.Prelude.{ℕ, ◌↔◌, List}
use Rattle.patterns.specs.Pattern.{Pat, Matches}

-- two patterns that match the same texts
abbrev pub Same : Pat → Pat → Type 0
Same a r = (u : List ℕ) → Matches a u ↔ Matches r u

-- Parts of a text may be exchanged for what means the same.

-- The computed forms of `alt` and `seq`.

-- The empty text.

-- One byte off a class, or off a character.
