-- A small pattern language over bytes: what a pattern is, which texts it matches, and how its longest match is computed.
-- Assumes nothing.
use Rattle.std.specs.Prelude.{◌≡◌, refl, [], ◌∷◌}
use Rattle.patterns.specs.Pattern.{alt, literal, longest, walk}

-- The plain meaning: which texts a pattern matches.

-- Patterns made of these.

-- The longest match, computed byte by byte: `deriv b r` is what is left of r after the byte b. (Longest.antt: this is right.)

-- of `a` or `abc`, the text `ab` has one byte, and `abc` all three
best_end_kept : longest (alt (literal (97 ∷ [])) (literal (97 ∷ 98 ∷ 99 ∷ []))) (97 ∷ 98 ∷ [])
    ∷ longest (alt (literal (97 ∷ [])) (literal (97 ∷ 98 ∷ 99 ∷ []))) (97 ∷ 98 ∷ 99 ∷ [])
    ∷ []
    ≡ 1 ∷ 3 ∷ []
unfolding walk
best_end_kept = refl
