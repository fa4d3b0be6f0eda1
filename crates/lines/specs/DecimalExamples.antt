-- Examples that pin the definition: numbers behind a space, and places where there is none: at a digit, at a space with none behind it,
-- past the end. Each is computed by the definition itself. Assumes nothing.
use Rattle.std.specs.Prelude.{ℕ, ◌≡◌, refl, Option, Some, None, [], ◌∷◌, map}
use Rattle.patterns.specs.Walk.{span}
use Rattle.tokens.specs.Tokens.{ascii}
use Rattle.lines.specs.declared.decimals.Number.{Number}
use Rattle.lines.specs.Decimals.{number, behind}

abbrev to : ℕ → ℕ → Option Number
to n i = Some (record { value = n; end = i })

numbers : map (behind (ascii "ff 72 0;  1")) (1 ∷ 2 ∷ 3 ∷ 5 ∷ 8 ∷ 9 ∷ 11 ∷ []) ≡ None ∷ to 72 5 ∷ None ∷ to 0 7 ∷ None ∷ to 1 11 ∷ None ∷ []
unfolding number span
numbers = refl
