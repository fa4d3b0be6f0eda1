-- A number that is none of a list: what the last arm of a match knows, and what the class of the list then says.
-- Assumes nothing.
use Rattle.std.specs.Prelude.{ℕ, ◌≡◌, List, [], ◌∷◌}

abbrev pub NoneOf : List ℕ → ℕ → Type 0
NoneOf [] a = Unit {0}
NoneOf (x ∷ xs) a = NoneOf xs a × (a ≡ x → ⊥)
