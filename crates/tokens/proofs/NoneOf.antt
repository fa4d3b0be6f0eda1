-- A number that is none of a list: what the last arm of a match knows, and what the class of the list then says.
-- Assumes nothing.
use Rattle.std.specs.Prelude.{ℕ, ◌≡◌, refl, false, List, [], ◌∷◌}
use Rattle.std.proofs.Common.{ne_eqb}
use Rattle.tokens.specs.Tokens.{one_of}
use Rattle.tokens.specs.NoneOf.{NoneOf}

pub not_one : (xs : List ℕ) (a : ℕ) → NoneOf xs a → one_of xs a ≡ false
not_one [] a h = refl
not_one (x ∷ xs) a h = rw (ne_eqb a x h.1) (not_one xs a h.0)
