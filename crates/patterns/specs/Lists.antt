-- What holds of each element of a list, a test of each, and the members of a class: over any elements, said once.
-- By induction on the list, or on the number below which the members are listed. Assumes nothing.
use Rattle.std.specs.Prelude.{ℕ, zero, suc, Bool, true, false, ◌&&◌, List, [], ◌∷◌}

abbrev pub All : {A : Type 0} → (A → Type 0) → List A → Type 0
All P [] = Unit {0}
All P (x ∷ xs) = P x × All P xs

abbrev pub each : {A : Type 0} → (A → Bool) → List A → Bool
each f [] = true
each f (x ∷ xs) = f x && each f xs

-- the numbers below n that are in a class, from the last to the first
unfoldable pub members : ℕ → (ℕ → Bool) → List ℕ
members zero c = []
members (suc n) c = elim (c n) [ true ↦ n ∷ members n c | false ↦ members n c ]
