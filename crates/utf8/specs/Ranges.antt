-- Two functions that agree on a range, as one computed test, agree at each number in it.
-- By induction on the range. Assumes nothing.
use Rattle.std.specs.Prelude.{ℕ, zero, suc, ◌+◌, ◌-◌, ◌≤◌, ◌<◌, ◌≡◌, List, [], ◌∷◌, map, eqb}
use Rattle.std.proofs.Common.{arith, eqb-true}
use Rattle.std.proofs.lemmas.Bool.{eqb-false}
use Rattle.patterns.proofs.Bools.{by_test}

-- n numbers from low on
abbrev pub from : ℕ → ℕ → List ℕ
from low zero = []
from low (suc n) = low ∷ from (suc low) n

module _ {A : Type 0} (f g : ℕ → A) where
  agree : (low n : ℕ) → map f (from low n) ≡ map g (from low n) → (b : ℕ) → low ≤ b → b < low + n → f b ≡ g b
  agree low zero e b h k = absurd (omega arith)
  agree low (suc n) e b h k =
      by_test (eqb b low) (λ z. let first : f low ≡ g low = cc in rw (eqb-true b low z) first)
      (λ z. let rest : map f (from (suc low) n) ≡ map g (from (suc low) n) = cc in
      let other : ¬ (b ≡ low) = eqb-false b low z in
      agree (suc low) n rest b (omega arith) (omega arith))

  -- from low to high
  abbrev pub Same : ℕ → ℕ → Type 0
  Same low high = map f (from low (suc high - low)) ≡ map g (from low (suc high - low))

  pub same_at : (low high b : ℕ) → Same low high → low ≤ b → b ≤ high → f b ≡ g b
  same_at low high b e p q = agree low (suc high - low) e b p (omega arith)
