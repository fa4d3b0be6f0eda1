-- The contracts leave no choice: the number answered, and every number that is lent, can be read back from what a contract fixes.
-- Assumes nothing.
use Rattle.std.specs.Prelude.{ℕ, zero, suc, ◌≡◌, refl, List}
use Rattle.patterns.specs.Determined.{Once}
use Rattle.patterns.proofs.Determined.{once}
use Rattle.refusals.specs.Calls.{reply}
use Rattle.c_functions.specs.Answers.{lent, told}

-- a number, and what is lent to be filled
pub lent_once : Once (λ (p : ℕ × List ℕ × ℕ). reply p.0 (lent p.1 p.2))
lent_once = once _ (λ y. (y.answer, y.after.out, y.after.count)) (λ p. refl)

-- a number read back from what it tells
pub told_same : {A : Type 0} (done : A) (refused : ℕ → A) (read : A → ℕ) → read done ≡ 0 → ((n : ℕ) → read (refused n) ≡ n)
    → (n : ℕ) → read (told done refused n) ≡ n
told_same done refused read d r zero = d
told_same done refused read d r (suc n) = r (suc n)
