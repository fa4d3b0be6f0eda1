-- The number of an answer tells that answer, in any layer's words for done and refused: no refusal has the number 0.
-- Assumes nothing.
use Rattle.std.specs.Prelude.{ℕ, zero, suc, Result, Ok, Err, ◌≤◌, ◌≡◌, refl}
use Rattle.std.proofs.Common.{arith}
use Rattle.refusals.specs.declared.Refusal.{Refusal}
use Rattle.refusals.specs.Refusals.{number_of}
use Rattle.refusals.specs.RefusalLaws.{number_some}
use Rattle.refusals.specs.Calls.{Reply, reply}
use Rattle.c_functions.specs.Answers.{told, status_of}

module _ {A : Type 0} (done : A) (refused : ℕ → A) where
  told_refused : (n : ℕ) → 1 ≤ n → told done refused n ≡ refused n
  told_refused zero h = absurd (omega arith)
  told_refused (suc n) h = refl

  -- what a call leaves, its answer told by the number
  pub told_so : (words : Result Unit Refusal → A) → words (Ok tt) ≡ done → ((x : Refusal) → words (Err x) ≡ refused (number_of x))
      → (a : Result Unit Refusal) {n : ℕ} {S : Type 0} {s : S} {y : Reply A S} → n ≡ status_of a → reply (words a) s ≡ y → reply (told done refused n) s ≡ y
  told_so words d r (Ok u) e f = rw (e, ← d) f
  told_so words d r (Err x) e f = rw (e, told_refused (number_of x) (number_some x), ← r x) f
