-- The words in which the C functions promise: what is lent to be filled, and how a number, 0 or that of a refusal, tells an answer.
-- Assumes nothing.
use Rattle.std.specs.Prelude.{ℕ, zero, suc, Result, Ok, Err, List}
use Rattle.refusals.specs.declared.Refusal.{Refusal}
use Rattle.refusals.specs.Refusals.{number_of}

-- what is lent: the numbers, and how many of them are in use
pub record Lent : Type 0 where
  pub out : List ℕ
  pub count : ℕ

abbrev pub lent : List ℕ → ℕ → Lent
lent out n = record { out = out; count = n }

-- the answer that a number tells
abbrev pub told : {A : Type 0} → A → (ℕ → A) → ℕ → A
told done refused zero = done
told done refused (suc n) = refused (suc n)

-- the number that tells an answer
abbrev pub status_of : Result Unit Refusal → ℕ
status_of (Ok u) = 0
status_of (Err x) = number_of x
