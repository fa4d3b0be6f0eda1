-- Calls by number, in a table: a number that is none of the table's has the call that stands for all others.
-- By induction on the table's length. Assumes nothing.
use Rattle.std.specs.Prelude.{ℕ, zero, suc, ◌≤◌, ◌≡◌, List, [], ◌∷◌, length, get_or}
use Rattle.std.proofs.Common.{arith}
use Rattle.std.proofs.Math.ListN.{get_or-eq_default}
use Rattle.tokens.specs.NoneOf.{NoneOf}

-- the numbers below n, the last first; one that is none of them
abbrev pub below : ℕ → List ℕ
below zero = []
below (suc n) = n ∷ below n
