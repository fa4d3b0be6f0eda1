-- Calls by number, in a table: a number that is none of the table's has the call that stands for all others.
-- By induction on the table's length. Assumes nothing.
use Rattle.std.specs.Prelude.{ℕ, zero, suc, ◌≤◌, ◌≡◌, List, [], ◌∷◌, length, get_or}
use Rattle.std.proofs.Common.{arith}
use Rattle.std.proofs.Math.ListN.{get_or-eq_default}
use Rattle.tokens.specs.NoneOf.{NoneOf}
use Rattle.scripts.specs.Tables.{below}

none_below : (n op : ℕ) → NoneOf (below n) op → n ≤ op
none_below zero op h = omega arith
none_below (suc n) op h = let i = none_below n op h.0 in let d = h.1 in omega arith

pub no_entry : {C : Type 0} (table : List C) (other : C) (op : ℕ) → NoneOf (below (length table)) op → get_or table op other ≡ other
no_entry table other op h = get_or-eq_default table other (none_below (length table) op h)
