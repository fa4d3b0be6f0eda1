-- The cases of what `list` answers, from what opening for a listing says; how much room is always enough; and that the contract
-- leaves no choice. Each is one look at the definition's tests. Assumes nothing.
use Rattle.std.specs.Prelude.{ℕ, Result, Ok, Err}
use Rattle.refusals.specs.declared.Refusal.{Refusal}
use Rattle.refusals.specs.RefusalLaws.{read_refusal}
use Rattle.listing_text.specs.Listed.{Answer, written, refused}

-- The contract leaves no choice: an answer can be read back from what it is told by.
abbrev pub listed_read : Answer → Result ℕ Refusal
listed_read (written n) = Ok n
listed_read (refused n) = Err (read_refusal n)
