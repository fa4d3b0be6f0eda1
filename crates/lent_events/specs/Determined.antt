-- The thin calls' promises leave no choice: the answer, the record at exit and the rooms at exit are the covered call's answer, record and
-- rooms, which its promise determines (events/specs/Determined). Assumes nothing.
use Rattle.std.specs.Prelude.{ℕ, List}
use Rattle.events.specs.declared.Stream.{Stream}

-- what a thin call leaves: its answer, the record, the event slots and the open places
abbrev pub Left : Type 0 → Type 0
Left A = A × (Stream × (List ℕ × List ℕ))
