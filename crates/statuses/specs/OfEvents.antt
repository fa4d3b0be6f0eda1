-- What came of a call of the event stream, and its reply told.
-- Assumes nothing.
use Rattle.std.specs.Prelude.{ℕ}
use Rattle.event_record.specs.Record.{Answer, done, none, position, event, refused, Reply}
use Rattle.statuses.specs.Statuses.{Outcome, told_by}
use Rattle.statuses.specs.Statuses as outcomes

abbrev pub outcome : Answer → Outcome
outcome done = outcomes.found
outcome none = outcomes.none
outcome (position p) = outcomes.found
outcome (event y) = outcomes.found
outcome (refused n) = outcomes.refused n

abbrev pub told : {S : Type 0} → Reply S → ℕ × S
told y = told_by outcome y
