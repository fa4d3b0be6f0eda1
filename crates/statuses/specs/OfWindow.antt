-- What came of a call of the window, and its reply told. Whether there is more is told as found or none, as a token is.
-- Assumes nothing.
use Rattle.std.specs.Prelude.{ℕ, true, false}
use Rattle.token_record.specs.Record.{Answer, token, none, truth, index, done, refused, Reply}
use Rattle.statuses.specs.Statuses.{Outcome, told_by}
use Rattle.statuses.specs.Statuses as outcomes

abbrev pub outcome : Answer → Outcome
outcome (token x) = outcomes.found
outcome none = outcomes.none
outcome (truth true) = outcomes.found
outcome (truth false) = outcomes.none
outcome (index i) = outcomes.found
outcome done = outcomes.found
outcome (refused n) = outcomes.refused n

abbrev pub told : {S : Type 0} → Reply S → ℕ × S
told y = told_by outcome y
