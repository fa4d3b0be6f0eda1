-- A refused call changes neither the stream nor the lent rooms, whatever they hold: a ground that holds leaves the state, and where none
-- holds the answer is no refusal. Assumes nothing.
use Rattle.event_record.specs.Record.{Answer, done, none, position, event, refused}

-- an answer is no refusal
abbrev pub Given : Answer → Type 0
Given done = Unit
Given none = Unit
Given (position p) = Unit
Given (event y) = Unit
Given (refused n) = ⊥
