-- What bookmark and pop answer can be read back from document 01's values, as what the other calls answer can (`done_read`, `done_same` of
-- events). Assumes nothing.
use Rattle.std.specs.Prelude.{◌≡◌, refl, Option, Some, None, Result, Ok, Err}
use Rattle.std.proofs.Common.{ap}
use Rattle.refusals.specs.declared.Refusal.{Refusal}
use Rattle.refusals.specs.RefusalLaws.{read_refusal, read_back}
use Rattle.event_record.specs.declared.Event.{Event}
use Rattle.event_record.specs.declared.Position.{Position}
use Rattle.event_record.specs.Record.{Answer, done, none, position, event, refused, at}
use Rattle.events.specs.Stream.{position_told, event_told}

-- bookmark
abbrev pub position_read : Answer → Result Position Refusal
position_read done = Ok (at 0)
position_read none = Ok (at 0)
position_read (position p) = Ok p
position_read (event y) = Ok (at 0)
position_read (refused n) = Err (read_refusal n)

pub position_same : (a : Result Position Refusal) → position_read (position_told a) ≡ a
position_same (Ok p) = refl
position_same (Err n) = ap Err (read_back n)

-- pop
abbrev pub event_read : Answer → Result (Option Event) Refusal
event_read done = Ok None
event_read none = Ok None
event_read (position p) = Ok None
event_read (event y) = Ok (Some y)
event_read (refused n) = Err (read_refusal n)

pub event_same : (a : Result (Option Event) Refusal) → event_read (event_told a) ≡ a
event_same (Ok (Some y)) = refl
event_same (Ok None) = refl
event_same (Err n) = ap Err (read_back n)
