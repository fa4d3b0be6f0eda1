-- `event_room::read_at` meets its contract: its four loads are an event's numbers, one after the other.
-- Assumes nothing.
use Rattle.event_room.specs.RoomLaws.{loaded}
use Rattle.event_room.proofs.read_at.Goals as goal

pub returns : goal.returns
returns c = let a = c.args in loaded a.room.now a.at
