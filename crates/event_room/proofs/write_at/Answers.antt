-- `event_room::write_at` meets its contract: its four stores are the event's numbers, one after the other.
-- Assumes nothing.
use Rattle.std.proofs.Common.{arith, length-set}
use Rattle.event_room.specs.RoomLaws.{stored}
use Rattle.event_room.proofs.write_at.Goals as goal

pub bounds-room-k-2 : goal.bounds-room-k-2
bounds-room-k-2 c = simp length-set (omega arith)

pub bounds-room-k-3 : goal.bounds-room-k-3
bounds-room-k-3 c = simp length-set (omega arith)

pub bounds-room-k-4 : goal.bounds-room-k-4
bounds-room-k-4 c = simp length-set (omega arith)

pub returns : goal.returns
returns c = let a = c.args in stored a.room.now a.at a.event
