-- `event_room::write` meets its contract: a slot below the number of slots is inside the room; for another, the room is left as it was.
-- Assumes nothing.
use Rattle.std.proofs.Common.{◌∙◌}
use Rattle.event_room.specs.RoomLaws.{write_inside, write_outside}
use Rattle.event_room.proofs.write.Goals as goal

pub returns-then-at-slots : goal.returns-then-at-slots
returns-then-at-slots c =
    let a = c.args in
    c.write_at.ensures ∙ write_inside a.room.now a.at c.slots.ensures c.if-at-slots.true a.event

pub returns-else-at-slots : goal.returns-else-at-slots
returns-else-at-slots c =
    let a = c.args in
    write_outside a.room.now a.at c.slots.ensures c.if-at-slots.false a.event
