-- `event_room::read` meets its contract: a slot below the number of slots is inside the room; for another, zeros are read.
-- Assumes nothing.
use Rattle.std.proofs.Common.{◌∙◌}
use Rattle.event_room.specs.RoomLaws.{read_inside, read_outside}
use Rattle.event_room.proofs.read.Goals as goal

pub returns-then-at-slots : goal.returns-then-at-slots
returns-then-at-slots c =
    let a = c.args in
    c.read_at.ensures ∙ read_inside a.room.now a.at c.slots.ensures c.if-at-slots.true

pub returns-else-at-slots : goal.returns-else-at-slots
returns-else-at-slots c =
    let a = c.args in
    read_outside a.room.now a.at c.slots.ensures c.if-at-slots.false
