-- `token_room::read` meets its contract: a room with a slot has token i's inside it; in one with none zeros are read.
-- Assumes nothing.
use Rattle.std.proofs.Common.{◌∙◌}
use Rattle.token_room.specs.RoomLaws.{slot_inside, read_slot, read_none}
use Rattle.token_room.proofs.read.Goals as goal

pub read_at-requires : goal.read_at-requires
read_at-requires c =
    let a = c.args in
    slot_inside a.room.now a.i c.slots-n.ensures c.if-n-gt0.true c.slot_of.ensures

pub returns-then-n-gt0 : goal.returns-then-n-gt0
returns-then-n-gt0 c =
    let a = c.args in
    c.read_at.ensures ∙ read_slot a.room.now a.i c.slots-n.ensures c.if-n-gt0.true c.slot_of.ensures

pub returns-else-n-gt0 : goal.returns-else-n-gt0
returns-else-n-gt0 c = let a = c.args in read_none a.room.now a.i c.slots-n.ensures c.if-n-gt0.false
