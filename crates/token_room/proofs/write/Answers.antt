-- `token_room::write` meets its contract: a room with a slot has token i's inside it; one with none is left as it was.
-- Assumes nothing.
use Rattle.std.proofs.Common.{◌∙◌}
use Rattle.token_room.specs.RoomLaws.{slot_inside, write_slot, write_none}
use Rattle.token_room.proofs.write.Goals as goal

pub write_at-requires : goal.write_at-requires
write_at-requires c =
    let a = c.args in
    slot_inside a.room.now a.i c.slots-n.ensures c.if-n-gt0.true c.slot_of.ensures

pub returns-then-n-gt0 : goal.returns-then-n-gt0
returns-then-n-gt0 c =
    let a = c.args in
    c.write_at.ensures
    ∙ write_slot a.room.now a.i c.slots-n.ensures c.if-n-gt0.true c.slot_of.ensures a.token

pub returns-else-n-gt0 : goal.returns-else-n-gt0
returns-else-n-gt0 c =
    let a = c.args in
    write_none a.room.now a.i c.slots-n.ensures c.if-n-gt0.false a.token
