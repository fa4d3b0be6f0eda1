-- `event_room::slot_of` meets its contract: a position before the ring's end lies so far behind the front, another so far behind the end.
-- Assumes nothing.
use Rattle.std.proofs.Common.{sym}
use Rattle.event_room.specs.RingLaws.{slot_ahead, slot_behind}
use Rattle.event_room.proofs.ring.slot_of.Goals as goal

pub returns-then-i-ahead : goal.returns-then-i-ahead
returns-then-i-ahead c =
    let a = c.args in
    sym (slot_ahead a.slots a.front a.i.0 c.saturating_sub-ahead.ensures c.if-i-ahead.true)

pub returns-else-i-ahead : goal.returns-else-i-ahead
returns-else-i-ahead c =
    let a = c.args in
    sym (slot_behind a.slots a.front a.i.0 c.saturating_sub-ahead.ensures c.if-i-ahead.false)
