-- `events::is_balanced` meets its contract. The loop's invariant: the events from `i` on balance with `depth` nodes open exactly if
-- those from the position on balance with none; and no more nodes are open than events were passed. Assumes nothing.
use Rattle.std.proofs.Common.{◌-◌, ◌≤◌, ◌≡◌, length, drop}
use Rattle.event_record.specs.Record.{balanced}
use Rattle.event_room.specs.Room.{slots_in, listed}
use Rattle.events.proofs.balance.is_balanced.Given as goal

abbrev pub invariant-loop-i : goal.invariant-loop-i
invariant-loop-i l =
    (l.depth ≤ l.i) × (l.slots ≡ slots_in (length l.room))
    × (balanced l.depth (listed l.room l.front l.i (l.count - l.i)) ≡ balanced 0 (drop l.fn.from.0 (listed l.room l.front 0 l.count)))
