-- `events::last_token` meets its contract. The loop's invariant: the last token of the first `i` events is the last of all.
-- Assumes nothing.
use Rattle.std.proofs.Common.{◌≡◌, length}
use Rattle.event_record.specs.Record.{last_token}
use Rattle.event_room.specs.Room.{slots_in, listed}
use Rattle.events.proofs.reading.last_token.Given as goal

abbrev pub invariant-loop-i : goal.invariant-loop-i
invariant-loop-i l =
    (l.slots ≡ slots_in (length l.room)) × (last_token l.gone (listed l.room l.front 0 l.i) ≡ last_token l.gone (listed l.room l.front 0 l.count))
