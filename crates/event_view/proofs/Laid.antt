-- A list laid into the rooms is seen there again: its events have slots of their own, and its open places stand first. Assumes nothing.
use Rattle.std.specs.Prelude.{◌≤◌, ◌<◌, ◌≡◌, length}
use Rattle.std.proofs.Common.{arith}
use Rattle.rooms.proofs.Stores.{take_sets}
use Rattle.event_record.specs.Record.{Answer, reply, Record}
use Rattle.event_room.specs.Room.{slots_in}
use Rattle.event_room.specs.RingLaws.{listed_written}
use Rattle.events.specs.Stream.{State, view, front_after, laid}

-- A list laid into the rooms is the list that is seen.
pub view_laid : (s : State) (a : Answer) (r : Record)
    → (0 < length r.events → (front_after s.stream a).0 < slots_in (length s.room))
    → length r.events ≤ slots_in (length s.room) → length r.opens ≤ length s.opens
    → view (laid s (reply a r)).after ≡ r
unfolding view laid
view_laid s a r f h k =
    rw (listed_written s.room (front_after s.stream a) 0 r.events f (omega arith), take_sets s.opens r.opens k)
