-- What opening a node leaves: a Begin behind all events, and its place. Assumes nothing.
use Rattle.std.specs.Prelude.{ℕ, ◌+◌, set}
use Rattle.event_record.specs.declared.Event.{Event}
use Rattle.event_record.specs.Record.{span, event_of, begin_tag}
use Rattle.event_room.specs.Room.{write}
use Rattle.events.specs.declared.Stream.{Stream}
use Rattle.events.specs.Stream.{State, state}
use Rattle.events.specs.Parts.{counting, slot_at}

-- The event that opens a node.
abbrev pub opening : ℕ → Stream → Event
opening k t = event_of begin_tag k (span t.last.end.0 t.last.end.0)

-- Stream and rooms after it.
abbrev pub begin_left : ℕ → State → State
begin_left kind s =
    let t = s.stream in
    state (counting (t.count + 1) (t.opened + 1) t.last t) (write s.room (slot_at t t.count) (opening kind t))
    (set s.opens t.opened t.count)
