-- What the calls that close leave: a node closed, or dropped. Assumes nothing.
use Rattle.std.specs.Prelude.{ℕ, ◌+◌, ◌-◌, List}
use Rattle.event_record.specs.Record.{span, event_of, begin_tag, end_tag}
use Rattle.event_room.specs.Room.{write}
use Rattle.events.specs.declared.Stream.{Stream}
use Rattle.events.specs.Stream.{State, state, inner_place}
use Rattle.events.specs.Parts.{counting, slot_at, event_at}

-- The events' room where the Begin at a position gets a start, a kind and an end, and its End stands behind all events; the start is the
-- Begin's own.
abbrev pub closing_from : ℕ → ℕ → ℕ → Stream → List ℕ → List ℕ
closing_from a k p t room =
    let x = span a t.last.end.0 in
    write (write room (slot_at t p) (event_of begin_tag k x)) (slot_at t t.count) (event_of end_tag k x)

abbrev pub closing : ℕ → ℕ → Stream → List ℕ → List ℕ
closing k p t room = closing_from (event_at t room p).span.start.0 k p t room

-- Stream and rooms after each.
abbrev pub end_left : ℕ → State → State
end_left kind s =
    let t = s.stream in
    state (counting (t.count + 1) (t.opened - 1) t.last t) (closing kind (inner_place s) t s.room) s.opens

abbrev pub drop_left : State → State
drop_left s = state (counting (inner_place s) (s.stream.opened - 1) s.stream.last s.stream) s.room s.opens
