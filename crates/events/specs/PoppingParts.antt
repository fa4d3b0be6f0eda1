-- What a pop leaves: a stream without its first event, which is remembered where it is a token. Assumes nothing.
use Rattle.std.specs.Prelude.{◌-◌, true, cond, eqb}
use Rattle.rooms.specs.declared.Slot.{Slot}
use Rattle.event_record.specs.declared.Span.{Span}
use Rattle.event_record.specs.declared.Event.{Event}
use Rattle.event_record.specs.Record.{token_tag}
use Rattle.event_room.specs.Room.{read}
use Rattle.events.specs.declared.Stream.{Stream}
use Rattle.events.specs.Stream.{State, state}
use Rattle.events.specs.Parts.{slot_at}

abbrev pub passing : Slot → Span → Stream → Stream
passing f x t =
    record {
      slots = t.slots;
      places = t.places;
      front = f;
      count = t.count - 1;
      opened = t.opened;
      bookmarks = t.bookmarks;
      last = t.last;
      gone = x;
      popped = true;
    }

-- The last token once an event is popped.
abbrev pub gone_after : Event → Span → Span
gone_after y x = cond (eqb y.tag token_tag) y.span x

-- The first event; stream and rooms without it.
abbrev pub first_of : State → Event
first_of s = read s.room s.stream.front

abbrev pub pop_left : State → State
pop_left s = state (passing (slot_at s.stream 1) (gone_after (first_of s) s.stream.gone) s.stream) s.room s.opens
