-- What the steps that calls share leave: a stream with other counts, an event in its slot, and the answers put together with the stream.
-- Assumes nothing.
use Rattle.std.specs.Prelude.{ℕ, List, Result, Ok, Err}
use Rattle.rooms.specs.declared.Slot.{Slot}
use Rattle.refusals.specs.declared.Refusal.{Refusal}
use Rattle.refusals.specs.declared.Given.{Given}
use Rattle.event_record.specs.declared.Span.{Span}
use Rattle.event_record.specs.declared.Event.{Event}
use Rattle.event_room.specs.Room.{slot_of, read}
use Rattle.events.specs.declared.Stream.{Stream}

-- How many events there are, how many nodes are open, and the last token.
abbrev pub counting : ℕ → ℕ → Span → Stream → Stream
counting n o x t =
    record {
      slots = t.slots;
      places = t.places;
      front = t.front;
      count = n;
      opened = o;
      bookmarks = t.bookmarks;
      last = x;
      gone = t.gone;
      popped = t.popped;
    }

-- The slot of the event at a position, and the event there.
abbrev pub slot_at : Stream → ℕ → Slot
slot_at t i = slot_of t.slots t.front i

abbrev pub event_at : Stream → List ℕ → ℕ → Event
event_at t room i = read room (slot_at t i)

-- What a call gives that comes to a value with the stream after it, or to a refusal, where the stream is as it was.
abbrev pub given : {T : Type 0} → Stream → Result (T × Stream) Refusal → Given T Stream
given t (Ok x) = record { answer = Ok x.0; after = x.1 }
given t (Err n) = record { answer = Err n; after = t }
