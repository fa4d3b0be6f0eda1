-- The lent room of the events: an event stands as tag, kind or message, start, end in a slot. The slots form a ring: the events stand
-- from the slot of the front on, and go on in the first slot behind the last. What is not written stays. Assumes nothing.
use Rattle.std.specs.Prelude.{ℕ, zero, suc, ◌+◌, ◌-◌, ◌*◌, ◌/◌, cond, List, [], ◌∷◌, length, get_or, ltb}
use Rattle.std.proofs.lemmas.List.Edits.{sets}
use Rattle.rooms.specs.declared.Slot.{Slot}
use Rattle.event_record.specs.declared.Event.{Event}
use Rattle.event_record.specs.Record.{span, event_of}

-- The numbers of a slot, from an event and back.
abbrev pub width : ℕ
width = 4

abbrev pub numbers : Event → List ℕ
numbers y = y.tag ∷ y.kind ∷ y.span.start.0 ∷ y.span.end.0 ∷ []

abbrev pub from_numbers : (ℕ → ℕ) → Event
from_numbers f = event_of (f 0) (f 1) (span (f 2) (f 3))

-- E, by the room's length; numbers that are left over are in no slot
abbrev pub slots_in : ℕ → ℕ
slots_in len = len / width

unfoldable pub write_at : List ℕ → Slot → Event → List ℕ
write_at room s y = sets room (s.0 * width) (numbers y)

unfoldable pub read_at : List ℕ → Slot → Event
read_at room s = from_numbers (λ j. get_or room (s.0 * width + j) 0)

-- Where there is no such slot, nothing is written and zeros are read.
unfoldable pub write : List ℕ → Slot → Event → List ℕ
unfolding write_at
write room s y = cond (ltb s.0 (slots_in (length room))) (write_at room s y) room

unfoldable pub read : List ℕ → Slot → Event
unfolding read_at
read room s = cond (ltb s.0 (slots_in (length room))) (read_at room s) (event_of 0 0 (span 0 0))

-- The slot of the event at position i in a ring of e slots: `e - f` slots lie from the front f on; behind them the ring goes on in the
-- first.
abbrev pub slot_of : ℕ → Slot → ℕ → Slot
slot_of e f i = record { 0 = cond (ltb i (e - f.0)) (f.0 + i) (i - (e - f.0)) }

abbrev pub slot_in : List ℕ → Slot → ℕ → Slot
slot_in room f i = slot_of (slots_in (length room)) f i

-- The n events from position i on; and events written from position i on.
unfoldable pub listed : List ℕ → Slot → ℕ → ℕ → List Event
unfolding read
listed room f i zero = []
listed room f i (suc n) = read room (slot_in room f i) ∷ listed room f (i + 1) n

unfoldable pub written : List ℕ → Slot → ℕ → List Event → List ℕ
unfolding write
written room f i [] = room
written room f i (y ∷ ys) = written (write room (slot_in room f i) y) f (i + 1) ys
