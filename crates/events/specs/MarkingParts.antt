-- What the calls on bookmarks leave: a stream with so many bookmarks. Assumes nothing.
use Rattle.std.specs.Prelude.{ℕ}
use Rattle.events.specs.declared.Stream.{Stream}
use Rattle.events.specs.Stream.{State, state}

abbrev pub marking : ℕ → Stream → Stream
marking n t =
    record {
      slots = t.slots;
      places = t.places;
      front = t.front;
      count = t.count;
      opened = t.opened;
      bookmarks = n;
      last = t.last;
      gone = t.gone;
      popped = t.popped;
    }

-- Stream and rooms after it.
abbrev pub marks_left : ℕ → State → State
marks_left n s = state (marking n s.stream) s.room s.opens
