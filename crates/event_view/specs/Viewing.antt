-- A stream's calls are the plain list's; `commutes` at a call is that call's law. A list laid into the rooms is seen there again: its
-- events have slots of their own, its open places stand first, and it has room, since the record keeps within its sizes. Assumes nothing.
use Rattle.std.specs.Prelude.{◌≡◌}
use Rattle.event_record.specs.Record.{Reply, Record}
use Rattle.events.specs.Stream.{State, view}

-- The same answer, and the same list after it.
abbrev pub Same : Reply State → Reply Record → Type 0
Same x y = (x.answer ≡ y.answer) × (view x.after ≡ y.after)
