-- What a truncation leaves: a stream with the first of its events, and the last token among them. Assumes nothing.
use Rattle.std.specs.Prelude.{ℕ}
use Rattle.event_record.specs.Record.{last_token}
use Rattle.event_room.specs.Room.{listed}
use Rattle.events.specs.Stream.{State, state}
use Rattle.events.specs.Parts.{counting}

abbrev pub cut_left : ℕ → State → State
cut_left p s =
    let t = s.stream in
    state (counting p t.opened (last_token t.gone (listed s.room t.front 0 p)) t) s.room s.opens
