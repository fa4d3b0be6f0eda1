-- The window fetches what the record fetches, since both take the tokens ahead of the same reader; and a fetch after which no more
-- tokens are kept than there are slots leaves a good record. A call that wants none fetches none. Assumes nothing.
use Rattle.std.specs.Prelude.{◌++◌}
use Rattle.reader.specs.Reading.{Ahead}
use Rattle.token_record.specs.Record.{Record}

-- a record with tokens more, and the mode behind them
abbrev pub grown : Record → Ahead → Record
grown r a = record { tokens = r.tokens ++ a.tokens; mode = a.reader.mode; current = r.current; bookmarks = r.bookmarks }
