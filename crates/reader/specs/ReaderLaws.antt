-- The answers of opening and of a scan, read back from what they are told by. Assumes nothing.
use Rattle.std.specs.Prelude.{Option, Some, None, Result, Ok, Err}
use Rattle.refusals.specs.declared.Refusal.{Refusal}
use Rattle.refusals.specs.RefusalLaws.{read_refusal}
use Rattle.tokens.specs.declared.Token.{Token}
use Rattle.reader.specs.declared.Reader.{Reader}
use Rattle.reader.specs.Reading.{Answer, ready, end, found, refused, start, Scan}

-- An answer can be read back from what it is told by. Not every value is told by an opening, nor by a scan: the others are read as any.
abbrev pub opened_read : Answer → Result Reader Refusal
opened_read (ready r) = Ok r
opened_read end = Ok start
opened_read (found x r) = Ok r
opened_read (refused n) = Err (read_refusal n)

abbrev pub scan_read : Answer → Scan
scan_read (ready r) = Ok None
scan_read end = Ok None
scan_read (found x r) = Ok (Some (x, r))
scan_read (refused n) = Err (read_refusal n)

-- The answer of an advance, and the reader that it leaves; without a token that is the one before.
abbrev pub advanced_read : Reader → Answer → Option Token × Reader
advanced_read before (ready r) = (None, before)
advanced_read before end = (None, before)
advanced_read before (found x r) = (Some x, r)
advanced_read before (refused n) = (None, before)
