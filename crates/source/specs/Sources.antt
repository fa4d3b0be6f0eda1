-- The calls of a source are those of a reader (reader/specs/Reading), with the bytes kept beside it.
-- Assumes nothing.
use Rattle.std.specs.Prelude.{ℕ, List, Result, Ok, Err}
use Rattle.std.specs.Borrow.{Bor}
use Rattle.refusals.specs.declared.Given.{Given}
use Rattle.refusals.specs.declared.Refusal.{Refusal}
use Rattle.refusals.specs.Refusals.{number_of}
use Rattle.refusals.specs.Calls.{Reply, reply}
use Rattle.tokens.specs.declared.Mode.{Mode}
use Rattle.reader.specs.declared.Reader.{Reader}
use Rattle.reader.specs.Reading.{Answer, ready, refused, start, open_of, entered}
use Rattle.source.specs.declared.Source.{Source}

-- A source is bytes and a reader: its place and its mode.
abbrev pub reader_of : Source → Reader
reader_of s = record { place = s.place; mode = s.mode }

abbrev pub source_at : Bor (List ℕ) → Reader → Source
source_at src r = record { src = src; place = r.place; mode = r.mode }

-- Opening: the reader's answer, and the source at its start, refused too.
abbrev pub opened_on : Bor (List ℕ) → Reply Answer Source
opened_on src = reply (open_of src.now) (source_at src start)

-- A switch acts where the source is.
abbrev pub switched : Mode → Source → Source
switched m s = source_at s.src (entered m (reader_of s))

-- The code's answer in the reader's values: where opening is done, a reader at the start is ready.
abbrev pub done_told : Result (Unit {0}) Refusal → Answer
done_told (Ok u) = ready start
done_told (Err n) = refused (number_of n)

abbrev pub open_reply : Given (Unit {0}) Source → Reply Answer Source
open_reply g = reply (done_told g.answer) g.after
