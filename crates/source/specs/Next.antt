-- The next token of a source is that of its reader (reader/specs/Reading), with the bytes kept beside it.
-- Assumes nothing.
use Rattle.std.specs.Prelude.{Option, Some, None, Result, Ok, Err}
use Rattle.refusals.specs.declared.Given.{Given}
use Rattle.refusals.specs.declared.Refusal.{Refusal}
use Rattle.refusals.specs.Refusals.{number_of}
use Rattle.refusals.specs.Calls.{Reply, reply}
use Rattle.tokens.specs.declared.Token.{Token}
use Rattle.reader.specs.declared.Reader.{Reader}
use Rattle.reader.specs.Reading.{Answer, ready, end, found, refused, scan_of}
use Rattle.source.specs.declared.Source.{Source}
use Rattle.source.specs.Sources.{reader_of, source_at}

-- A scan: the reader behind the token; none or refused, the reader as it was.
abbrev pub reached : Reader → Answer → Reader
reached r (found x q) = q
reached r end = r
reached r (refused n) = r
reached r (ready q) = r

abbrev pub next_of : Source → Reply Answer Source
next_of s =
    let a = scan_of s.src.now (reader_of s) in
    reply a (source_at s.src (reached (reader_of s) a))

-- The code's answer in the reader's values, with what is given back: a token's reader is the one that the source then is.
abbrev pub next_told : Result (Option Token) Refusal → Reader → Answer
next_told (Ok None) r = end
next_told (Ok (Some x)) r = found x r
next_told (Err n) r = refused (number_of n)

abbrev pub next_reply : Given (Option Token) Source → Reply Answer Source
next_reply g = reply (next_told g.answer (reader_of g.after)) g.after
