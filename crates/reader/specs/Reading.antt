-- The reader's calls: opening, scanning, and the switches of mode, with document 01's refusals.
-- Assumes nothing.
use Rattle.std.specs.Prelude.{ℕ, Bool, cond, ◌&&◌, List, length, leb, Option, Some, None, Result, Ok, Err}
use Rattle.refusals.specs.declared.Refusal.{Refusal}
use Rattle.refusals.specs.Refusals.{number_of}
use Rattle.tokens.specs.declared.Mode.{Mode}
use Rattle.tokens.specs.declared.Mode.TheVariants.{Normal}
use Rattle.tokens.specs.declared.Token.{Token}
use Rattle.tokens.specs.Tokens.{tables_1}
use Rattle.tokens.specs.Scan.{Scanned, scan, ends, list_first}
use Rattle.reader.specs.declared.Reader.{Reader}

-- the most bytes that a source may have
abbrev pub source_limit : ℕ
source_limit = 65535

-- What the calls answer, in document 01's values; a refusal by its number.
pub data Answer : Type 0 where
  ready : Reader → Answer
  end : Answer
  found : Token → Reader → Answer
  refused : ℕ → Answer

-- Opening: at the start, in normal mode.
abbrev pub start : Reader
start = record { place = record { 0 = 0 }; mode = Normal }

abbrev pub open_of : List ℕ → Answer
open_of src = cond (leb (length src) source_limit) (ready start) (refused 1)

-- A later call: the source is within the limit, and the place within the source.
abbrev pub sound : List ℕ → Reader → Bool
sound src r = leb (length src) source_limit && leb r.place.0 (length src)

-- a token, and the reader moved to its end
abbrev pub moved : Scanned → Answer
moved None = end
moved (Some (x, m)) = found x (record { place = x.end; mode = m })

-- A scan: the definition's, at the reader's place and in its mode.
abbrev pub scan_of : List ℕ → Reader → Answer
scan_of src r = cond (sound src r) (moved (scan tables_1 src r.place.0 r.mode)) (refused 24)

-- The code's answers in these values.
abbrev pub opened_told : Result Reader Refusal → Answer
opened_told (Ok r) = ready r
opened_told (Err n) = refused (number_of n)

-- what a scan answers
abbrev pub Scan : Type 0
Scan = Result (Option (Token × Reader)) Refusal

abbrev pub scan_told : Scan → Answer
scan_told (Ok None) = end
scan_told (Ok (Some (x, r))) = found x r
scan_told (Err n) = refused (number_of n)

-- what an advance over the tokens that are left answers, with the reader that it leaves
abbrev pub advanced : Option Token → Reader → Answer
advanced None r = end
advanced (Some x) r = found x r

-- A switch acts at the place where the reader is.
abbrev pub entered : Mode → Reader → Reader
entered m r = record { place = r.place; mode = m }

-- The first n tokens from a reader on, and the reader behind them.
pub record Ahead : Type 0 where
  pub tokens : List Token
  pub reader : Reader

unfoldable pub ahead : ℕ → List ℕ → Reader → Ahead
unfolding list_first
ahead n src r =
    let l = list_first n tables_1 src r.place.0 r.mode in
    record { tokens = l.tokens; reader = record { place = record { 0 = ends r.place.0 l.tokens }; mode = l.mode } }
