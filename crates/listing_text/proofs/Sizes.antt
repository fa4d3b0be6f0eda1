-- How long a listing can be. A kind is below 100 and an offset below 100000, so no line has more than 15 bytes; and since no token is
-- empty, no source has more tokens than bytes. Assumes nothing.
use Rattle.std.specs.Prelude.{ℕ, ◌+◌, ◌*◌, ◌≤◌, ◌≡◌, refl, List, [], ◌∷◌, length, leb, Some}
use Rattle.std.proofs.Common.{arith, leb-true}
use Rattle.patterns.specs.Utf8.{between}
use Rattle.patterns.proofs.Bools.{and_second}
use Rattle.patterns.specs.Lists.{All}
use Rattle.tokens.specs.declared.Mode.{Mode}
use Rattle.tokens.specs.declared.Token.{Token}
use Rattle.tokens.specs.Tokens.{tables_1}
use Rattle.tokens.specs.Scan.{scan, list_from}
use Rattle.tokens.specs.ScanLaws.{Step}
use Rattle.tokens.proofs.ScanLaws.{scan_found, scan_kind, kinds_1}
use Rattle.tokens.proofs.ListLaws.{first_all}
use Rattle.reader.specs.declared.Reader.{Reader}
use Rattle.reader.specs.Reading.{source_limit}
use Rattle.reader.specs.Following.{Sound, rest}
use Rattle.reader.proofs.Following.{rest_most}
use Rattle.listing_text.specs.Listing.{line, lines, text}
use Rattle.listing_text.proofs.Numbers.{decimal_short, length_line, length_head, length_lines, length_text}
use Rattle.listing_text.specs.Sizes.{Small}

line_short : (x : Token) → Small x → length (line x) ≤ 15
line_short x s = omega (arith, length_line x, decimal_short 1 x.kind s.kind, decimal_short 4 x.start.0 s.start, decimal_short 4 x.end.0 s.end)

lines_short : (xs : List Token) → All Small xs → length (lines xs) ≤ 15 * length xs
unfolding lines
lines_short [] h = omega arith
lines_short (x ∷ xs) h = omega (arith, length_lines x xs, line_short x h.0, lines_short xs h.1)

module _ (src : List ℕ) (r : Reader) (h : Sound src r) where
  small : (at : ℕ) (m : Mode) (x : Token) (m' : Mode) → scan tables_1 src at m ≡ Some (x, m') → Small x
  small at m x m' e =
      let s : Step src at x = scan_found tables_1 src at m x m' e in
      let k : x.kind ≤ 82 = leb-true x.kind 82 (and_second (leb 1 x.kind) (leb x.kind 82) (scan_kind (between 1 82) tables_1 kinds_1 refl refl src at m x m' e)) in
      record { kind = omega arith; start = omega (arith, s.starts, s.longer, s.within, h.limit); end = omega (arith, s.within, h.limit) }

  pub count_fits : length (rest src r) ≤ source_limit
  count_fits = omega (arith, h.limit, rest_most src r h)

  lines_most : length (lines (rest src r)) ≤ 15 * length src
  unfolding list_from
  lines_most = omega (arith, lines_short (rest src r) (first_all tables_1 src Small small (length src) r.place.0 r.mode), rest_most src r h)

  pub lines_fit : length (lines (rest src r)) ≤ 15 * source_limit
  lines_fit = omega (arith, h.limit, lines_most)

  -- so much room is enough for a source's listing, and 983,038 bytes for every one
  pub text_most : length (text (rest src r)) ≤ 13 + 15 * length src
  text_most =
      let n = length (rest src r) in
      omega (arith, length_text (rest src r), length_head n, decimal_short 4 n (omega (arith, count_fits)), lines_most)

  pub text_fits : length (text (rest src r)) ≤ 983038
  text_fits = omega (arith, h.limit, text_most)
