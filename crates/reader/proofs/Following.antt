-- One scan after the other. At the end no token is ahead of a reader; else the token that a scan finds, and those that are ahead of
-- the reader behind it. From the scanner's promise and the laws of the definition's scan. Assumes nothing.
use Prim.Native.Nat.{ℕ, zero, suc, min, ◌+◌, ◌≤◌, ◌<◌, zero-le}
use Rattle.std.specs.Prelude.{◌≡◌, List, [], ◌∷◌, length, Some, None}
use Rattle.std.proofs.Math.Path.{refl}
use Rattle.std.proofs.Common.{ap, arith, le-leb}
use Rattle.tokens.specs.declared.Mode.{Mode}
use Rattle.tokens.specs.declared.Token.{Token}
use Rattle.tokens.specs.Tokens.{tables_1}
use Rattle.tokens.specs.Scan.{Scanned, scan, onto, list_from}
use Rattle.tokens.specs.ScanLaws.{Step}
use Rattle.tokens.proofs.ScanLaws.{scan_found}
use Rattle.tokens.proofs.ListLaws.{tile_count, enough, list_step, list_tiles, first_count, first_ends}
use Rattle.reader.specs.declared.Reader.{Reader}
use Rattle.reader.specs.Reading.{source_limit, Answer, start, open_of, moved, Scan, scan_of, scan_told, Ahead, ahead}
use Rattle.reader.specs.Reading as reading
use Rattle.reader.proofs.ReaderLaws.{opened_ready}
use Rattle.reader.specs.Following.{Ends, Onward, Says, Sound, before, rest, still}

-- the start of a source within the limit, and the reader that opening gives
pub start_sound : {src : List ℕ} → length src ≤ source_limit → Sound src start
start_sound h = record { limit = h; inside = zero-le }

pub opened_sound : (src : List ℕ) {r : Reader} → reading.ready r ≡ open_of src → Sound src r
opened_sound src e = let o = opened_ready src e in rw o.1 (start_sound o.0)

module _ (src : List ℕ) (r : Reader) where
  -- the list, from what the definition's scan finds: at the end none is left; else the token, and those that are left behind it
  rest_step : (y : Scanned) → scan tables_1 src r.place.0 r.mode ≡ y → rest src r ≡ (onto y r.mode (λ e m. list_from tables_1 src e m)).tokens
  rest_step y e = rw (← e) (ap (λ l. l.tokens) (list_step tables_1 src r.place.0 r.mode))

  pub rest_end : Ends src r → rest src r ≡ []
  rest_end e = rest_step None e

  pub rest_more : (x : Token) (next : Reader) → Onward src r x next → rest src r ≡ x ∷ rest src next
  rest_more x next o = rw o.placed (rest_step (Some (x, next.mode)) o.found)

  pub ahead_none : ahead 0 src r ≡ still r
  unfolding ahead
  ahead_none = refl

  pub ahead_end : Ends src r → (n : ℕ) → ahead n src r ≡ still r
  unfolding ahead
  ahead_end e zero = refl
  ahead_end e (suc n) = rw e

  pub ahead_more : (x : Token) (next : Reader) → Onward src r x next → (n : ℕ) → ahead (suc n) src r ≡ before x (ahead n src next)
  unfolding ahead
  ahead_more x next o n = rw (o.found, ← o.placed)

  -- n of them, or all that are left
  pub ahead_count : (n : ℕ) → length (ahead n src r).tokens ≡ min n (length (rest src r))
  unfolding ahead
  ahead_count n = first_count tables_1 src n r.place.0 r.mode

  -- no source has more tokens than bytes
  pub ahead_all : (n k : ℕ) → length src ≤ n → length src ≤ k → ahead n src r ≡ ahead k src r
  unfolding ahead
  ahead_all n k h g = rw (enough tables_1 src n k r.place.0 r.mode (omega arith) (omega arith))

  -- with a token fewer are left
  pub fewer : {x : Token} {next : Reader} → Onward src r x next → length (rest src next) < length (rest src r)
  fewer {x} {next} o = omega (arith, ap length (rest_more x next o))

  module _ (h : Sound src r) where
    pub onward_from : {x : Token} {m : Mode} → scan tables_1 src r.place.0 r.mode ≡ Some (x, m) → Onward src r x (record { place = x.end; mode = m })
    onward_from {x} {m} e =
        let s : Step src r.place.0 x = scan_found tables_1 src r.place.0 r.mode x m e in
        record { found = e; placed = refl; further = s.longer; sound = record { limit = h.limit; inside = s.within } }

    moved_says : (y : Scanned) → scan tables_1 src r.place.0 r.mode ≡ y → Says src r (moved y)
    moved_says None e = e
    moved_says (Some (x, m)) e = onward_from e

    -- no more tokens are left than bytes
    pub rest_most : r.place.0 + length (rest src r) ≤ length src
    rest_most = tile_count r.place.0 (length src) (rest src r) (list_tiles tables_1 src r.place.0 r.mode h.inside)

    pub says : (y : Scan) → scan_told y ≡ scan_of src r → Says src r (scan_told y)
    says y e =
        rw (e, le-leb (length src) source_limit h.limit, le-leb r.place.0 (length src) h.inside)
        (moved_says (scan tables_1 src r.place.0 r.mode) refl)

    -- the reader behind them is as many bytes on, at least, and sound
    pub ahead_far : (n : ℕ) → r.place.0 + length (ahead n src r).tokens ≤ (ahead n src r).reader.place.0
    unfolding ahead
    ahead_far n = (first_ends tables_1 src n r.place.0 r.mode h.inside).0

    pub ahead_sound : (n : ℕ) → Sound src (ahead n src r).reader
    unfolding ahead
    ahead_sound n = record { limit = h.limit; inside = (first_ends tables_1 src n r.place.0 r.mode h.inside).1 }
