-- The list of tokens: it is the scan's answer and then the list from there, and it tiles the source. Since each token is at least
-- one byte long, as many turns as there are bytes are enough, and more change nothing. Assumes nothing.
use Prim.Native.Nat.{ℕ, zero, suc, min, ◌+◌, ◌-◌, ◌≤◌, ◌<◌, zero-le}
use Rattle.std.specs.Prelude.{◌≡◌, List, [], ◌∷◌, Some, None}
use Rattle.std.proofs.Math.Path.{refl}
use Rattle.std.proofs.Common.{ap, ◌∙◌}
use native.Mathlib.Omega.{arith}
use Rattle.std.proofs.Math.ListN.{length}
use Rattle.patterns.specs.Lists.{All}
use Rattle.tokens.specs.declared.Mode.{Mode}
use Rattle.tokens.specs.declared.Token.{Token}
use Rattle.tokens.specs.Tokens.{Tables}
use Rattle.tokens.specs.Scan.{Scanned, scan, listing, onto, ends, list_first, list_from, tokens}
use Rattle.tokens.specs.ScanLaws.{Step}
use Rattle.tokens.proofs.ScanLaws.{scan_found, scan_end}
use Rattle.tokens.specs.ListLaws.{Tiles}

-- so they are no more than the bytes that they cover
pub tile_count : (a z : ℕ) (xs : List Token) → Tiles a z xs → a + length xs ≤ z
tile_count a z [] h = omega arith
tile_count a z (x ∷ xs) h = omega (arith, tile_count x.end.0 z xs h.2)

module _ (t : Tables) (src : List ℕ) where
  -- what is left of the source at a place
  abbrev left : ℕ → ℕ
  left at = length src - at

  -- a token leaves less
  less : (at : ℕ) (m : Mode) (x : Token) (m' : Mode) → scan t src at m ≡ Some (x, m') → left x.end.0 < left at
  less at m x m' e = let s : Step src at x = scan_found t src at m x m' e in omega (arith, s.longer, s.within)

  -- any two numbers of turns that are enough give the same list
  pub enough : (n k at : ℕ) (m : Mode) → left at ≤ n → left at ≤ k → list_first n t src at m ≡ list_first k t src at m
  unfolding list_first
  enough zero zero at m h g = refl
  enough zero (suc k) at m h g = rw ((scan_end t src at m).1 (omega arith))
  enough (suc n) zero at m h g = rw ((scan_end t src at m).1 (omega arith))
  enough (suc n) (suc k) at m h g = go (scan t src at m) refl (λ e m' l. enough n k e m' (omega arith) (omega arith))
    where
      go : (y : Scanned) → scan t src at m ≡ y → ((e : ℕ) (m' : Mode) → left e < left at → list_first n t src e m' ≡ list_first k t src e m')
          → onto y m (λ e m'. list_first n t src e m') ≡ onto y m (λ e m'. list_first k t src e m')
      go None e f = refl
      go (Some (x, m')) e f = rw (f x.end.0 m' (less at m x m' e))

  -- the list is the scan's answer, and then the list from the token's end
  pub list_step : (at : ℕ) (m : Mode) → list_from t src at m ≡ onto (scan t src at m) m (λ e m'. list_from t src e m')
  unfolding list_from list_first
  list_step at m = enough (length src) (suc (length src)) at m (omega arith) (omega arith)

  -- at the end there is none, and the mode stays
  pub list_end : (at : ℕ) (m : Mode) → length src ≤ at → list_from t src at m ≡ listing [] m
  list_end at m h = list_step at m ∙ ap (λ (y : Scanned). onto y m (λ e m'. list_from t src e m')) ((scan_end t src at m).1 h)

  first_tile : (n at : ℕ) (m : Mode) → at ≤ length src → left at ≤ n → Tiles at (length src) (list_first n t src at m).tokens
  unfolding list_first
  first_tile zero at m h g = omega arith
  first_tile (suc n) at m h g = go (scan t src at m) refl (λ e m' l k. first_tile n e m' l (omega arith))
    where
      go : (y : Scanned) → scan t src at m ≡ y → ((e : ℕ) (m' : Mode) → e ≤ length src → left e < left at → Tiles e (length src) (list_first n t src e m').tokens)
          → Tiles at (length src) (onto y m (λ e m'. list_first n t src e m')).tokens
      go None e f = let k : length src ≤ at = (scan_end t src at m).0 e in omega arith
      go (Some (x, m')) e f = let s : Step src at x = scan_found t src at m x m' e in (s.starts, s.longer, f x.end.0 m' s.within (less at m x m' e))

  -- the tokens from any place of the source tile what is left of it
  pub list_tiles : (at : ℕ) (m : Mode) → at ≤ length src → Tiles at (length src) (list_from t src at m).tokens
  unfolding list_from
  list_tiles at m h = first_tile (length src) at m h (omega arith)

  pub tokens_tile : (m : Mode) → Tiles 0 (length src) (tokens t m src)
  tokens_tile m = list_tiles 0 m zero-le

  -- the first n are n of them, or all that there are
  pub first_count : (n at : ℕ) (m : Mode) → length (list_first n t src at m).tokens ≡ min n (length (list_from t src at m).tokens)
  unfolding list_first
  first_count zero at m = omega arith
  first_count (suc n) at m = rw (list_step at m) (go (scan t src at m) (λ e m'. first_count n e m'))
    where
      go : (y : Scanned) → ((e : ℕ) (m' : Mode) → length (list_first n t src e m').tokens ≡ min n (length (list_from t src e m').tokens))
          → length (onto y m (λ e m'. list_first n t src e m')).tokens ≡ min (suc n) (length (onto y m (λ e m'. list_from t src e m')).tokens)
      go None f = omega arith
      go (Some (x, m')) f = omega (arith, f x.end.0 m')

  -- where they end: each is at least one byte on, and the last within the source
  pub first_ends : (n at : ℕ) (m : Mode) → at ≤ length src
      → (at + length (list_first n t src at m).tokens ≤ ends at (list_first n t src at m).tokens) × (ends at (list_first n t src at m).tokens ≤ length src)
  unfolding list_first
  first_ends zero at m h = (omega arith, h)
  first_ends (suc n) at m h = go (scan t src at m) refl (λ e m' l. first_ends n e m' l)
    where
      go : (y : Scanned) → scan t src at m ≡ y
          → ((e : ℕ) (m' : Mode) → e ≤ length src → (e + length (list_first n t src e m').tokens ≤ ends e (list_first n t src e m').tokens) × (ends e (list_first n t src e m').tokens ≤ length src))
          → (at + length (onto y m (λ e m'. list_first n t src e m')).tokens ≤ ends at (onto y m (λ e m'. list_first n t src e m')).tokens) × (ends at (onto y m (λ e m'. list_first n t src e m')).tokens ≤ length src)
      go None e f = (omega arith, h)
      go (Some (x, m')) e f =
          let s : Step src at x = scan_found t src at m x m' e in
          let g = f x.end.0 m' s.within in
          (omega (arith, s.longer, g.0), g.1)

  -- every token of a list comes from a scan
  module _ (P : Token → Type 0) (f : (at : ℕ) (m : Mode) (x : Token) (m' : Mode) → scan t src at m ≡ Some (x, m') → P x) where
    pub first_all : (n at : ℕ) (m : Mode) → All P (list_first n t src at m).tokens
    unfolding list_first
    first_all zero at m = tt
    first_all (suc n) at m = go (scan t src at m) refl (λ e m'. first_all n e m')
      where
        go : (y : Scanned) → scan t src at m ≡ y → ((e : ℕ) (m' : Mode) → All P (list_first n t src e m').tokens) → All P (onto y m (λ e m'. list_first n t src e m')).tokens
        go None e g = tt
        go (Some (x, m')) e g = (f at m x m' e, g x.end.0 m')
