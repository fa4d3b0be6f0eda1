-- Strings, of one line or of several, are one pattern over the quotes and over whether LF may stand in them: items between quotes.
-- The items end where the closing quotes must stand, since a quote is no item (`past`). Assumes nothing.
use Rattle.std.specs.Prelude.{ℕ, ◌+◌, ◌≤◌, ◌<◌, ◌≡◌, refl, Bool, true, false, not, List, [], ◌∷◌, length, get_or, drop, eqb}
use Rattle.std.proofs.Common.{ap, ◌∙◌, arith, eq-eqb}
use Rattle.std.proofs.Math.Bool.{or-true}
use Rattle.patterns.specs.Utf8.{Class}
use Rattle.patterns.specs.Pattern.{Pat, seq, literal, row, longest}
use Rattle.patterns.specs.Walk.{Came, prefix}
use Rattle.patterns.proofs.Walk.{start, prefix_within, text_alone, text_then, text_yes}
use Rattle.tokens.specs.Tokens.{ascii, one_of, string, multi_line_string}
use Rattle.places.specs.Places.{one_byte}
use Rattle.texts.specs.Items.{items, past}

-- The bytes that are items by themselves, where `close` closes the text and LF stands in it only if it may have lines.

abbrev stops : ℕ → Bool → List ℕ
stops close true = close ∷ 92 ∷ []
stops close false = close ∷ 10 ∷ 92 ∷ []

unfoldable pub plain : ℕ → Bool → Class
plain close lines v = not (one_of (stops close lines) v)

pub plain_close : (close : ℕ) (lines : Bool) → plain close lines close ≡ false
unfolding plain
plain_close close true = simp (eq-eqb close close refl)
plain_close close false = simp (eq-eqb close close refl)

pub plain_bare : (close : ℕ) (lines : Bool) → plain close lines 92 ≡ false
unfolding plain
plain_bare close true = ap not (or-true (eqb 92 close))
plain_bare close false = ap not (or-true (eqb 92 close))

abbrev pub quoted : List ℕ → Bool → Pat
quoted quotes lines = row (literal quotes ∷ items (plain 34 lines) ∷ literal quotes ∷ [])

pub string_quoted : string ≡ quoted (ascii "\"") false
unfolding plain
string_quoted = rw (one_byte 34)

pub multi_line_quoted : multi_line_string ≡ quoted (ascii "\"\"\"") true
unfolding plain
multi_line_quoted = refl

-- one quote at least
module _ (quotes : List ℕ) (some : get_or quotes 0 0 ≡ 34) where
  pub quotes_within : (s : List ℕ) (i : ℕ) → prefix quotes (drop i s) ≡ true → i + length quotes ≤ length s
  quotes_within s i e = prefix_within quotes s i e (go quotes some)
    where
      go : (ys : List ℕ) → get_or ys 0 0 ≡ 34 → 0 < length ys
      go [] h = omega arith
      go (y ∷ ys) h = omega arith

  -- past the opening quotes and the items
  pub quoted_end : (lines : Bool) (s : List ℕ) (at : ℕ) {j : ℕ} → prefix quotes (drop at s) ≡ true
      → j ≡ at + length quotes + longest (items (plain 34 lines)) (drop (at + length quotes) s) → Came (quoted quotes lines) s at (literal quotes) j at
  quoted_end lines s at {j} p e = go quotes some (text_yes (text_then _ quotes) (start _ _ _) p) e
    where
      go : (ys : List ℕ) → get_or ys 0 0 ≡ 34 → {w : Pat} {i : ℕ} → Came w s at (seq (items (plain 34 lines)) (literal ys)) i at
          → j ≡ i + longest (items (plain 34 lines)) (drop i s) → Came w s at (literal ys) j at
      go [] h c e = absurd (omega arith)
      go (y ∷ ys) h c e = past (plain 34 lines) (plain_bare 34 lines) (text_alone (y ∷ ys)) (ap (plain 34 lines) h ∙ plain_close 34 lines) (rw h) c e
