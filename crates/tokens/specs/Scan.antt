-- The scan: which token stands at a place of a source, in a mode, and in which mode scanning goes on; and the list of all tokens.
-- Assumes nothing.
use Rattle.std.specs.Prelude.{ℕ, zero, suc, ◌+◌, max, cond, not, ◌&&◌, List, [], ◌∷◌, length, drop, leb, Option, Some, None}
use Rattle.patterns.specs.declared.Char.{Char}
use Rattle.patterns.specs.Utf8.{decode}
use Rattle.patterns.specs.Pattern.{Pat, char, star, walk, longest}
use Rattle.tokens.specs.declared.Mode.{Mode}
use Rattle.tokens.specs.declared.Mode.TheVariants.{Normal, HexPattern, HexJump}
use Rattle.tokens.specs.declared.Hit.{Hit}
use Rattle.tokens.specs.declared.Choice.{Choice}
use Rattle.tokens.specs.declared.Token.{Token}
use Rattle.tokens.specs.Kinds.{INVALID_UTF8, UNKNOWN}
use Rattle.tokens.specs.Unicode.{white}
use Rattle.tokens.specs.Tokens.{Rule, Tables, normal_rules, pattern_rules, jump_rules}

-- The longest match of a list of rules, the first of them where several are as long: a kind and a length, both 0 where none matches.
abbrev pub hit : ℕ → ℕ → Hit
hit k n = record { kind = k; len = n }

-- the first of two hits, unless the other is longer
abbrev pub better : Hit → Hit → Hit
better h other = cond (leb 1 h.len && leb other.len h.len) h other

unfoldable pub best : List Rule → List ℕ → Hit
unfolding walk
best [] s = hit 0 0
best (r ∷ rs) s = better (hit r.kind (longest r.pattern s)) (best rs s)

-- The modes: the rules of each, and which are tried, one after the other, until one finds something.
unfoldable pub rules : Tables → Mode → List Rule
unfolding normal_rules pattern_rules jump_rules
rules t Normal = normal_rules t
rules t HexPattern = pattern_rules
rules t HexJump = jump_rules

abbrev pub tried : Mode → List Mode
tried Normal = Normal ∷ []
tried HexPattern = HexPattern ∷ Normal ∷ []
tried HexJump = HexJump ∷ HexPattern ∷ Normal ∷ []

-- What is taken at the front of a rest that is not empty: a kind, a length, and the mode reached.
abbrev pub chosen : ℕ → ℕ → Mode → Choice
chosen k n m = record { kind = k; len = n; mode = m }

-- When normal mode finds nothing. The well-formed prefix up to the first White_Space character is the longest match of this:
abbrev pub plain : Pat
plain = star (char (λ v. not (white v)))

unfoldable pub unmatched : Option Char → List ℕ → Choice
unfolding white walk
unmatched None s = chosen INVALID_UTF8 1 Normal
unmatched (Some c) s = chosen UNKNOWN (max 1 (longest plain s)) Normal

-- a hit in the mode m, or else what the next mode takes
abbrev pub or_else : Mode → ℕ → ℕ → Choice → Choice
or_else m k zero next = next
or_else m k (suc n) next = chosen k (suc n) m

unfoldable pub choose : Tables → List Mode → List ℕ → Choice
unfolding best rules decode unmatched
choose t [] s = unmatched (decode s) s
choose t (m ∷ ms) s = let h = best (rules t m) s in let next = choose t ms s in or_else m h.kind h.len next

-- One scan: none at the end of the source; else the token, and the mode in which scanning goes on at its end.
abbrev pub Scanned : Type 0
Scanned = Option (Token × Mode)

abbrev pub token : ℕ → ℕ → ℕ → Token
token k a e = record { kind = k; start = record { 0 = a }; end = record { 0 = e } }

abbrev pub found : ℕ → Choice → Scanned
found at c = Some (token c.kind at (at + c.len), c.mode)

unfoldable pub scan_rest : Tables → Mode → ℕ → List ℕ → Scanned
unfolding choose
scan_rest t m at [] = None
scan_rest t m at (b ∷ bs) = found at (choose t (tried m) (b ∷ bs))

-- at the place `at` of a source, in the mode m
unfoldable pub scan : Tables → List ℕ → ℕ → Mode → Scanned
unfolding scan_rest
scan t src at m = scan_rest t m at (drop at src)

-- All tokens from a place and a mode on, and the mode reached at the end.
pub record Listing : Type 0 where
  pub tokens : List Token
  pub mode : Mode

abbrev pub listing : List Token → Mode → Listing
listing ts m = record { tokens = ts; mode = m }

abbrev pub onto : Scanned → Mode → (ℕ → Mode → Listing) → Listing
onto None m rest = listing [] m
onto (Some (x, m')) m rest = let l = rest x.end.0 m' in listing (x ∷ l.tokens) l.mode

-- where tokens that start at a place end: with the last of them
abbrev pub ends : ℕ → List Token → ℕ
ends at [] = at
ends at (x ∷ xs) = ends x.end.0 xs

-- the first n of them
unfoldable pub list_first : ℕ → Tables → List ℕ → ℕ → Mode → Listing
unfolding scan
list_first zero t src at m = listing [] m
list_first (suc n) t src at m = onto (scan t src at m) m (λ e m'. list_first n t src e m')

-- no source has more tokens than bytes
unfoldable pub list_from : Tables → List ℕ → ℕ → Mode → Listing
unfolding list_first
list_from t src at m = list_first (length src) t src at m

-- the tokens of a source
abbrev pub tokens : Tables → Mode → List ℕ → List Token
tokens t m src = (list_from t src 0 m).tokens
