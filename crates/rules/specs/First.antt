-- Which rules can start with which byte, in each mode, and whether all the others are dead there. Assumes nothing.
use Rattle.std.specs.Prelude.{ℕ, ◌<◌, Bool, true, false, cond, ◌&&◌, ◌||◌, List, [], ◌∷◌, map, leb, eqb}
use Rattle.patterns.specs.Utf8.{Class}
use Rattle.patterns.specs.Pattern.{is_nothing, deriv}
use Rattle.tokens.specs.declared.Mode.{Mode}
use Rattle.tokens.specs.declared.Mode.TheVariants.{Normal, HexPattern, HexJump}
use Rattle.tokens.specs.Kinds.{PATTERN_IDENT, PATTERN_COUNT, PATTERN_OFFSET, PATTERN_LENGTH, IDENT, FLOAT_LIT, INTEGER_LIT, STRING_LIT, REGEXP, COMMENT, WHITESPACE, NEWLINE, HEX_BYTE}
use Rattle.tokens.specs.Tokens.{Rule, Spelling, tables_1, words_1, operators, pattern_operators, jump_operators, one_of, dec, word_start, hex_or_mark}
use Rattle.tokens.specs.Scan.{rules}
use Rattle.places.specs.Signs.{Byte}

-- The rules of some kinds, and whether the others are dead at a byte.

abbrev pub keep : Bool → Rule → List Rule → List Rule
keep true r rs = r ∷ rs
keep false r rs = rs

abbrev pub only : List ℕ → List Rule → List Rule
only ks [] = []
only ks (r ∷ rs) = keep (one_of ks r.kind) r (only ks rs)

unfoldable pub others_dead : List ℕ → List Rule → ℕ → Bool
unfolding deriv
others_dead ks [] b = true
others_dead ks (r ∷ rs) b = (is_nothing (deriv b r.pattern) || one_of ks r.kind) && others_dead ks rs b

-- The kinds that can start with a byte, in the order in which the code tests it.

-- blanks and newlines, which all modes have
abbrev pub spacing : Class
spacing b = eqb b 32 || eqb b 10 || eqb b 13 || eqb b 9 || leb 128 b

-- hex bytes
abbrev pub hex_start : Class
hex_start b = hex_or_mark b || eqb b 126

abbrev pub kinds_of : List Spelling → List ℕ
kinds_of ws = map (λ (w : Spelling). w.kind) ws

abbrev pub other_kinds : Mode → ℕ → List ℕ
other_kinds Normal b =
    cond (word_start b) (IDENT ∷ kinds_of words_1)
    (cond (dec b) (FLOAT_LIT ∷ INTEGER_LIT ∷ [])
    (cond (eqb b 34) (STRING_LIT ∷ [])
    (cond (eqb b 47) (REGEXP ∷ COMMENT ∷ [])
    (cond (eqb b 36) (PATTERN_IDENT ∷ [])
    (cond (eqb b 35) (PATTERN_COUNT ∷ [])
    (cond (eqb b 64) (PATTERN_OFFSET ∷ [])
    (cond (eqb b 33) (PATTERN_LENGTH ∷ kinds_of operators)
    (kinds_of operators))))))))
other_kinds HexPattern b =
    cond (hex_start b) (HEX_BYTE ∷ [])
    (cond (eqb b 47) (COMMENT ∷ [])
    (kinds_of pattern_operators))
other_kinds HexJump b = cond (dec b) (INTEGER_LIT ∷ []) (kinds_of jump_operators)

unfoldable pub first_kinds : Mode → ℕ → List ℕ
unfolding words_1
first_kinds m b = cond (spacing b) (WHITESPACE ∷ NEWLINE ∷ []) (other_kinds m b)

unfoldable pub alone : Mode → ℕ → Bool
unfolding first_kinds others_dead rules
alone m b = others_dead (first_kinds m b) (rules tables_1 m) b

-- The byte at a place of a source of bytes, or 0 past its end.
pub record First (s : List ℕ) (at b : ℕ) : Type 0 where
  pub byte : Byte s at b
  pub small : b < 256
