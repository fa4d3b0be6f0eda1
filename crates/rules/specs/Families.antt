-- A short list of rules for each family of first bytes, in the order of the rules. Assumes nothing.
use Rattle.std.specs.Prelude.{ℕ, ◌≡◌, List, [], ◌∷◌, ◌++◌, map, drop}
use Rattle.patterns.specs.Pattern.{byte, char}
use Rattle.tokens.specs.declared.Mode.{Mode}
use Rattle.tokens.specs.Kinds.{PATTERN_LENGTH, IDENT, FLOAT_LIT, INTEGER_LIT, STRING_LIT, REGEXP, COMMENT, WHITESPACE}
use Rattle.tokens.specs.Unicode.{digits_16}
use Rattle.tokens.specs.Tokens.{Rule, rule, spelled, tables_1, words_1, operators, pattern_word, identifier, float, integer, string, multi_line_string, regexp, block_comment, line_comment, blanks, newlines}
use Rattle.tokens.specs.Scan.{best, rules}

abbrev pub spacing_rules : List Rule
spacing_rules = rule WHITESPACE blanks ∷ map spelled newlines

abbrev pub word_rules : List Rule
word_rules = map spelled words_1 ++ (rule IDENT (identifier digits_16) ∷ [])

abbrev pub number_rules : List Rule
number_rules = rule FLOAT_LIT float ∷ rule INTEGER_LIT integer ∷ []

abbrev pub quote_rules : List Rule
quote_rules = rule STRING_LIT string ∷ rule STRING_LIT multi_line_string ∷ []

abbrev pub slash_rules : List Rule
slash_rules = rule REGEXP regexp ∷ rule COMMENT (block_comment byte) ∷ rule COMMENT line_comment ∷ []

abbrev pub bang_rules : List Rule
bang_rules = map spelled operators ++ (rule PATTERN_LENGTH (pattern_word "!" digits_16) ∷ [])

abbrev pub comment_rules : List Rule
comment_rules = rule COMMENT (block_comment char) ∷ rule COMMENT line_comment ∷ []

-- a list of rules that gives the mode's longest match at a place
abbrev pub Suffice : Mode → List ℕ → ℕ → List Rule → Type 0
Suffice m s at rs = best rs (drop at s) ≡ best (rules tables_1 m) (drop at s)
