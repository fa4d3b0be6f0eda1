-- The rules of the tokens, mode by mode, in the order of src/tokenizer/mod.rs. Above a rule stands its pattern as the Rust has it.
-- Assumes nothing.
use Rattle.std.specs.Prelude.{ℕ, false, not, ◌||◌, List, [], ◌∷◌, ◌++◌, map, eqb}
use Prim.Native.String.{String}
use Prim.Native.String as Text
use Prim.Native.Char.{code}
use Rattle.patterns.specs.Utf8.{Class, between}
use Rattle.patterns.specs.Pattern.{Pat, byte, char, seq, alt, star, literal, plus, optional, at_most_two, row}
use Rattle.tokens.specs.Unicode.{in_runs, digits_16}
use Rattle.tokens.specs.Kinds.{PATTERN_IDENT, PATTERN_COUNT, PATTERN_OFFSET, PATTERN_LENGTH, IDENT, FLOAT_LIT, INTEGER_LIT, STRING_LIT, REGEXP, COMMENT, WHITESPACE, NEWLINE, HEX_BYTE}

-- a quoted text as its bytes: for texts of ASCII characters
abbrev pub ascii : String → List ℕ
ascii Text.[] = []
ascii (Text.◌∷◌ c s) = code c ∷ ascii s

-- a kind and its pattern
pub record Rule : Type 0 where
  pub kind : ℕ
  pub pattern : Pat

abbrev pub rule : ℕ → Pat → Rule
rule k r = record { kind = k; pattern = r }

-- a kind that is one spelling: a keyword, an operator, a newline
pub record Spelling : Type 0 where
  pub kind : ℕ
  pub bytes : List ℕ

abbrev pub spell : ℕ → String → Spelling
spell k s = record { kind = k; bytes = ascii s }

abbrev pub spelled : Spelling → Rule
spelled w = rule w.kind (literal w.bytes)

-- What a stream is opened with: the decimal digits, by the first of each run of ten, and the keywords.
pub record Tables : Type 0 where
  pub digits : List ℕ
  pub words : List Spelling

-- kinds 1 to 40, in byte order of spelling (mod.rs has `xor` before `with`)
unfoldable pub words_1 : List Spelling
words_1 =
    spell 1 "all" ∷ spell 2 "and" ∷ spell 3 "any" ∷ spell 4 "ascii" ∷ spell 5 "at" ∷
    spell 6 "base64" ∷ spell 7 "base64wide" ∷ spell 8 "condition" ∷ spell 9 "contains" ∷ spell 10 "defined" ∷
    spell 11 "endswith" ∷ spell 12 "entrypoint" ∷ spell 13 "false" ∷ spell 14 "filesize" ∷ spell 15 "for" ∷
    spell 16 "fullword" ∷ spell 17 "global" ∷ spell 18 "icontains" ∷ spell 19 "iendswith" ∷ spell 20 "iequals" ∷
    spell 21 "import" ∷ spell 22 "in" ∷ spell 23 "include" ∷ spell 24 "istartswith" ∷ spell 25 "matches" ∷
    spell 26 "meta" ∷ spell 27 "nocase" ∷ spell 28 "none" ∷ spell 29 "not" ∷ spell 30 "of" ∷
    spell 31 "or" ∷ spell 32 "private" ∷ spell 33 "rule" ∷ spell 34 "startswith" ∷ spell 35 "strings" ∷
    spell 36 "them" ∷ spell 37 "true" ∷ spell 38 "wide" ∷ spell 39 "with" ∷ spell 40 "xor" ∷ []

-- kinds 41 to 67
abbrev pub operators : List Spelling
operators =
    spell 41 "<<" ∷ spell 42 ">>" ∷ spell 43 "==" ∷ spell 44 "!=" ∷ spell 45 "<=" ∷ spell 46 ">=" ∷ spell 47 "<" ∷ spell 48 ">" ∷
    spell 49 "&" ∷ spell 50 "*" ∷ spell 51 "\\" ∷ spell 52 ":" ∷ spell 53 "," ∷ spell 54 "." ∷ spell 55 "=" ∷ spell 56 "+" ∷
    spell 57 "-" ∷ spell 58 "%" ∷ spell 59 "|" ∷ spell 60 "^" ∷ spell 61 "~" ∷
    spell 62 "{" ∷ spell 63 "}" ∷ spell 64 "(" ∷ spell 65 ")" ∷ spell 66 "[" ∷ spell 67 "]" ∷ []

abbrev pub tables_1 : Tables
tables_1 = record { digits = digits_16; words = words_1 }

-- Classes.

abbrev pub one_of : List ℕ → Class
one_of [] v = false
one_of (x ∷ xs) v = eqb v x || one_of xs v

-- [^..]
abbrev pub none_of : String → Class
none_of s v = not (one_of (ascii s) v)

-- [[:alpha:]]
abbrev pub letter : Class
letter v = between 65 90 v || between 97 122 v

-- [0-9], [0-7], [a-fA-F0-9]
abbrev pub dec : Class
dec = between 48 57

abbrev pub oct : Class
oct = between 48 55

abbrev pub hex : Class
hex v = between 97 102 v || between 65 70 v || dec v

abbrev pub underscore : Class
underscore v = eqb v 95

-- a class with the underscore added
abbrev pub or_underscore : Class → Class
or_underscore p v = p v || underscore v

-- [[:alpha:]]|_
abbrev pub word_start : Class
word_start = or_underscore letter

-- [[:alpha:]]|\d|_
abbrev pub word_part : List ℕ → Class
word_part digits v = word_start v || in_runs digits v

-- [?0-9a-fA-F]
abbrev pub hex_or_mark : Class
hex_or_mark v = eqb v 63 || hex v

-- the blank run's characters
abbrev pub blank : Class
blank v = eqb v 0x20 || eqb v 0x9 || eqb v 0xA0 || between 0x2000 0x200A v || eqb v 0x202F || eqb v 0x205F

-- Small patterns.

-- a spelling
abbrev pub text : String → Pat
text s = literal (ascii s)

-- [..], one byte of those
abbrev pub is : String → Pat
is s = byte (one_of (ascii s))

-- \\. (a backslash and any byte but LF)
abbrev pub pair : Pat
pair = seq (is "\\") (byte (none_of "\n"))

-- ([[:alpha:]]|\d|_)*
abbrev pub tail : List ℕ → Pat
tail digits = star (char (word_part digits))

-- ([0-9]+_*)+ and likewise for the other digits (Shapes.antt: the same texts)
abbrev pub number : Class → Pat
number p = seq (byte p) (star (byte (or_underscore p)))

-- The rules.

-- \$ ([[:alpha:]]|\d|_)* and likewise for # @ !
abbrev pub pattern_word : String → List ℕ → Pat
pattern_word s digits = seq (is s) (tail digits)

-- ([[:alpha:]]|_) ([[:alpha:]]|\d|_)*
abbrev pub identifier : List ℕ → Pat
identifier digits = seq (byte word_start) (tail digits)

-- ([0-9]+_*)+ \. ([0-9_]+_*)+
abbrev pub float : Pat
float = row (number dec ∷ is "." ∷ plus (byte (or_underscore dec)) ∷ [])

-- 0x([a-fA-F0-9]+_*)+ | 0o([0-7]+_*)+ | ([0-9]+_*)+(KB|MB)?
abbrev pub integer : Pat
integer = alt (row (text "0x" ∷ number hex ∷ [])) (alt (row (text "0o" ∷ number oct ∷ [])) (row (number dec ∷ optional (alt (text "KB") (text "MB")) ∷ [])))

-- " ( \\. | [^"\n\\] )* "
abbrev pub string : Pat
string = row (is "\"" ∷ star (alt pair (byte (none_of "\"\n\\"))) ∷ is "\"" ∷ [])

-- """ ( \\. | [^"\\] )* """
abbrev pub multi_line_string : Pat
multi_line_string = row (text "\"\"\"" ∷ star (alt pair (byte (none_of "\"\\"))) ∷ text "\"\"\"" ∷ [])

-- / (\\.|[^*/\\\n]) ( \\. | [^\\/\n] )* / [[:alpha:]]{0,2}
abbrev pub regexp : Pat
regexp = row (is "/" ∷ alt pair (byte (none_of "*/\\\n")) ∷ star (alt pair (byte (none_of "\\/\n"))) ∷ is "/" ∷ at_most_two (byte letter) ∷ [])

-- /\* [^*]* \*+ ( [^/*] [^*]* \*+ )* / where `any` takes one of a class: a byte, or a well-formed character
abbrev pub block_comment : (Class → Pat) → Pat
block_comment any =
    let others : Pat = star (any (none_of "*")) in
    let stars : Pat = plus (is "*") in
    row (text "/*" ∷ others ∷ stars ∷ star (row (any (none_of "/*") ∷ others ∷ stars ∷ [])) ∷ is "/" ∷ [])

-- //[^\n]*
abbrev pub line_comment : Pat
line_comment = row (text "//" ∷ star (byte (none_of "\n")) ∷ [])

-- [ \t\u{a0}\u{2000} .. \u{200A}\u{202f}\u{205f}]+
abbrev pub blanks : Pat
blanks = plus (char blank)

abbrev pub newlines : List Spelling
newlines = spell NEWLINE "\n" ∷ spell NEWLINE "\r" ∷ spell NEWLINE "\r\n" ∷ []

-- `NormalToken` from PatternIdent to Whitespace, over the digits that a word may hold
unfoldable pub shaped_rules : List ℕ → List Rule
shaped_rules digits =
    rule PATTERN_IDENT (pattern_word "$" digits)
    ∷ rule PATTERN_COUNT (pattern_word "#" digits)
    ∷ rule PATTERN_OFFSET (pattern_word "@" digits)
    ∷ rule PATTERN_LENGTH (pattern_word "!" digits)
    ∷ rule IDENT (identifier digits)
    ∷ rule FLOAT_LIT float
    ∷ rule INTEGER_LIT integer
    ∷ rule STRING_LIT string
    ∷ rule STRING_LIT multi_line_string
    ∷ rule REGEXP regexp
    ∷ rule COMMENT (block_comment byte)
    ∷ rule COMMENT line_comment
    ∷ rule WHITESPACE blanks
    ∷ []

-- `NormalToken`
unfoldable pub normal_rules : Tables → List Rule
unfolding words_1 digits_16 shaped_rules
normal_rules t = map spelled t.words ++ (map spelled operators ++ (shaped_rules t.digits ++ map spelled newlines))

-- `HexPatternToken`

-- ~?[?0-9a-fA-F]{2}
abbrev pub hex_byte : Pat
hex_byte = row (optional (is "~") ∷ byte hex_or_mark ∷ byte hex_or_mark ∷ [])

abbrev pub pattern_operators : List Spelling
pattern_operators = spell 59 "|" ∷ spell 64 "(" ∷ spell 65 ")" ∷ spell 66 "[" ∷ spell 67 "]" ∷ []

unfoldable pub pattern_rules : List Rule
pattern_rules =
    rule HEX_BYTE hex_byte
    ∷ map spelled pattern_operators
    ++ (rule WHITESPACE blanks ∷ map spelled newlines ++ (rule COMMENT (block_comment char) ∷ rule COMMENT line_comment ∷ []))

-- `HexJumpToken`

-- 0x[a-fA-F0-9]+ | 0o[0-7]+ | [0-9]+
abbrev pub jump_integer : Pat
jump_integer = alt (row (text "0x" ∷ plus (byte hex) ∷ [])) (alt (row (text "0o" ∷ plus (byte oct) ∷ [])) (plus (byte dec)))

abbrev pub jump_operators : List Spelling
jump_operators = spell 57 "-" ∷ []

unfoldable pub jump_rules : List Rule
jump_rules = map spelled jump_operators ++ (rule INTEGER_LIT jump_integer ∷ rule WHITESPACE blanks ∷ map spelled newlines)
