-- Document 01's kinds 68 to 82 by name. Kinds 1 to 67 are spellings: the keywords and operators of Tokens.antt.
-- Assumes nothing.
use Rattle.std.specs.Prelude.{ℕ}

abbrev pub PATTERN_IDENT : ℕ
PATTERN_IDENT = 68

abbrev pub PATTERN_COUNT : ℕ
PATTERN_COUNT = 69

abbrev pub PATTERN_OFFSET : ℕ
PATTERN_OFFSET = 70

abbrev pub PATTERN_LENGTH : ℕ
PATTERN_LENGTH = 71

abbrev pub IDENT : ℕ
IDENT = 72

abbrev pub FLOAT_LIT : ℕ
FLOAT_LIT = 73

abbrev pub INTEGER_LIT : ℕ
INTEGER_LIT = 74

abbrev pub STRING_LIT : ℕ
STRING_LIT = 75

abbrev pub REGEXP : ℕ
REGEXP = 76

abbrev pub COMMENT : ℕ
COMMENT = 77

abbrev pub WHITESPACE : ℕ
WHITESPACE = 78

abbrev pub NEWLINE : ℕ
NEWLINE = 79

abbrev pub HEX_BYTE : ℕ
HEX_BYTE = 80

abbrev pub INVALID_UTF8 : ℕ
INVALID_UTF8 = 81

abbrev pub UNKNOWN : ℕ
UNKNOWN = 82
