-- Examples that pin the definitions: every keyword and operator, texts that are and are not one token, classes, the Unicode tables.
-- Each is computed by the definitions themselves. Assumes nothing.
use Rattle.std.specs.Prelude.{◌≡◌, refl, true, not, [], ◌∷◌, map, length}
use Rattle.patterns.specs.Lists.{each, members}
use Rattle.patterns.specs.Pattern.{nullable}
use Rattle.tokens.specs.declared.Mode.{Mode}
use Rattle.tokens.specs.declared.Mode.TheVariants.{Normal, HexPattern, HexJump}
use Rattle.tokens.specs.Unicode.{digits_16}
use Rattle.tokens.specs.Tokens.{ascii, tables_1, letter, dec, oct, hex, word_start, hex_or_mark, blank}
use Rattle.tokens.specs.Scan.{rules, token, listing, list_from}
use Rattle.tokens.specs.Examples.{kinds, one_token, spaced, sum}

-- quoted texts
escapes : ascii "a\"\\\n\r\t/" ≡ 97 ∷ 34 ∷ 92 ∷ 10 ∷ 13 ∷ 9 ∷ 47 ∷ []
escapes = refl

-- the keywords and the operators, in the order of src/tokenizer/mod.rs
keywords : kinds Normal
    ("all" ∷ "and" ∷ "any" ∷ "ascii" ∷ "at" ∷ "base64" ∷ "base64wide" ∷ "condition" ∷ "contains" ∷ "defined" ∷
    "endswith" ∷ "entrypoint" ∷ "false" ∷ "filesize" ∷ "for" ∷ "fullword" ∷ "global" ∷ "icontains" ∷ "iendswith" ∷ "iequals" ∷
    "import" ∷ "in" ∷ "include" ∷ "istartswith" ∷ "matches" ∷ "meta" ∷ "nocase" ∷ "none" ∷ "not" ∷ "of" ∷
    "or" ∷ "private" ∷ "rule" ∷ "startswith" ∷ "strings" ∷ "them" ∷ "true" ∷ "wide" ∷ "xor" ∷ "with" ∷ [])
    ≡ 1 ∷ 2 ∷ 3 ∷ 4 ∷ 5 ∷ 6 ∷ 7 ∷ 8 ∷ 9 ∷ 10 ∷ 11 ∷ 12 ∷ 13 ∷ 14 ∷ 15 ∷ 16 ∷ 17 ∷ 18 ∷ 19 ∷ 20 ∷
    21 ∷ 22 ∷ 23 ∷ 24 ∷ 25 ∷ 26 ∷ 27 ∷ 28 ∷ 29 ∷ 30 ∷ 31 ∷ 32 ∷ 33 ∷ 34 ∷ 35 ∷ 36 ∷ 37 ∷ 38 ∷ 40 ∷ 39 ∷ []
unfolding kinds
keywords = refl

operators : kinds Normal
    ("<<" ∷ ">>" ∷ "==" ∷ "!=" ∷ "<=" ∷ ">=" ∷ "<" ∷ ">" ∷ "&" ∷ "*" ∷ "\\" ∷ ":" ∷ "," ∷ "." ∷
    "=" ∷ "+" ∷ "-" ∷ "%" ∷ "|" ∷ "^" ∷ "~" ∷ "{" ∷ "}" ∷ "(" ∷ ")" ∷ "[" ∷ "]" ∷ [])
    ≡ 41 ∷ 42 ∷ 43 ∷ 44 ∷ 45 ∷ 46 ∷ 47 ∷ 48 ∷ 49 ∷ 50 ∷ 51 ∷ 52 ∷ 53 ∷ 54 ∷ 55 ∷ 56 ∷ 57 ∷ 58 ∷ 59 ∷ 60 ∷ 61 ∷ 62 ∷ 63 ∷ 64 ∷ 65 ∷ 66 ∷ 67 ∷ []
unfolding kinds
operators = refl

-- words and numbers, and what is none: a digit first, an underscore first, a digit of the wrong base, a suffix in small letters
words : kinds Normal ("$" ∷ "$a1_" ∷ "#a" ∷ "@" ∷ "!len" ∷ "_a1" ∷ "rules" ∷ "Rule" ∷ "1a" ∷ [])
    ≡ 68 ∷ 68 ∷ 69 ∷ 70 ∷ 71 ∷ 72 ∷ 72 ∷ 72 ∷ 0 ∷ []
unfolding kinds
words = refl

numbers : kinds Normal ("0" ∷ "1_000_" ∷ "0x1F_a" ∷ "0o17_" ∷ "10KB" ∷ "1_MB" ∷ "0_1.5" ∷ "1._" ∷ "0x" ∷ "0o8" ∷ "1kb" ∷ "0x1KB" ∷ "._1" ∷ "1.5KB" ∷ [])
    ≡ 74 ∷ 74 ∷ 74 ∷ 74 ∷ 74 ∷ 74 ∷ 73 ∷ 73 ∷ 0 ∷ 0 ∷ 0 ∷ 0 ∷ 0 ∷ 0 ∷ []
unfolding kinds
numbers = refl

-- strings, regexps and comments, and what breaks them: a bare LF, an escaped LF, a star or slash first, a third modifier, `/*/`
texts : kinds Normal ("\"\"" ∷ "\"a\\\"b\"" ∷ "\"\"\"a\nb\"\"\"" ∷ "\"\"\"\"\"\"" ∷ "\"\\\"" ∷ "\"\"\"\\\"\"\"" ∷ "\"a\nb\"" ∷ "\"\\\n\"" ∷ "\"\"\"\\\n\"\"\"" ∷ "\"\"\"a\"b\"\"\"" ∷ [])
    ≡ 75 ∷ 75 ∷ 75 ∷ 75 ∷ 0 ∷ 0 ∷ 0 ∷ 0 ∷ 0 ∷ 0 ∷ []
unfolding kinds
texts = refl

regexps : kinds Normal ("/a/" ∷ "/\\//i" ∷ "/a*/is" ∷ "/*a/" ∷ "//a" ∷ "/a\n/" ∷ "/\n/" ∷ "/\\/" ∷ "/a\\/" ∷ "/\\\n/" ∷ "/a/isx" ∷ "/a/1" ∷ [])
    ≡ 76 ∷ 76 ∷ 76 ∷ 0 ∷ 77 ∷ 0 ∷ 0 ∷ 0 ∷ 0 ∷ 0 ∷ 0 ∷ 0 ∷ []
unfolding kinds
regexps = refl

comments : kinds Normal ("/**/" ∷ "/* a\n*b**/" ∷ "/*/" ∷ "/*a*/b*/" ∷ "/***/" ∷ "/***/b*/" ∷ "//" ∷ "// a\r" ∷ "//\n" ∷ []) ≡ 77 ∷ 77 ∷ 0 ∷ 0 ∷ 77 ∷ 0 ∷ 77 ∷ 77 ∷ 0 ∷ []
unfolding kinds
comments = refl

blanks : kinds Normal (" " ∷ "\t \t" ∷ "\n" ∷ "\r" ∷ "\r\n" ∷ " \n" ∷ "\n\n" ∷ "\n\r" ∷ []) ≡ 78 ∷ 78 ∷ 79 ∷ 79 ∷ 79 ∷ 0 ∷ 0 ∷ 0 ∷ []
unfolding kinds
blanks = refl

-- the hex modes
hex_pattern : kinds HexPattern ("0a" ∷ "~A?" ∷ "??" ∷ "|" ∷ "(" ∷ ")" ∷ "[" ∷ "]" ∷ " \t" ∷ "\r\n" ∷ "/**/" ∷ "//a" ∷ "0" ∷ "~0" ∷ "~" ∷ "0g" ∷ "-" ∷ "{" ∷ [])
    ≡ 80 ∷ 80 ∷ 80 ∷ 59 ∷ 64 ∷ 65 ∷ 66 ∷ 67 ∷ 78 ∷ 79 ∷ 77 ∷ 77 ∷ 0 ∷ 0 ∷ 0 ∷ 0 ∷ 0 ∷ 0 ∷ []
unfolding kinds
hex_pattern = refl

hex_jump : kinds HexJump ("-" ∷ "12" ∷ "0x1F" ∷ "0o17" ∷ " " ∷ "\n" ∷ "1_0" ∷ "1KB" ∷ "0x" ∷ "]" ∷ "//" ∷ []) ≡ 57 ∷ 74 ∷ 74 ∷ 74 ∷ 78 ∷ 79 ∷ 0 ∷ 0 ∷ 0 ∷ 0 ∷ 0 ∷ []
unfolding kinds
hex_jump = refl

-- blanks and digits beyond ASCII are characters, not bytes: U+00A0 and U+2003; U+0663 in a word and alone
characters : map (one_token Normal) ((0xC2 ∷ 0xA0 ∷ 0xE2 ∷ 0x80 ∷ 0x83 ∷ []) ∷ (0xA0 ∷ []) ∷ (0x24 ∷ 0xD9 ∷ 0xA3 ∷ []) ∷ (0xD9 ∷ 0xA3 ∷ []) ∷ [])
    ≡ 78 ∷ 0 ∷ 68 ∷ 0 ∷ []
unfolding one_token
characters = refl

-- a byte that is no UTF-8 may stand in a block comment of normal mode and not in one of pattern mode, and in a line comment of both
ill_formed : one_token Normal (0x2F ∷ 0x2A ∷ 0xFF ∷ 0x2A ∷ 0x2F ∷ [])
    ∷ one_token HexPattern (0x2F ∷ 0x2A ∷ 0xFF ∷ 0x2A ∷ 0x2F ∷ [])
    ∷ one_token Normal (0x2F ∷ 0x2F ∷ 0xFF ∷ [])
    ∷ one_token HexPattern (0x2F ∷ 0x2F ∷ 0xFF ∷ [])
    ∷ []
    ≡ 77 ∷ 0 ∷ 77 ∷ 77 ∷ []
unfolding one_token
ill_formed = refl

-- the smallest sources on which the Rust does otherwise (docs/DIFFERENCES.md): a quote and a blank, two bytes of a character cut off
apart_from_rust : list_from tables_1 (0x22 ∷ 0x09 ∷ []) 0 Normal ∷ list_from tables_1 (0xE2 ∷ 0x80 ∷ []) 0 Normal ∷ []
    ≡ listing (token 82 0 1 ∷ token 78 1 2 ∷ []) Normal ∷ listing (token 81 0 1 ∷ token 81 1 2 ∷ []) Normal ∷ []
unfolding list_from
apart_from_rust = refl

-- no rule of any mode matches the empty text
never_empty : (m : Mode) → each (λ r. not (nullable r.pattern)) (rules tables_1 m) ≡ true
unfolding rules
never_empty Normal = refl
never_empty HexPattern = refl
never_empty HexJump = refl

-- the classes, by their members
classes : map (members 256) (dec ∷ oct ∷ hex ∷ hex_or_mark ∷ letter ∷ word_start ∷ [])
    ≡ ascii "9876543210"
    ∷ ascii "76543210"
    ∷ ascii "fedcbaFEDCBA9876543210"
    ∷ ascii "fedcbaFEDCBA?9876543210"
    ∷ ascii "zyxwvutsrqponmlkjihgfedcbaZYXWVUTSRQPONMLKJIHGFEDCBA"
    ∷ ascii "zyxwvutsrqponmlkjihgfedcba_ZYXWVUTSRQPONMLKJIHGFEDCBA"
    ∷ []
unfolding members
classes = refl

-- the blank run has 16 characters: U+0085 and U+3000 are not among them
blank_run : members 0x3100 blank
    ≡ 0x205F ∷ 0x202F ∷ 0x200A ∷ 0x2009 ∷ 0x2008 ∷ 0x2007 ∷ 0x2006 ∷ 0x2005 ∷ 0x2004 ∷ 0x2003 ∷ 0x2002 ∷ 0x2001 ∷ 0x2000 ∷ 0xA0 ∷ 0x20 ∷ 0x9 ∷ []
unfolding members
blank_run = refl

nd_runs : length digits_16 ∷ sum digits_16 ∷ [] ≡ 76 ∷ 3988803 ∷ []
unfolding sum digits_16
nd_runs = refl

pub nd_spaced : spaced digits_16 ≡ true
unfolding digits_16
nd_spaced = refl
