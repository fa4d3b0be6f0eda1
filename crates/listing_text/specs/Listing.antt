-- The listing's text, as document 01's section "Listing" gives it: `tokens N`, and then one line for each token.
-- Assumes nothing.
use Rattle.std.specs.Prelude.{ℕ, zero, suc, ◌+◌, ◌/◌, ◌%◌, true, false, List, [], ◌∷◌, ◌++◌, length, ltb}
use Rattle.tokens.specs.declared.Token.{Token}
use Rattle.tokens.specs.Tokens.{ascii}

-- a digit in ASCII
abbrev pub digit : ℕ → ℕ
digit d = 48 + d

-- A number's digits, the most significant first: the last digit stands behind those of the tenth part, unless that is 0.
-- The first argument is a number of turns.
unfoldable pub digits : ℕ → ℕ → List ℕ
digits zero n = []
digits (suc k) n = elim (ltb n 10) [ true ↦ digit n ∷ [] | false ↦ digits k (n / 10) ++ (digit (n % 10) ∷ []) ]

-- n has at most n + 1 digits
unfoldable pub decimal : ℕ → List ℕ
unfolding digits
decimal n = digits (suc n) n

abbrev pub space : ℕ
space = 32

abbrev pub lf : ℕ
lf = 10

-- a number in decimal, and a byte behind it
unfoldable pub field : ℕ → ℕ → List ℕ
unfolding decimal
field n b = decimal n ++ (b ∷ [])

-- kind, start, end, one space between
unfoldable pub line : Token → List ℕ
unfolding field
line x = field x.kind space ++ field x.start.0 space ++ field x.end.0 lf

unfoldable pub lines : List Token → List ℕ
unfolding line
lines [] = []
lines (x ∷ xs) = line x ++ lines xs

-- `tokens N`
unfoldable pub head : ℕ → List ℕ
unfolding field
head n = ascii "tokens " ++ field n lf

unfoldable pub text : List Token → List ℕ
unfolding head lines
text xs = head (length xs) ++ lines xs
