-- A number in decimal: its digits, and a space before them. Assumes nothing.
use Rattle.std.specs.Prelude.{ℕ, min, ◌+◌, ◌-◌, ◌*◌, Option, Some, None, Bool, cond, ◌&&◌, List, [], ◌∷◌, get_or, drop, eqb}
use Rattle.patterns.specs.Walk.{span}
use Rattle.tokens.specs.Tokens.{dec}
use Rattle.lines.specs.declared.decimals.Number.{Number}

abbrev pub space : ℕ
space = 32

-- The number that is spelled at the front in decimal, a number being before it. The greatest stands for all above it.
abbrev pub greatest : ℕ
greatest = 18446744073709551615

abbrev pub grown : ℕ → ℕ → ℕ
grown n b = min (n * 10 + (b - 48)) greatest

unfoldable pub number : ℕ → List ℕ → ℕ
number n [] = n
number n (b ∷ bs) = cond (dec b) (number (grown n b) bs) n

-- The number that is spelled at a place, and the place behind its digits.
abbrev pub spelled : List ℕ → ℕ → Number
spelled text from = record { value = number 0 (drop from text); end = from + span dec (drop from text) }

-- Whether a space and a digit stand at a place; 0, which is neither, stands for the end.
abbrev pub starts : List ℕ → ℕ → Bool
starts text at = eqb (get_or text at 0) space && dec (get_or text (at + 1) 0)

-- The number behind a space at a place, or nothing.
abbrev pub behind : List ℕ → ℕ → Option Number
behind text at = cond (starts text at) (Some (spelled text (at + 1))) None

-- Its value alone; 0 stands for nothing.
abbrev pub value_or_zero : Option Number → ℕ
value_or_zero None = 0
value_or_zero (Some n) = n.value
