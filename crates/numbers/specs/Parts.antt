-- The parts that numbers are made of: the digits of a base, a prefix, a suffix, a fraction. The rules of Tokens.antt are made of them
-- (the theorems at the end): written out, they are the same patterns. Assumes nothing.
use Rattle.std.specs.Prelude.{ℕ, ◌+◌, ◌≡◌, refl, Bool, true, false, cond, List, [], ◌∷◌, get_or, eqb}
use Rattle.patterns.specs.Utf8.{Class}
use Rattle.patterns.specs.Pattern.{Pat, byte, seq, alt, star, plus, optional, row}
use Rattle.tokens.specs.Tokens.{dec, oct, hex, or_underscore, text, is, float, integer, jump_integer}
use Rattle.numbers.specs.declared.Base.{Base}
use Rattle.numbers.specs.declared.Base.TheVariants.{Octal, Decimal, Hex}

unfoldable pub digit : Base → Class
digit Octal = oct
digit Decimal = dec
digit Hex = hex

-- a digit or, where they are allowed, an underscore
unfoldable pub run : Base → Bool → Class
unfolding digit
run base true = or_underscore (digit base)
run base false = digit base

-- a digit and then a run
unfoldable pub digits : Base → Bool → Pat
unfolding run
digits base underscores = seq (byte (digit base)) (star (byte (run base underscores)))

-- the base that is announced by a 0, and an x or an o behind it
abbrev pub base_by : (zero x o : Bool) → Base
base_by zero x o = cond zero (cond x Hex (cond o Octal Decimal)) Decimal

unfoldable pub base_at : List ℕ → ℕ → Base
base_at s at = base_by (eqb (get_or s at 0) 48) (eqb (get_or s (at + 1) 0) 120) (eqb (get_or s (at + 1) 0) 111)

-- (KB|MB)?
abbrev pub suffix : Pat
suffix = optional (alt (text "KB") (text "MB"))

-- \. [0-9_]+
abbrev pub fraction : Pat
fraction = seq (is ".") (plus (byte (or_underscore dec)))

-- what may follow the first digit of a decimal integer
abbrev pub integer_tail : Pat
integer_tail = seq (star (byte (or_underscore dec))) suffix

abbrev pub jump_tail : Pat
jump_tail = star (byte dec)

abbrev pub decimal_integer : Pat
decimal_integer = seq (byte dec) integer_tail

-- an integer of any base
abbrev pub any_base : Bool → Pat → Pat
any_base underscores tail =
    alt (row (text "0x" ∷ digits Hex underscores ∷ []))
    (alt (row (text "0o" ∷ digits Octal underscores ∷ [])) (seq (byte dec) tail))

integer_parts : integer ≡ any_base true integer_tail
unfolding digits
integer_parts = refl

jump_parts : jump_integer ≡ any_base false jump_tail
unfolding digits
jump_parts = refl

float_parts : float ≡ seq (byte dec) (seq (star (byte (or_underscore dec))) fraction)
float_parts = refl
