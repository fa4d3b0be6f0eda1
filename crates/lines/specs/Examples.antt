-- Examples that pin the definitions: a call with numbers, one with none, an empty line, the greatest number, ends of lines.
-- Each is computed by the definitions themselves. Assumes nothing.
use Rattle.std.specs.Prelude.{ℕ, ◌≡◌, refl, [], ◌∷◌, map}
use Rattle.patterns.specs.Walk.{span}
use Rattle.tokens.specs.Tokens.{ascii}
use Rattle.lines.specs.Decimals.{greatest}
use Rattle.lines.specs.declared.Asked.{Asked}
use Rattle.lines.specs.Lines.{lf, next_byte, asked}

abbrev asks : ℕ → ℕ → ℕ → ℕ → Asked
asks l a b c = record { letter = l; first = a; second = b; third = c }

numbers : asked (ascii "token 72 0 65535") ≡ asks 116 72 0 65535
unfolding asked
numbers = refl

no_digits : asked (ascii "M 18446744073709551614 18446744073709551616 x7") ≡ asks 77 18446744073709551614 greatest 0
unfolding asked
no_digits = refl

empty : asked [] ≡ asks 0 0 0 0
unfolding asked
empty = refl

ends : map (λ (from : ℕ). next_byte (ascii "ab\nc") from lf) (0 ∷ 2 ∷ 3 ∷ 4 ∷ 9 ∷ []) ≡ 2 ∷ 2 ∷ 4 ∷ 4 ∷ 9 ∷ []
unfolding span
ends = refl
