-- Examples that pin the listing's text: numbers, document 01's own example, the empty source.
-- Each is computed by the definitions themselves. Assumes nothing.
use Rattle.std.specs.Prelude.{◌≡◌, refl, [], ◌∷◌, map}
use Rattle.tokens.specs.declared.Mode.TheVariants.{Normal}
use Rattle.tokens.specs.Tokens.{ascii, tables_1}
use Rattle.tokens.specs.Scan.{list_from, tokens}
use Rattle.listing_text.specs.Listing.{decimal, text}

numbers : map decimal (0 ∷ 9 ∷ 10 ∷ 82 ∷ 100 ∷ 65535 ∷ [])
    ≡ ascii "0" ∷ ascii "9" ∷ ascii "10" ∷ ascii "82" ∷ ascii "100" ∷ ascii "65535" ∷ []
unfolding decimal
numbers = refl

pub example_1 : text (tokens tables_1 Normal (ascii "x=1KB\n")) ≡ ascii "tokens 4\n72 0 1\n55 1 2\n74 2 5\n79 5 6\n"
unfolding list_from text
example_1 = refl

pub example_empty : text (tokens tables_1 Normal []) ≡ ascii "tokens 0\n"
unfolding list_from text
example_empty = refl
