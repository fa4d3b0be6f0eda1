-- What holds at each turn of the loop that measures some tokens' listing, in rest form: what is done, with what is left, is the whole.
-- Each turn moves one token from what is left to what is done. Assumes nothing.
use Rattle.std.specs.Prelude.{ℕ, ◌+◌, ◌≡◌, List, length}
use Rattle.tokens.specs.declared.Token.{Token}
use Rattle.listing_text.specs.Listing.{lines}

-- the tokens so far and the bytes of their lines, where those in `left` are left
pub record Measured (xs : List Token) (count bytes : ℕ) (left : List Token) : Type 0 where
  pub counted : count + length left ≡ length xs
  pub sized : bytes + length (lines left) ≡ length (lines xs)
