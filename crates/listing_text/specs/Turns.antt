-- What holds at each turn of the loop that writes the lines of some tokens, in rest form: what is done, with what is left, is the whole.
-- Each turn moves one token from what is left to what is done. Assumes nothing.
use Rattle.std.specs.Prelude.{ℕ, ◌+◌, ◌≤◌, ◌≡◌, List}
use Rattle.std.proofs.Math.ListN.{length}
use Rattle.tokens.specs.declared.Token.{Token}
use Rattle.listing_text.specs.Listing.{lines}
use Rattle.listing_text.specs.Put.{Wrote}

-- the tokens so far; and to write the lines that are left from here on is to write all of them from the start.
pub record Writing (xs : List Token) (at : ℕ) (out₀ : List ℕ) (count behind : ℕ) (out : List ℕ) (left : List Token) : Type 0 where
  pub counted : count + length left ≡ length xs
  pub same : length out ≡ length out₀
  pub room : behind + length (lines left) ≤ length out
  pub whole : (after : List ℕ) (n : ℕ) → Wrote behind (lines left) out after n → Wrote at (lines xs) out₀ after n
