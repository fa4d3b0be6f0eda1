-- The words behind `$`, `#`, `@` and `!`: a mark, and then a tail, which may be empty. Assumes nothing.
use Rattle.std.specs.Prelude.{ℕ, ◌+◌, ◌≡◌, List, drop}
use Rattle.patterns.specs.Pattern.{longest}
use Rattle.tokens.specs.declared.Hit.{Hit}
use Rattle.tokens.specs.Unicode.{digits_16}
use Rattle.tokens.specs.Tokens.{tail}
use Rattle.tokens.specs.Scan.{hit, better}

-- the hit of kind k, a byte and the tail behind it
pub record Marked (k : ℕ) (s : List ℕ) (at : ℕ) (h : Hit) : Type 0 where
  pub is : h ≡ better (hit k (1 + longest (tail digits_16) (drop (at + 1) s))) (hit 0 0)
