-- What holds of every scan: a token is never empty, starts at the place and ends within the source; none is answered exactly at the
-- end. Proved once over any modes and rules: a choice takes at least one byte, and no rule more than there are. Assumes nothing.
use Rattle.std.specs.Prelude.{ℕ, ◌≤◌, ◌<◌, Some, None}
use Rattle.std.proofs.Math.Path.{◌≡◌}
use mathlib.Core.List.{List}
use Rattle.std.proofs.Math.ListN.{length}
use Rattle.tokens.specs.declared.Choice.{Choice}
use Rattle.tokens.specs.declared.Token.{Token}
use Rattle.tokens.specs.Scan.{Scanned}

-- a choice takes something, and no more than the l bytes that there are
pub record Fair (l : ℕ) (c : Choice) : Type 0 where
  pub moves : 1 ≤ c.len
  pub inside : c.len ≤ l

-- What is found at a place: the laws that the layers above use.
pub record Step (src : List ℕ) (at : ℕ) (x : Token) : Type 0 where
  pub starts : x.start.0 ≡ at
  pub longer : at < x.end.0
  pub within : x.end.0 ≤ length src

unfoldable pub Allowed : List ℕ → ℕ → Scanned → Type 0
Allowed src at None = length src ≤ at
Allowed src at (Some (x, m)) = Step src at x
