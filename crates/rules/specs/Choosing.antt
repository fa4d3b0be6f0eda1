-- What is taken where no rule matches and the text is well-formed. Assumes nothing.
use Prim.Native.Nat.{ℕ, max}
use Rattle.std.specs.Prelude.{List}
use Rattle.patterns.specs.Pattern.{longest}
use Rattle.tokens.specs.declared.Mode.TheVariants.{Normal}
use Rattle.tokens.specs.declared.Choice.{Choice}
use Rattle.tokens.specs.Kinds.{UNKNOWN}
use Rattle.tokens.specs.Scan.{chosen, plain}

-- a text that no rule matches, and that is well-formed at its front
abbrev pub unknown_of : List ℕ → Choice
unknown_of s = chosen UNKNOWN (max 1 (longest plain s)) Normal
