-- How long a listing can be. A kind is below 100 and an offset below 100000, so no line has more than 15 bytes; and since no token is
-- empty, no source has more tokens than bytes. Assumes nothing.
use Rattle.std.specs.Prelude.{◌<◌}
use Rattle.tokens.specs.declared.Token.{Token}

-- what every token of a source within the limit is
pub record Small (x : Token) : Type 0 where
  pub kind : x.kind < 100
  pub start : x.start.0 < 100000
  pub end : x.end.0 < 100000
