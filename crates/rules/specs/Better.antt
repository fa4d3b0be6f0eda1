-- Which of two hits is taken: the first, or the other where the first is none or shorter. Assumes nothing.
use Rattle.std.specs.Prelude.{◌≤◌, ◌<◌, Option, Some, None, cond, leb}
use Rattle.tokens.specs.declared.Hit.{Hit}

-- the lengths decide which
pub data Which (h g : Hit) : Type 0 where
  first : 1 ≤ h.len → g.len ≤ h.len → Which h g
  none : h.len < 1 → Which h g
  longer : h.len < g.len → Which h g

-- the same of hits as the code has them
abbrev pub longer_hit : Option Hit → Option Hit → Option Hit
longer_hit None other = other
longer_hit (Some h) None = Some h
longer_hit (Some h) (Some g) = cond (leb g.len h.len) (Some h) (Some g)
