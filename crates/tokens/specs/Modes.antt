-- The modes by number: 0 normal, 1 pattern, 2 jump. Another number is no mode's.
-- Assumes nothing.
use Rattle.std.specs.Prelude.{ℕ, zero, suc, Option, Some, None}
use Rattle.tokens.specs.declared.Mode.{Mode}
use Rattle.tokens.specs.declared.Mode.TheVariants.{Normal, HexPattern, HexJump}

abbrev pub number_of : Mode → ℕ
number_of Normal = 0
number_of HexPattern = 1
number_of HexJump = 2

abbrev pub mode_of : ℕ → Option Mode
mode_of zero = Some Normal
mode_of (suc zero) = Some HexPattern
mode_of (suc (suc zero)) = Some HexJump
mode_of (suc (suc (suc n))) = None
