-- The modes by number, as tokens/specs/Modes has them. A number that is no mode's is refused before it is read.
-- Assumes nothing.
use Rattle.std.specs.Prelude.{ℕ, zero, suc, ◌<◌, ◌≡◌, refl, unwrap_or}
use Rattle.std.proofs.Common.{arith}
use Rattle.tokens.specs.Modes as by_number
use Rattle.tokens.specs.declared.Mode.{Mode}
use Rattle.tokens.specs.declared.Mode.TheVariants.{Normal, HexPattern, HexJump}

abbrev pub number_of : Mode → ℕ
number_of m = by_number.number_of m

abbrev pub mode_of : ℕ → Mode
mode_of n = unwrap_or (by_number.mode_of n) HexJump

-- Each is read back from the other.
pub mode_back : (m : Mode) → mode_of (number_of m) ≡ m
mode_back Normal = refl
mode_back HexPattern = refl
mode_back HexJump = refl

pub number_back : (n : ℕ) → n < 3 → number_of (mode_of n) ≡ n
number_back zero h = refl
number_back (suc zero) h = refl
number_back (suc (suc zero)) h = refl
number_back (suc (suc (suc n))) h = absurd (omega arith)

pub number_low : (m : Mode) → number_of m < 3
number_low Normal = omega arith
number_low HexPattern = omega arith
number_low HexJump = omega arith
