-- A mode is read back from its number, so that no two have one number; and a number that is a mode's is that mode's.
-- Assumes nothing.
use Rattle.std.specs.Prelude.{ℕ, zero, suc, ◌≡◌, refl, Some}
use Rattle.tokens.specs.declared.Mode.{Mode}
use Rattle.tokens.specs.declared.Mode.TheVariants.{Normal, HexPattern, HexJump}
use Rattle.tokens.specs.Modes.{number_of, mode_of}

pub mode_back : (m : Mode) → mode_of (number_of m) ≡ Some m
mode_back Normal = refl
mode_back HexPattern = refl
mode_back HexJump = refl

pub number_back : (n : ℕ) {m : Mode} → mode_of n ≡ Some m → number_of m ≡ n
number_back zero {m} e = let k : m ≡ Normal = cc in rw k refl
number_back (suc zero) {m} e = let k : m ≡ HexPattern = cc in rw k refl
number_back (suc (suc zero)) {m} e = let k : m ≡ HexJump = cc in rw k refl
number_back (suc (suc (suc n))) e = cc
