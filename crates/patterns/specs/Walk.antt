-- The laws by which the proof of a scanning loop goes. The loop's invariant is `Came`: of the pattern p, sought from the place `at`,
-- q is left at the place i, and b is the end of the longest match so far; each law is one turn of `walk`. Assumes nothing.
use Prim.Native.Nat.{ℕ, suc, ◌+◌}
use Rattle.std.specs.Prelude.{◌≡◌, Bool, ◌&&◌, drop, eqb, Option, Some, None}
use Rattle.std.proofs.Math.Bool.{true, false, cond}
use mathlib.Core.List.{List, [], ◌∷◌}
use Rattle.patterns.specs.declared.Char.{Char}
use Rattle.patterns.specs.Utf8.{Class}
use Rattle.patterns.specs.Pattern.{Pat, follow, nullable, if_in, deriv, walk, longest}

-- The walk itself.

-- The invariant, and its laws.

pub record Came (p : Pat) (s : List ℕ) (at : ℕ) (q : Pat) (i b : ℕ) : Type 0 where
  pub same : at + longest p (drop at s) ≡ walk q (drop i s) i b

-- A run of bytes of one class.

-- how many stand at the front
unfoldable pub span : Class → List ℕ → ℕ
span f [] = 0
span f (x ∷ xs) = cond (f x) (suc (span f xs)) 0

-- One character.

-- the walk over a character of the class f and then r, by what stands at the front
unfoldable pub char_then : Class → Pat → Option Char → List ℕ → ℕ → ℕ → ℕ
char_then f r (Some c) xs k b = cond (f c.value) (walk r (drop c.len xs) (k + c.len) b) b
char_then f r None xs k b = b

-- A spelling.

-- ys stands at the front
unfoldable pub prefix : List ℕ → List ℕ → Bool
prefix [] xs = true
prefix (y ∷ ys) [] = false
prefix (y ∷ ys) (x ∷ xs) = eqb x y && prefix ys xs

-- w is the spelling ys and then q
pub data Text (q : Pat) : List ℕ → Pat → Type 0 where
  read : Text q [] q
  next : {y : ℕ} {ys : List ℕ} {w w' : Pat} → nullable w ≡ false → ((x : ℕ) → deriv x w ≡ follow (if_in (eqb x y)) w') → Text q ys w' → Text q (y ∷ ys) w
