-- Two classes that agree on the characters of a text have the same runs there: a run goes on by what is decoded, and a decoded
-- character is never empty, so that the text gets shorter. Assumes nothing.
use Prim.Native.Nat.{ℕ}
use Rattle.std.specs.Prelude.{◌≡◌, drop}
use mathlib.Core.List.{List}
use Rattle.patterns.specs.Utf8.{Class, decode, whole}

-- two classes agree on the characters of a text, wherever one is read
abbrev pub Agree : Class → Class → List ℕ → Type 0
Agree p q s = (k v n : ℕ) → decode (drop k s) ≡ whole v n → p v ≡ q v
