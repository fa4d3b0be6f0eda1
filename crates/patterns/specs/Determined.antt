-- Why a promise that is an equation leaves no choice: two results that are equal to one value are equal, and so are two that are told by
-- one value, where what is told can be read back. Assumes nothing.
use Rattle.std.specs.Prelude.{◌≡◌}

-- what can be read back is told once
abbrev pub Once : {G R : Type 0} → (G → R) → Type 0
Once {G} {R} told = (r : R) (g h : G) → told g ≡ r → told h ≡ r → g ≡ h
