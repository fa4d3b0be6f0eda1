-- Why a promise that is an equation leaves no choice: two results that are equal to one value are equal, and so are two that are told by
-- one value, where what is told can be read back. Assumes nothing.
use Rattle.std.specs.Prelude.{◌≡◌}
use Rattle.std.proofs.Common.{sym, ap, ◌∙◌}
use Rattle.patterns.specs.Determined.{Once}

pub determined : {A : Type 0} {x y z : A} → x ≡ z → y ≡ z → x ≡ y
determined e f = e ∙ sym f

pub once : {G R : Type 0} (told : G → R) (read : R → G) → ((g : G) → read (told g) ≡ g) → Once told
once told read same r g h e f = sym (same g) ∙ ap read (determined e f) ∙ same h
