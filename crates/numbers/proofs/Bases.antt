-- A base that is octal or hex is not decimal. Assumes nothing.
use Rattle.std.proofs.Common.{◌≡◌, ◌⊎◌, inl, inr}
use Rattle.numbers.specs.declared.Base.{Base}
use Rattle.numbers.specs.declared.Base.TheVariants.{Octal, Decimal, Hex}

pub not_decimal : {base : Base} → (base ≡ Octal) ⊎ (base ≡ Hex) → base ≡ Decimal → ⊥
not_decimal (inl z) e = cc
not_decimal (inr z) e = cc
