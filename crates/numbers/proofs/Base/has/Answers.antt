-- `Base::has` meets its contract: each base has its class of bytes.
-- Assumes nothing.
use Rattle.std.proofs.Common.{ℕ, ◌≡◌, sym, ap, ◌∙◌}
use Rattle.numbers.specs.declared.Base.{Base}
use Rattle.numbers.specs.Parts.{digit}
use Rattle.numbers.proofs.Base.has.Goals as goal

-- the base of an arm
known : (b : ℕ) {base arm : Base} → base ≡ arm → digit arm b ≡ digit base b
known b e = ap (λ (x : Base). digit x b) (sym e)

pub returns-in-Octal : goal.returns-in-Octal
unfolding digit
returns-in-Octal c = c.is_oct.ensures ∙ known _ c.in-Octal.is

pub returns-in-Decimal : goal.returns-in-Decimal
unfolding digit
returns-in-Decimal c = c.is_dec.ensures ∙ known _ c.in-Decimal.is

pub returns-in-Hex : goal.returns-in-Hex
unfolding digit
returns-in-Hex c = c.is_hex.ensures ∙ known _ c.in-Hex.is
