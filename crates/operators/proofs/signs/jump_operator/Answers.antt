-- `jump_operator` meets its contract: the byte at the place is `-` or it is not, and so it tells.
-- Assumes nothing.
use Rattle.std.proofs.Common.{refl, [], ◌∷◌, rules}
use Rattle.tokens.specs.Tokens.{jump_operators}
use Rattle.places.specs.Signs.{one_matched, none_matched}
use Rattle.operators.proofs.signs.jump_operator.Goals as goal

pub returns-in-45 : goal.returns-in-45
returns-in-45 c = one_matched jump_operators refl c.byte_at.ensures c.in-45.is refl

pub returns-in_default : goal.returns-in_default
returns-in_default c = none_matched jump_operators refl c.byte_at.ensures (45 ∷ []) refl (search rules)
