-- `pattern_operator` meets its contract: each arm knows the byte at the place, and so what it tells.
-- Assumes nothing.
use Rattle.std.proofs.Common.{refl, [], ◌∷◌, rules}
use Rattle.tokens.specs.Tokens.{pattern_operators}
use Rattle.places.specs.Signs.{one_matched, none_matched}
use Rattle.operators.proofs.signs.pattern_operator.Goals as goal

pub returns-in_default : goal.returns-in_default
returns-in_default c = none_matched pattern_operators refl c.byte_at.ensures (93 ∷ 91 ∷ 41 ∷ 40 ∷ 124 ∷ []) refl (search rules)

pub returns-in-124 : goal.returns-in-124
returns-in-124 c = one_matched pattern_operators refl c.byte_at.ensures c.in-124.is refl

pub returns-in-40 : goal.returns-in-40
returns-in-40 c = one_matched pattern_operators refl c.byte_at.ensures c.in-40.is refl

pub returns-in-41 : goal.returns-in-41
returns-in-41 c = one_matched pattern_operators refl c.byte_at.ensures c.in-41.is refl

pub returns-in-91 : goal.returns-in-91
returns-in-91 c = one_matched pattern_operators refl c.byte_at.ensures c.in-91.is refl

pub returns-in-93 : goal.returns-in-93
returns-in-93 c = one_matched pattern_operators refl c.byte_at.ensures c.in-93.is refl
