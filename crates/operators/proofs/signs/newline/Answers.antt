-- `newline` meets its contract: each arm knows the byte at the place, and in the arm of CR the next one too, and so what they tell.
-- Assumes nothing.
use Rattle.std.proofs.Common.{refl, [], ◌∷◌, arith, rules, ne_eqb}
use Rattle.tokens.specs.Tokens.{newlines}
use Rattle.places.specs.Signs.{one_matched, next_matched, two_matched, none_matched}
use Rattle.operators.proofs.signs.newline.Goals as goal

pub returns-in_default : goal.returns-in_default
returns-in_default c = none_matched newlines refl c.byte_at.ensures (13 ∷ 10 ∷ []) refl (search rules)

pub returns-in-10 : goal.returns-in-10
returns-in-10 c = one_matched newlines refl c.byte_at.ensures c.in-10.is refl

pub returns-in-10-byte_at : goal.returns-in-10-byte_at
returns-in-10-byte_at c = two_matched newlines refl c.byte_at.ensures c.in-13.is c.byte_at-in-13.ensures c.in-10-byte_at.is refl

pub returns-in_default-byte_at : goal.returns-in_default-byte_at
returns-in_default-byte_at c =
    next_matched newlines refl c.byte_at.ensures c.in-13.is c.byte_at-in-13.ensures (rw (ne_eqb c.byte_at-in-13.result 10 (omega arith)))
