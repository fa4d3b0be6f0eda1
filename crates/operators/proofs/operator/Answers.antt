-- `operator` meets its contract: each arm knows the byte at the place, and the next one where that matters, and so what they tell.
-- Assumes nothing.
use Rattle.std.proofs.Common.{refl, [], ◌∷◌, arith, rules, ne_eqb}
use Rattle.tokens.specs.Tokens.{operators}
use Rattle.places.specs.Signs.{one_matched, next_matched, two_matched, none_matched}
use Rattle.operators.proofs.operator.Goals as goal

-- `<` `>` `=` `!`, each with what may follow
pub returns-in-60-byte_at : goal.returns-in-60-byte_at
returns-in-60-byte_at c = two_matched operators refl c.byte_at.ensures c.in-60.is c.byte_at-in-60.ensures c.in-60-byte_at.is refl

pub returns-in-61-byte_at : goal.returns-in-61-byte_at
returns-in-61-byte_at c = two_matched operators refl c.byte_at.ensures c.in-60.is c.byte_at-in-60.ensures c.in-61-byte_at.is refl

pub returns-in_default-byte_at : goal.returns-in_default-byte_at
returns-in_default-byte_at c =
    next_matched operators refl c.byte_at.ensures c.in-60.is c.byte_at-in-60.ensures (rw (ne_eqb c.byte_at-in-60.result 60 (omega arith), ne_eqb c.byte_at-in-60.result 61 (omega arith)))

pub returns-in-62-byte_at : goal.returns-in-62-byte_at
returns-in-62-byte_at c = two_matched operators refl c.byte_at.ensures c.in-62.is c.byte_at-in-62.ensures c.in-62-byte_at.is refl

pub returns-in-61-byte_at-2 : goal.returns-in-61-byte_at-2
returns-in-61-byte_at-2 c = two_matched operators refl c.byte_at.ensures c.in-62.is c.byte_at-in-62.ensures c.in-61-byte_at-2.is refl

pub returns-in_default-byte_at-2 : goal.returns-in_default-byte_at-2
returns-in_default-byte_at-2 c =
    next_matched operators refl c.byte_at.ensures c.in-62.is c.byte_at-in-62.ensures (rw (ne_eqb c.byte_at-in-62.result 62 (omega arith), ne_eqb c.byte_at-in-62.result 61 (omega arith)))

pub returns-in-61-byte_at-3 : goal.returns-in-61-byte_at-3
returns-in-61-byte_at-3 c = two_matched operators refl c.byte_at.ensures c.in-61.is c.byte_at-in-61.ensures c.in-61-byte_at-3.is refl

pub returns-in_default-byte_at-3 : goal.returns-in_default-byte_at-3
returns-in_default-byte_at-3 c =
    next_matched operators refl c.byte_at.ensures c.in-61.is c.byte_at-in-61.ensures (rw (ne_eqb c.byte_at-in-61.result 61 (omega arith)))

pub returns-in-61-byte_at-4 : goal.returns-in-61-byte_at-4
returns-in-61-byte_at-4 c = two_matched operators refl c.byte_at.ensures c.in-33.is c.byte_at-in-33.ensures c.in-61-byte_at-4.is refl

pub returns-in_default-byte_at-4 : goal.returns-in_default-byte_at-4
returns-in_default-byte_at-4 c =
    next_matched operators refl c.byte_at.ensures c.in-33.is c.byte_at-in-33.ensures (rw (ne_eqb c.byte_at-in-33.result 61 (omega arith)))

-- the others, and no operator
pub returns-in-38 : goal.returns-in-38
returns-in-38 c = one_matched operators refl c.byte_at.ensures c.in-38.is refl

pub returns-in-42 : goal.returns-in-42
returns-in-42 c = one_matched operators refl c.byte_at.ensures c.in-42.is refl

pub returns-in-92 : goal.returns-in-92
returns-in-92 c = one_matched operators refl c.byte_at.ensures c.in-92.is refl

pub returns-in-58 : goal.returns-in-58
returns-in-58 c = one_matched operators refl c.byte_at.ensures c.in-58.is refl

pub returns-in-44 : goal.returns-in-44
returns-in-44 c = one_matched operators refl c.byte_at.ensures c.in-44.is refl

pub returns-in-46 : goal.returns-in-46
returns-in-46 c = one_matched operators refl c.byte_at.ensures c.in-46.is refl

pub returns-in-43 : goal.returns-in-43
returns-in-43 c = one_matched operators refl c.byte_at.ensures c.in-43.is refl

pub returns-in-45 : goal.returns-in-45
returns-in-45 c = one_matched operators refl c.byte_at.ensures c.in-45.is refl

pub returns-in-37 : goal.returns-in-37
returns-in-37 c = one_matched operators refl c.byte_at.ensures c.in-37.is refl

pub returns-in-124 : goal.returns-in-124
returns-in-124 c = one_matched operators refl c.byte_at.ensures c.in-124.is refl

pub returns-in-94 : goal.returns-in-94
returns-in-94 c = one_matched operators refl c.byte_at.ensures c.in-94.is refl

pub returns-in-126 : goal.returns-in-126
returns-in-126 c = one_matched operators refl c.byte_at.ensures c.in-126.is refl

pub returns-in-123 : goal.returns-in-123
returns-in-123 c = one_matched operators refl c.byte_at.ensures c.in-123.is refl

pub returns-in-125 : goal.returns-in-125
returns-in-125 c = one_matched operators refl c.byte_at.ensures c.in-125.is refl

pub returns-in-40 : goal.returns-in-40
returns-in-40 c = one_matched operators refl c.byte_at.ensures c.in-40.is refl

pub returns-in-41 : goal.returns-in-41
returns-in-41 c = one_matched operators refl c.byte_at.ensures c.in-41.is refl

pub returns-in-91 : goal.returns-in-91
returns-in-91 c = one_matched operators refl c.byte_at.ensures c.in-91.is refl

pub returns-in-93 : goal.returns-in-93
returns-in-93 c = one_matched operators refl c.byte_at.ensures c.in-93.is refl

pub returns-in_default : goal.returns-in_default
returns-in_default c =
    none_matched operators refl c.byte_at.ensures
    (93 ∷ 91 ∷ 41 ∷ 40 ∷ 125 ∷ 123 ∷ 126 ∷ 94 ∷ 124 ∷ 37 ∷ 45 ∷ 43 ∷ 46 ∷ 44 ∷ 58 ∷ 92 ∷ 42 ∷ 38 ∷ 33 ∷ 61 ∷ 62 ∷ 60 ∷ []) refl (search rules)
