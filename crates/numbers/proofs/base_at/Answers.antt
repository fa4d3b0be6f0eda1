-- `numbers::base_at` meets its contract: it takes the tests of the definition one after the other.
-- Assumes nothing.
use Rattle.std.proofs.Common.{refl, ◌∙◌, arith}
use Rattle.numbers.specs.Laws.{base_is}
use Rattle.places.specs.Places.{has_read}
use Rattle.numbers.specs.Onward.{inside}
use Rattle.numbers.proofs.base_at.Goals as goal

pub overflow_add-letter : goal.overflow_add-letter
overflow_add-letter c =
    omega
    (arith, inside c.args.src.now c.args.at 48 (has_read c.has_byte.ensures (omega arith) ∙ c.if-has_byte.true) (omega arith))

pub returns-then-has_byte-2 : goal.returns-then-has_byte-2
returns-then-has_byte-2 c =
    base_is _ _ (has_read c.has_byte.ensures (omega arith) ∙ c.if-has_byte.true) (has_read c.has_byte-then-has_byte.ensures (omega arith) ∙ c.if-has_byte-2.true)
    refl

pub returns-then-has_byte-3 : goal.returns-then-has_byte-3
returns-then-has_byte-3 c =
    base_is _ _ (has_read c.has_byte.ensures (omega arith) ∙ c.if-has_byte.true)
    (has_read c.has_byte-then-has_byte.ensures (omega arith) ∙ c.if-has_byte-2.false)
    (has_read c.has_byte-then-has_byte-2.ensures (omega arith) ∙ c.if-has_byte-3.true)

pub returns-else-has_byte-3 : goal.returns-else-has_byte-3
returns-else-has_byte-3 c =
    base_is _ _ (has_read c.has_byte.ensures (omega arith) ∙ c.if-has_byte.true)
    (has_read c.has_byte-then-has_byte.ensures (omega arith) ∙ c.if-has_byte-2.false)
    (has_read c.has_byte-then-has_byte-2.ensures (omega arith) ∙ c.if-has_byte-3.false)

pub returns-else-has_byte : goal.returns-else-has_byte
returns-else-has_byte c = base_is _ _ (has_read c.has_byte.ensures (omega arith) ∙ c.if-has_byte.false) refl refl
