-- `hex_byte` meets its contract: after `~`, and where no `~` stands, the hex byte is there where two nibbles are.
-- Assumes nothing.
use Rattle.std.proofs.Common.{arith}
use Rattle.places.specs.Signs.{inside}
use Rattle.operators.specs.HexByte.{nibbles_inside, tilde_yes, tilde_no, plain_yes, plain_no}
use Rattle.operators.proofs.signs.hex_byte.Goals as goal

pub overflow_add-at : goal.overflow_add-at
overflow_add-at c = omega (arith, inside c.byte_at.ensures (λ e. omega arith))

pub overflow_add-result : goal.overflow_add-result
overflow_add-result c = omega (arith, inside c.byte_at.ensures (λ e. omega arith))

pub returns-then-nibbles_at : goal.returns-then-nibbles_at
returns-then-nibbles_at c = tilde_yes c.byte_at.ensures c.if-byte_at-eq126.true c.nibbles_at.ensures c.if-nibbles_at.true

pub returns-then-byte_at-eq126 : goal.returns-then-byte_at-eq126
returns-then-byte_at-eq126 c = tilde_no c.byte_at.ensures c.if-byte_at-eq126.true c.nibbles_at.ensures c.if-nibbles_at.false

pub overflow_add-result-then-nibbles_at-2 : goal.overflow_add-result-then-nibbles_at-2
overflow_add-result-then-nibbles_at-2 c = omega (arith, nibbles_inside c.nibbles_at-2.ensures c.if-nibbles_at-2.true)

pub returns-then-nibbles_at-2 : goal.returns-then-nibbles_at-2
returns-then-nibbles_at-2 c = plain_yes c.byte_at.ensures c.if-byte_at-eq126.false c.nibbles_at-2.ensures c.if-nibbles_at-2.true

pub returns : goal.returns
returns c = plain_no c.byte_at.ensures c.if-byte_at-eq126.false c.nibbles_at-2.ensures c.if-nibbles_at-2.false
