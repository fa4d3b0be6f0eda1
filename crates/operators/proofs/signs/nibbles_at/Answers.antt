-- `nibbles_at` meets its contract: the first byte tells, and where it is a nibble, the second.
-- Assumes nothing.
use Rattle.std.proofs.Common.{arith}
use Rattle.operators.specs.HexByte.{first_inside, by_first, by_second}
use Rattle.operators.proofs.signs.nibbles_at.Goals as goal

pub overflow_add-at : goal.overflow_add-at
overflow_add-at c = omega (arith, first_inside c.byte_at.ensures c.is_hex_or_mark.ensures c.if-is_hex_or_mark.true)

pub returns-then-is_hex_or_mark : goal.returns-then-is_hex_or_mark
returns-then-is_hex_or_mark c =
    by_second c.byte_at.ensures c.is_hex_or_mark.ensures c.if-is_hex_or_mark.true c.byte_at-then-is_hex_or_mark.ensures
    c.is_hex_or_mark-then-is_hex_or_mark.ensures

pub returns-else-is_hex_or_mark : goal.returns-else-is_hex_or_mark
returns-else-is_hex_or_mark c = rw c.if-is_hex_or_mark.false (by_first c.byte_at.ensures c.is_hex_or_mark.ensures c.if-is_hex_or_mark.false)
