-- `lines::ask` meets its contract: each number stands behind the space after the place of the one before.
-- Assumes nothing.
use Rattle.std.proofs.Common.{arith}
use Rattle.lines.specs.Decimals.{space}
use Rattle.lines.specs.LineLaws.{next_within, next_behind, asked_by}
use Rattle.lines.proofs.ask.Goals as goal

pub overflow_add-first : goal.overflow_add-first
overflow_add-first c = omega (arith, (next_within _ 0 space c.next_byte-first.ensures (omega arith)))

pub overflow_add-second : goal.overflow_add-second
overflow_add-second c = omega (arith, next_behind _ _ space c.next_byte-second.ensures ((next_within _ 0 space c.next_byte-first.ensures (omega arith))))

pub returns : goal.returns
returns c =
    asked_by _ c.next_byte-first.ensures c.next_byte-second.ensures c.next_byte-third.ensures
    c.byte_at.ensures.is c.value_behind.ensures c.value_behind-2.ensures c.value_behind-3.ensures
