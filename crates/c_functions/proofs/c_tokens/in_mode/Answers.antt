-- `c_functions::in_mode` meets its contract: the test of the place is the definition's, and fetching all tokens is refused only for want
-- of slots. Assumes nothing.
use Rattle.std.proofs.Common.{arith, Ok, Err}
use Rattle.c_functions.specs.TokensAtLaws.{from_past, from_fetched}
use Rattle.c_functions.proofs.c_tokens.in_mode.Goals as goal

pub returns-then-src-place : goal.returns-then-src-place
returns-then-src-place c =
    let a = c.args in
    rw c.from.ensures (from_past a.src.now a.place a.mode a.out.now a.count.now (omega arith))

pub returns-in-Ok : goal.returns-in-Ok
returns-in-Ok c =
    let a = c.args in
    from_fetched a.src.now a.place a.mode a.out.now a.count.now (omega arith) (omega arith) (Ok c.in-Ok.stored) c.in-Ok.is
    c.slots-slots.ensures c.fetch.ensures

pub returns-in-Err : goal.returns-in-Err
returns-in-Err c =
    let a = c.args in
    rw c.from-in-Err.ensures
    (from_fetched a.src.now a.place a.mode a.out.now a.count.now (omega arith) (omega arith) (Err c.in-Err.field-0) c.in-Err.is
    c.slots-slots.ensures c.fetch.ensures)
