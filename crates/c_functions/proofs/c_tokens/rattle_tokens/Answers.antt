-- `c_functions::rattle_tokens` meets its contract: a source over the limit is refused first; then a number that names no mode.
-- Assumes nothing.
use Rattle.std.proofs.Common.{arith, ◌∙◌}
use Rattle.tokens.specs.Modes.{mode_of}
use Rattle.c_functions.specs.TokensAtLaws.{at_too_long, at_named, at_unnamed, names, names_none}
use Rattle.c_functions.proofs.c_tokens.rattle_tokens.Goals as goal

pub returns-then-src-gt-SOURCE_LIMIT : goal.returns-then-src-gt-SOURCE_LIMIT
returns-then-src-gt-SOURCE_LIMIT c =
    let a = c.args in
    rw c.from.ensures (at_too_long a.src.now a.place a.mode a.out.now a.count.now (omega arith))

pub returns-in-Ok : goal.returns-in-Ok
returns-in-Ok c =
    let a = c.args in
    c.in_mode.ensures ∙ at_named a.src.now a.place a.out.now a.count.now (omega arith) a.mode (names (mode_of a.mode) (record { 0 = a.mode }) c.try_from.ensures c.in-Ok.is)

pub returns-in-Err : goal.returns-in-Err
returns-in-Err c =
    let a = c.args in
    rw c.from-in-Err.ensures (at_unnamed a.src.now a.place a.out.now a.count.now (omega arith) a.mode (names_none (mode_of a.mode) (record { 0 = a.mode }) c.try_from.ensures c.in-Err.is))
