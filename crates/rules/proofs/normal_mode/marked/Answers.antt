-- The hit is that of one rule, which ends where the tail does.
-- Assumes nothing.
use Rattle.std.proofs.Common.{◌-◌, sym, arith}
use Rattle.tokens.specs.Scan.{hit}
use Rattle.rules.proofs.Better.{better_first}
use Rattle.rules.proofs.Marks.{marked_hit}
use Rattle.rules.proofs.normal_mode.marked.Goals as goal

pub returns : goal.returns
returns c =
    let a = c.args in
    marked_hit (sym (better_first (hit a.kind (c.word_tail.result - a.at)) (hit 0 0) (omega arith) (omega arith))) c.word_tail.ensures
