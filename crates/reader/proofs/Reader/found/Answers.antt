-- At the end none is found; else a token, which is what `taken` promises. It ends within the source.
-- Assumes nothing.
use Rattle.std.proofs.Common.{sym, arith}
use Rattle.tokens.specs.Tokens.{tables_1}
use Rattle.tokens.proofs.ScanLaws.{scan_end}
use Rattle.rules.proofs.Choosing.{choice_within, scan_chosen}
use Rattle.reader.proofs.Following.{onward_from}
use Rattle.reader.proofs.Reader.found.Goals as goal

pub returns-then-at-src : goal.returns-then-at-src
returns-then-at-src c = let a = c.args in (scan_end tables_1 a.src.now a.self.place.0 a.self.mode).1 (omega arith)

pub overflow_add-end : goal.overflow_add-end
overflow_add-end c = let a = c.args in omega (arith, choice_within tables_1 a.src.now a.self.place.0 a.self.mode _ (omega arith) c.taken-choice.ensures)

pub overflow_cast-end : goal.overflow_cast-end
overflow_cast-end c = let a = c.args in omega (arith, choice_within tables_1 a.src.now a.self.place.0 a.self.mode _ (omega arith) c.taken-choice.ensures)

pub returns : goal.returns
returns c =
    let a = c.args in
    onward_from a.src.now a.self c.requires (sym (scan_chosen tables_1 a.src.now a.self.place.0 a.self.mode _ (omega arith) c.taken-choice.ensures))
