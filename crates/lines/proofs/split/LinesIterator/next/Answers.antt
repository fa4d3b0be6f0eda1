-- `Lines::next` meets its contract: the first line ends before the first LF, and the others stand behind that.
-- Assumes nothing.
use Rattle.std.proofs.Common.{◌≡◌, ◌∷◌, take, arith, rules, length-take-le, sym}
use Rattle.lines.specs.Lines.{lf}
use Rattle.lines.specs.LineLaws.{next_within}
use Rattle.lines.specs.Split.{lines_of}
use Rattle.lines.proofs.Runs.{lines_from, no_lines}
use Rattle.lines.proofs.split.LinesIterator.next.Goals as goal

pub returns-then-is_empty-clause-steps : goal.returns-then-is_empty-clause-steps
returns-then-is_empty-clause-steps c = let e = no_lines c.args.self.now.0.now (search rules) in (e, e)

pub overflow_add-end : goal.overflow_add-end
overflow_add-end c = omega (arith, next_within c.args.self.now.0.now 0 lf c.next_byte-end.ensures (omega arith))

pub slice_bounds-result-end : goal.slice_bounds-result-end
slice_bounds-result-end c = sym (length-take-le _ _ (next_within c.args.self.now.0.now 0 lf c.next_byte-end.ensures (omega arith)))

pub returns-clause-steps : goal.returns-clause-steps
returns-clause-steps c = rw c.behind-self.ensures (lines_from c.args.self.now.0.now c.next_byte-end.ensures (search rules))

pub returns-clause-goes : goal.returns-clause-goes
returns-clause-goes c =
    let text = c.args.self.now.0.now in
    let steps : lines_of text ≡ take c.next_byte-end.result text ∷ lines_of c.behind-self.result.now = rw c.behind-self.ensures (lines_from text c.next_byte-end.ensures (search rules)) in
    search rules
