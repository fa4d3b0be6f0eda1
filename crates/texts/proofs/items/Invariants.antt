-- `texts::items` meets its contract. The loop's invariant: from `at` to `i` stand items, and a row of items is left (items_go). Where
-- neither a plain byte nor a pair stands the row ends (items_end). The measure is what is left of the source. Assumes nothing.
use Rattle.std.proofs.Common.{◌-◌, length}
use Rattle.patterns.specs.Walk.{Came}
use Rattle.texts.specs.Items.{items}
use Rattle.texts.specs.Quoted.{plain}
use Rattle.texts.proofs.items.Given as goal

abbrev pub invariant-loop-b : goal.invariant-loop-b
invariant-loop-b l = Came (items (plain l.close l.lines)) l.src l.at (items (plain l.close l.lines)) l.i l.i

abbrev pub decreases-loop-b : goal.decreases-loop-b
decreases-loop-b l = length l.src - l.i
