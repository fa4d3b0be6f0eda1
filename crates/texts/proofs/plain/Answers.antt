-- `texts::plain` meets its contract: of the closing byte and of a backslash the class says no, and of any other byte it says what is left
-- of its tests. Assumes nothing.
use Rattle.std.proofs.Common.{ne_eqb}
use Rattle.std.proofs.Math.Bool.{or-false}
use Rattle.texts.specs.Quoted.{plain, plain_close, plain_bare}
use Rattle.texts.proofs.plain.Goals as goal
use Rattle.texts.proofs.plain.Goals.{then-b-close-via-then-b-close, then-b-close-via-else-b-close+then-b-eq92}

pub returns-then-b-close : goal.returns-then-b-close
returns-then-b-close c =
    elim c.then-b-close.branch [
      | then-b-close-via-then-b-close w ↦ simp (w.if-b-close.true, plain_close)
      | then-b-close-via-else-b-close+then-b-eq92 w ↦ simp (w.if-b-eq92.true, plain_bare)
    ]

pub returns-then-lines : goal.returns-then-lines
unfolding plain
returns-then-lines c = simp (c.if-lines.true, ne_eqb _ _ c.if-b-close.false, ne_eqb _ _ c.if-b-eq92.false)

pub returns-else-lines : goal.returns-else-lines
unfolding plain
returns-else-lines c = simp (c.if-lines.false, ne_eqb _ _ c.if-b-close.false, ne_eqb _ _ c.if-b-eq92.false, or-false)
