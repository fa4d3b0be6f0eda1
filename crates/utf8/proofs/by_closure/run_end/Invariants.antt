-- Whatever the class: the run at `at` ends where the run at `end` does, which may be empty. The measure is what is left of the source.
-- Assumes nothing.
use Rattle.std.proofs.Common.{◌-◌, ◌≡◌, length}
use Rattle.patterns.specs.Utf8.{Class}
use Rattle.utf8.specs.Runs.{Decided, run_end}
use Rattle.utf8.proofs.by_closure.run_end.Given as goal

abbrev pub invariant-loop-b : goal.invariant-loop-b
invariant-loop-b g l = (f : Class) → Decided f (goal.F-post g l.fits) → run_end f l.src l.end ≡ run_end f l.src l.at

abbrev pub decreases-loop-b : goal.decreases-loop-b
decreases-loop-b g l = length l.src - l.end
