-- The run at `at` ends where the run at `end` does, which may be empty. The measure is what is left of the source.
-- Assumes nothing.
use Rattle.std.proofs.Common.{◌-◌, ◌≡◌, length}
use Rattle.utf8.specs.Runs.{run_end}
use Rattle.utf8.proofs.run_end_of.Given as goal

abbrev pub invariant-loop-b : goal.invariant-loop-b
invariant-loop-b g l = run_end g.C.Chars.class l.src l.end ≡ run_end g.C.Chars.class l.src l.at

abbrev pub decreases-loop-b : goal.decreases-loop-b
decreases-loop-b g l = length l.src - l.end
