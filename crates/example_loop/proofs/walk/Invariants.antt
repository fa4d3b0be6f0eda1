-- `example_loop::walk`: what is said of its loop. To copy for a loop of your own over `next_token`.
--   invariant  what is true whenever the loop begins a turn: there were no more tokens than the window's index says, and no more than the
--              source has bytes, which is what the contract of `walk` promises.
--   decreases  a number that falls with every turn, so that the loop ends: the source's bytes less the window's index.
-- Why it falls stands in Answers.antt. `rt check` prints what is left to be shown. Assumes nothing.
use Rattle.std.proofs.Common.{◌-◌, ◌≤◌, length}
use Rattle.example_loop.proofs.walk.Given as goal

abbrev pub invariant-loop-token : goal.invariant-loop-token
invariant-loop-token g l = (l.count ≤ l.window.current.0) × (l.count ≤ length l.src)

abbrev pub decreases-loop-token : goal.decreases-loop-token
decreases-loop-token g l = length l.src - l.window.current.0
