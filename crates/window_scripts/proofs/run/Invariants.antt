-- `window_scripts::run` meets its contract. The loop's invariant: the calls that are left, run from here on, leave what all calls leave
-- from the start. Assumes nothing.
use Rattle.std.proofs.Common.{◌≤◌, ◌-◌, ◌≡◌, length}
use Rattle.scripts.specs.Running.{ran}
use Rattle.window.specs.Window.{state, step}
use Rattle.window_scripts.specs.Asking.{form}
use Rattle.window_scripts.proofs.run.Given as goal

abbrev pub invariant-loop-i : goal.invariant-loop-i
invariant-loop-i l =
    (l.i ≤ l.calls) × (length l.room ≡ length l.initial.room) × (length l.answers ≡ length l.initial.answers)
    × (ran form (step l.src) l.script l.i (l.calls - l.i) (state l.window l.room) l.answers ≡ ran form (step l.src) l.script 0 l.calls (state l.initial.window l.initial.room) l.initial.answers)
