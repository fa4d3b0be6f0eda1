-- `event_scripts::run` meets its contract. The loop's invariant: the calls that are left, run from here on, leave what all calls leave from
-- the start. Assumes nothing.
use Rattle.std.proofs.Common.{◌≤◌, ◌-◌, ◌≡◌, length}
use Rattle.scripts.specs.Running.{ran}
use Rattle.events.specs.Stream.{state, step}
use Rattle.event_scripts.specs.Script.{form}
use Rattle.event_scripts.proofs.run.Given as goal

abbrev pub invariant-loop-i : goal.invariant-loop-i
invariant-loop-i l =
    (l.i ≤ l.calls) × (length l.room ≡ length l.initial.room) × (length l.opens ≡ length l.initial.opens) × (length l.answers ≡ length l.initial.answers)
    × (ran form step l.script l.i (l.calls - l.i) (state l.stream l.room l.opens) l.answers ≡ ran form step l.script 0 l.calls (state l.initial.stream l.initial.room l.initial.opens) l.initial.answers)
