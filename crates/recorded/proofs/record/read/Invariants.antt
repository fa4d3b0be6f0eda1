-- The loop of `recorded::record::read`: each turn reads one number at most. Assumes nothing.
use Rattle.std.proofs.Common.{◌≤◌, length}
use Rattle.recorded.proofs.record.read.Given as goal

abbrev pub invariant-loop : goal.invariant-loop
invariant-loop l = length l.all.items ≤ l.counter
