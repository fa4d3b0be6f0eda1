-- The loop of `recorded::tokenizer::is_same` ends: at each turn the numbers that are left get fewer. Assumes nothing.
use Rattle.std.proofs.Common.{length}
use Rattle.recorded.proofs.tokenizer.is_same.Given as goal

abbrev pub decreases-loop-left : goal.decreases-loop-left
decreases-loop-left l = length l.left
