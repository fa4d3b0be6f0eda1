-- The tests are those of `blank`, in the same order.
-- Assumes nothing.
use Rattle.std.proofs.Common.{refl}
use Rattle.spaces.proofs.is_blank.Goals as goal

pub returns : goal.returns
returns c = refl
