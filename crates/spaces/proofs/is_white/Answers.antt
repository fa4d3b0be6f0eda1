-- The tests are those of `white`, in the same order.
-- Assumes nothing.
use Rattle.std.proofs.Common.{refl}
use Rattle.tokens.specs.Unicode.{white}
use Rattle.spaces.proofs.is_white.Goals as goal

pub returns : goal.returns
unfolding white
returns c = refl
