use Rattle.std.proofs.Common.{refl}
use Rattle.utf8.specs.Rest.{one_longer}
use Rattle.utf8.proofs.longer.Goals as goal

pub returns : goal.returns
returns c = one_longer refl
