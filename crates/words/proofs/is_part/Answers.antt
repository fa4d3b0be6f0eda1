-- In ASCII the test is computed (ascii_part).
-- Assumes nothing.
use Rattle.std.specs.Prelude.{Bool, ◌||◌, eqb}
use Rattle.std.proofs.Common.{ap, ◌∙◌}
use Rattle.words.specs.Tail.{ascii_part}
use Rattle.words.proofs.is_part.Goals as goal

pub returns-then-v-lt128 : goal.returns-then-v-lt128
returns-then-v-lt128 c = ap (λ (t : Bool). t || eqb c.args.v 95) c.is_ascii_alphanumeric.ensures.value ∙ ascii_part c.args.v c.if-v-lt128.true
