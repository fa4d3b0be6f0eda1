-- `texts::string` meets its contract: it is what stands between one quote and the next, LF excepted (string_quoted).
-- Assumes nothing.
use Rattle.std.proofs.Common.{◌∙◌}
use Rattle.texts.specs.Quoted.{string_quoted}
use Rattle.texts.proofs.string.Goals as goal

pub returns : goal.returns
returns c = c.quoted.ensures ∙ rw string_quoted
