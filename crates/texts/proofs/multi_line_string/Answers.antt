-- `texts::multi_line_string` meets its contract: it is what stands between three quotes and three more, LF too (multi_line_quoted).
-- Assumes nothing.
use Rattle.std.proofs.Common.{◌∙◌}
use Rattle.texts.specs.Quoted.{multi_line_quoted}
use Rattle.texts.proofs.multi_line_string.Goals as goal

pub returns : goal.returns
returns c = c.quoted.ensures ∙ rw multi_line_quoted
