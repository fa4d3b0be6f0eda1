-- A blank run is a run of blanks with one at least (plus_run).
-- Assumes nothing.
use Rattle.std.proofs.Common.{◌+◌, ap, ◌∙◌, drop}
use Rattle.utf8.specs.Runs.{plus_run}
use Rattle.tokens.specs.Tokens.{blank}
use Rattle.spaces.proofs.blanks.Goals as goal

pub returns : goal.returns
returns c = c.run_end_of.ensures ∙ ap (c.args.at +◌) (plus_run blank (drop c.args.at c.args.src.now))
