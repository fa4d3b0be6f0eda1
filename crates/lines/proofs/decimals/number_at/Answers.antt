-- `lines::number_at` meets its contract: the digits at the front are those that the definition walks.
-- Assumes nothing.
use Rattle.std.proofs.Common.{drop}
use Rattle.tokens.specs.Tokens.{dec}
use Rattle.lines.proofs.Runs.{prefix_is_span, digits_spell}
use Rattle.lines.proofs.decimals.number_at.Goals as goal

pub returns : goal.returns
returns c =
    let rest = drop c.args.from c.args.text.now in
    rw (c.value_of.ensures, c.digits-len.ensures, c.behind-rest.ensures, prefix_is_span dec rest, digits_spell 0 rest)
