-- `lines::next_byte` meets its contract: the place of the byte behind `from` is where the run of other bytes ends.
-- Assumes nothing.
use Rattle.std.proofs.Common.{drop}
use Rattle.lines.proofs.Runs.{span_is_place, place_or_end}
use Rattle.lines.proofs.next_byte.Goals as goal

pub returns : goal.returns
returns c =
    rw (c.unwrap_or.ensures, place_or_end _ _ c.place_of.ensures, c.behind-rest.ensures, span_is_place c.args.byte (drop c.args.from c.args.text.now))
