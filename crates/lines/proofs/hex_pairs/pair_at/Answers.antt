-- `lines::pair_at` meets its contract: where two bytes are left, they are the front of the rest.
-- Assumes nothing.
use Rattle.std.proofs.Common.{arith, ap, length, length-drop}
use Rattle.lines.specs.HexLaws.{pair_none}
use Rattle.lines.proofs.Runs.{pair_front}
use Rattle.lines.proofs.hex_pairs.pair_at.Goals as goal

pub returns-in_default : goal.returns-in_default
returns-in_default c = pair_none c.args.text.now c.args.at (omega (arith, c.in_default.len_below, ap length c.behind.ensures, length-drop c.args.at c.args.text.now))

pub returns-in_err-hex_value : goal.returns-in_err-hex_value
returns-in_err-hex_value c =
    rw (← c.behind.ensures, pair_front _ c.in-len2-up.len_at_least, ← c.hex_value.ensures, c.in_err-hex_value.was) c.from_residual.ensures

pub returns-in_err-hex_value-2 : goal.returns-in_err-hex_value-2
returns-in_err-hex_value-2 c =
    rw (← c.behind.ensures, pair_front _ c.in-len2-up.len_at_least, ← c.hex_value.ensures, ← c.hex_value-2.ensures, c.in_ok-hex_value.was, c.in_err-hex_value-2.was) c.from_residual-in_err-hex_value-2.ensures

pub returns : goal.returns
returns c =
    rw (← c.behind.ensures, pair_front _ c.in-len2-up.len_at_least, ← c.hex_value.ensures, ← c.hex_value-2.ensures, c.in_ok-hex_value.was, c.in_ok-hex_value-2.was)
