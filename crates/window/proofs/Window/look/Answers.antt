-- The token n after the current one is there where n is below the number of tokens fetched and not taken; so nothing overflows.
-- Assumes nothing.
use Rattle.std.proofs.Common.{◌+◌, ◌≤◌, ◌<◌, ap, le-ltb, lt-ltb, arith}
use Rattle.token_record.specs.Record.{token}
use Rattle.window.proofs.Window.look.Goals as goal

pub returns-then-n-ready : goal.returns-then-n-ready
returns-then-n-ready c =
    let w = c.args.self.now in
    let h : w.current.0 + c.args.n < w.fetched.0 = omega arith in
    rw (lt-ltb _ _ h) (ap token c.read.ensures)

pub returns-else-n-ready : goal.returns-else-n-ready
returns-else-n-ready c =
    let w = c.args.self.now in
    let h : w.fetched.0 ≤ w.current.0 + c.args.n = omega arith in
    rw (le-ltb _ _ h)
