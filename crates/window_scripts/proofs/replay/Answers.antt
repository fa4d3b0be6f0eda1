-- Where opening is refused, or the answers have no room, nothing is written; else all calls run on the window that was opened.
-- Assumes nothing.
use Rattle.std.proofs.Common.{◌≡◌, rules}
use Rattle.window_scripts.specs.ReplayLaws.{replayed_refused, replayed_not, replayed_done}
use Rattle.window_scripts.proofs.replay.Goals as goal

pub returns-in_err-opened : goal.returns-in_err-opened
returns-in_err-opened c =
    let a = c.args in
    let o = c.open-opened in
    let e : c.from_residual.result ≡ o.result.answer = search rules in
    rw e (replayed_refused a.src.now a.script.now a.room.now a.answers.now o.result o.ensures _ c.in_err-opened.was)

pub returns-then-answers-calls : goal.returns-then-answers-calls
returns-then-answers-calls c =
    let a = c.args in
    let o = c.open-opened in
    replayed_not a.src.now a.script.now a.room.now a.answers.now o.result o.ensures c.in_ok-opened.was c.if-answers-calls.true

pub returns : goal.returns
returns c =
    let a = c.args in
    let o = c.open-opened in
    rw c.in_ok-opened.was at
    (replayed_done a.src.now a.script.now a.room.now a.answers.now o.result o.ensures c.in_ok-opened.was c.if-answers-calls.false c.run.ensures)
