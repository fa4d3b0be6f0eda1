-- `event_scripts::replay` meets its contract: where the answers have no room nothing is written; else all calls run on the stream that
-- was opened. Assumes nothing.
use Rattle.event_scripts.specs.ReplayLaws.{replayed_not, replayed_done}
use Rattle.event_scripts.proofs.replay.Goals as goal

pub returns-then-answers-calls : goal.returns-then-answers-calls
returns-then-answers-calls c =
    let a = c.args in
    replayed_not a.script.now a.room.now a.opens.now a.answers.now c.if-answers-calls.true

pub returns : goal.returns
returns c =
    let a = c.args in
    replayed_done a.script.now a.room.now a.opens.now a.answers.now c.if-answers-calls.false c.open-stream.ensures c.run.ensures
