-- What reaching gives, and the window read on to it, is what the call goes on from.
-- Assumes nothing.
use Rattle.std.proofs.Common.{refl}
use Rattle.token_record.specs.Record.{has_more}
use Rattle.window.specs.Window.{state, answered}
use Rattle.window.specs.ProceedingLaws.{read_went_on, refused_still}
use Rattle.window.proofs.Window.has_more.Goals as goal

pub returns-in-Ok : goal.returns-in-Ok
unfolding answered
returns-in-Ok c =
    let a = c.args in
    rw c.done.ensures
    (read_went_on a.src.now (state a.self a.room.now) 1 c.reach.result c.reach.new.room c.reach.ensures
    has_more 0 refl refl c.in-Ok.reached c.in-Ok.is c.read_on-after.ensures)

pub returns-in-Err : goal.returns-in-Err
returns-in-Err c =
    let a = c.args in
    rw c.«refused».ensures
    (refused_still a.src.now (state a.self a.room.now) 1 c.reach.result c.reach.new.room c.reach.ensures
    has_more 0 refl refl c.in-Err.refusal c.in-Err.is)
