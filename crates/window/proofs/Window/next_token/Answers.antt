-- What reaching gives, and the window read on to it, is what the call goes on from; then `look` and `past`.
-- Assumes nothing.
use Rattle.std.proofs.Common.{refl, ◌∙◌}
use Rattle.token_record.specs.Record.{next_token}
use Rattle.window.specs.Window.{state}
use Rattle.window.specs.ProceedingLaws.{read_went_on, refused_still, read_low, took}
use Rattle.window.proofs.Window.next_token.Goals as goal

pub look-requires : goal.look-requires
look-requires c =
    let a = c.args in
    read_low a.src.now (state a.self a.room.now) 1 c.reach.result c.reach.new.room c.reach.ensures c.in-Ok.reached c.in-Ok.is c.read_on-after.ensures

pub returns-in-Ok : goal.returns-in-Ok
returns-in-Ok c =
    let a = c.args in
    let v = state c.read_on-after.result c.reach.new.room in
    rw c.done.ensures
    (took v _ _ c.look.ensures c.past.ensures
    ∙ read_went_on a.src.now (state a.self a.room.now) 1 c.reach.result c.reach.new.room c.reach.ensures
    next_token 0 refl refl c.in-Ok.reached c.in-Ok.is c.read_on-after.ensures)

pub returns-in-Err : goal.returns-in-Err
returns-in-Err c =
    let a = c.args in
    rw c.«refused».ensures
    (refused_still a.src.now (state a.self a.room.now) 1 c.reach.result c.reach.new.room c.reach.ensures
    next_token 0 refl refl c.in-Err.refusal c.in-Err.is)
