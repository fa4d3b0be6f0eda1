-- What reaching gives, and the window read on to it, is what the call goes on from; then `look`.
-- Assumes nothing.
use Rattle.std.proofs.Common.{suc, refl, ◌∙◌}
use Rattle.token_record.specs.Record.{peek_token}
use Rattle.window.specs.Window.{state}
use Rattle.window.specs.ProceedingLaws.{read_went_on, refused_still, read_low, peeked}
use Rattle.window.proofs.Window.peek_token.Goals as goal

pub look-requires : goal.look-requires
look-requires c =
    let a = c.args in
    read_low a.src.now (state a.self a.room.now) (suc a.n) c.reach.result c.reach.new.room c.reach.ensures c.in-Ok.reached c.in-Ok.is c.read_on-after.ensures

pub returns-in-Ok : goal.returns-in-Ok
returns-in-Ok c =
    let a = c.args in
    let v = state c.read_on-after.result c.reach.new.room in
    rw c.done.ensures
    (peeked v a.n _ c.look.ensures
    ∙ read_went_on a.src.now (state a.self a.room.now) (suc a.n) c.reach.result c.reach.new.room c.reach.ensures
    (peek_token a.n) a.n refl refl c.in-Ok.reached c.in-Ok.is c.read_on-after.ensures)

pub returns-in-Err : goal.returns-in-Err
returns-in-Err c =
    let a = c.args in
    rw c.«refused».ensures
    (refused_still a.src.now (state a.self a.room.now) (suc a.n) c.reach.result c.reach.new.room c.reach.ensures
    (peek_token a.n) a.n refl refl c.in-Err.refusal c.in-Err.is)
