-- Forged numbers are refused; else the stream's own call is made on the record that they are, and what it changes is stored.
-- Assumes nothing.
use Rattle.std.proofs.Common.{refl}
use Rattle.std.proofs.lemmas.Result.{err_from_is_err_and}
use Rattle.event_record.specs.Record.{end}
use Rattle.events.specs.Stream.{done_told}
use Rattle.live_events.specs.Live.{lent}
use Rattle.live_events.proofs.LiveCases.{not_made, made_by}
use Rattle.live_events.proofs.end.Goals as goal

pub returns-in_err-record_of : goal.returns-in_err-record_of
returns-in_err-record_of c =
    let a = c.args in
    let p = err_from_is_err_and c.from_residual.result c.from_residual.ensures.1 in
    let r = c.in_err-record_of.ensures.refused in
    rw (p.1, p.2, r.1) (not_made end (lent a.stream.now a.room.now a.opens.now) r.0)

pub returns-in_err-given : goal.returns-in_err-given
returns-in_err-given c =
    let a = c.args in
    let p = err_from_is_err_and c.from_residual-in_err-given.result c.from_residual-in_err-given.ensures.1 in
    rw (p.1, p.2) (made_by end (lent a.stream.now a.room.now a.opens.now) c.in_ok-record_of.ensures.record done_told c.end-given.ensures c.in_err-given.was refl)

pub returns : goal.returns
returns c =
    let a = c.args in
    made_by end (lent a.stream.now a.room.now a.opens.now) c.in_ok-record_of.ensures.record done_told c.end-given.ensures c.in_ok-given.was c.store_opened.ensures
