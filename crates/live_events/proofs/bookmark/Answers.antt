-- Forged numbers are refused; else the stream's own call is made on the record that they are, and what it changes is stored.
-- Assumes nothing.
use Rattle.std.proofs.Common.{refl}
use Rattle.std.proofs.lemmas.Result.{err_from_is_err_and}
use Rattle.event_record.specs.Record.{bookmark}
use Rattle.events.specs.Stream.{position_told}
use Rattle.live_events.specs.Live.{lent}
use Rattle.live_events.proofs.LiveCases.{not_made, made_by}
use Rattle.live_events.proofs.bookmark.Goals as goal

pub returns-in_err-record_of : goal.returns-in_err-record_of
returns-in_err-record_of c =
    let a = c.args in
    let p = err_from_is_err_and c.from_residual.result c.from_residual.ensures.1 in
    let r = c.in_err-record_of.ensures.refused in
    rw (p.1, p.2, r.1) (not_made bookmark (lent a.stream.now a.room.now a.opens.now) r.0)

pub returns-in_err-at : goal.returns-in_err-at
returns-in_err-at c =
    let a = c.args in
    let p = err_from_is_err_and c.from_residual-in_err-at.result c.from_residual-in_err-at.ensures.1 in
    rw (p.1, p.2) (made_by bookmark (lent a.stream.now a.room.now a.opens.now) c.in_ok-record_of.ensures.record position_told c.bookmark-given.ensures c.in_err-at.was refl)

pub returns : goal.returns
returns c =
    let a = c.args in
    made_by bookmark (lent a.stream.now a.room.now a.opens.now) c.in_ok-record_of.ensures.record position_told c.bookmark-given.ensures c.in_ok-at.was c.store_bookmarks.ensures
