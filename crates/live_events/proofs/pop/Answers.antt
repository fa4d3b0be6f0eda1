-- Forged numbers are refused; else the stream's own call is made on the record that they are, and what it changes is stored.
-- Assumes nothing.
use Rattle.std.proofs.Common.{refl, rules}
use Rattle.std.proofs.lemmas.Result.{err_from_is_err_and}
use Rattle.event_record.specs.Record.{pop}
use Rattle.events.specs.Stream.{event_told}
use Rattle.live_events.specs.Live.{lent}
use Rattle.live_events.proofs.LiveCases.{not_made, made_by, some_left, none_left}
use Rattle.live_events.proofs.pop.Goals as goal

pub returns-in_err-record_of : goal.returns-in_err-record_of
returns-in_err-record_of c =
    let a = c.args in
    let p = err_from_is_err_and c.from_residual.result c.from_residual.ensures.1 in
    let r = c.in_err-record_of.ensures.refused in
    rw (p.1, p.2, r.1) (not_made pop (lent a.stream.now a.room.now a.opens.now) r.0)

pub returns-in_err-first : goal.returns-in_err-first
returns-in_err-first c =
    let a = c.args in
    let p = err_from_is_err_and c.from_residual-in_err-first.result c.from_residual-in_err-first.ensures.1 in
    rw (p.1, p.2) (made_by pop (lent a.stream.now a.room.now a.opens.now) c.in_ok-record_of.ensures.record event_told c.pop-given.ensures c.in_err-first.was refl)

pub returns-then-is_some : goal.returns-then-is_some
returns-then-is_some c =
    let a = c.args in
    made_by pop (lent a.stream.now a.room.now a.opens.now) c.in_ok-record_of.ensures.record event_told c.pop-given.ensures c.in_ok-first.was
    (some_left c.in_ok-first.first _ (search rules) c.store_popped.ensures)

pub returns-else-is_some : goal.returns-else-is_some
returns-else-is_some c =
    let a = c.args in
    made_by pop (lent a.stream.now a.room.now a.opens.now) c.in_ok-record_of.ensures.record event_told c.pop-given.ensures c.in_ok-first.was
    (none_left c.in_ok-first.first _ _ (search rules))
