-- The tests are the grounds', in their order; what is written is the list with one event more.
-- Assumes nothing.
use Rattle.std.proofs.Common.{arith}
use Rattle.std.proofs.lemmas.Result.{err_from_is_err_and}
use Rattle.events.specs.PushingLaws.{push_refused, push_fit, no_such_span, no_slot, one_more}
use Rattle.events.proofs.Stream.push.Goals as goal

pub returns-in_err-check : goal.returns-in_err-check
returns-in_err-check c =
    let p = err_from_is_err_and c.from_residual.result c.from_residual.ensures.1 in
    rw (p.1, p.2) (push_refused _ _ _ c.in_err-check.ensures.refused)

pub returns-then-span : goal.returns-then-span
returns-then-span c =
    let a = c.args in
    let k = c.in_ok-check.ensures.fit in
    push_fit _ a.event a.last k (no_such_span _ k a.event a.last c.if-span.true)

pub returns-then-spare-lt1 : goal.returns-then-spare-lt1
returns-then-spare-lt1 c =
    let a = c.args in
    let k = c.in_ok-check.ensures.fit in
    push_fit _ a.event a.last k (no_slot _ k a.event a.last c.if-span.false (omega (arith, c.spare.ensures)))

pub returns : goal.returns
returns c =
    let a = c.args in
    let k = c.in_ok-check.ensures.fit in
    rw (c.counted.ensures, c.put.ensures)
    (push_fit _ a.event a.last k (one_more _ k a.event a.last c.if-span.false (omega (arith, c.spare.ensures))))
