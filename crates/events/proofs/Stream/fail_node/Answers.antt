-- The test is the ground; a Begin that is the last event goes, another is closed with the kind of an error.
-- Assumes nothing.
use Rattle.std.proofs.Common.{refl, arith}
use Rattle.std.proofs.lemmas.Result.{err_from_is_err_and}
use Rattle.event_record.specs.Record.{end_with_error, grounds}
use Rattle.events.specs.SoundLaws.{refused_first, when_fit}
use Rattle.events.specs.ClosingLaws.{nothing_open, node_dropped, node_failed}
use Rattle.events.proofs.Stream.fail_node.Goals as goal

pub returns-in_err-check : goal.returns-in_err-check
returns-in_err-check c =
    let p = err_from_is_err_and c.from_residual.result c.from_residual.ensures.1 in
    rw (p.1, p.2) (refused_first _ _ c.in_err-check.ensures.refused)

pub returns-then-self-eq0 : goal.returns-then-self-eq0
unfolding grounds
returns-then-self-eq0 c = when_fit _ _ c.in_ok-check.ensures.fit (nothing_open _ c.in_ok-check.ensures.fit end_with_error refl (omega arith))

pub overflow_add-inner : goal.overflow_add-inner
overflow_add-inner c =
    omega (arith, c.in_ok-check.ensures.fit.inner_inside (omega (arith, c.if-self-eq0.false)))

pub returns-then-inner-self : goal.returns-then-inner-self
returns-then-inner-self c =
    rw c.counted.ensures
    (when_fit _ _ c.in_ok-check.ensures.fit (node_dropped _ c.in_ok-check.ensures.fit (omega (arith, c.if-self-eq0.false)) c.if-inner-self.true))

pub returns : goal.returns
returns c =
    let e = c.close.ensures in
    rw (e.0, e.1, c.event_at-begin.ensures)
    (when_fit _ _ c.in_ok-check.ensures.fit (node_failed _ c.in_ok-check.ensures.fit (omega (arith, c.if-self-eq0.false)) c.if-inner-self.false))
