-- The test is the ground; start and kind are those of the Begin.
-- Assumes nothing.
use Rattle.std.proofs.Common.{refl, arith}
use Rattle.std.proofs.lemmas.Result.{err_from_is_err_and}
use Rattle.event_record.specs.Record.{end, grounds}
use Rattle.events.specs.SoundLaws.{refused_first, when_fit}
use Rattle.events.specs.ClosingLaws.{nothing_open, node_ended}
use Rattle.events.proofs.Stream.close_node.Goals as goal

pub returns-in_err-check : goal.returns-in_err-check
returns-in_err-check c =
    let p = err_from_is_err_and c.from_residual.result c.from_residual.ensures.1 in
    rw (p.1, p.2) (refused_first _ _ c.in_err-check.ensures.refused)

pub returns-then-self-eq0 : goal.returns-then-self-eq0
unfolding grounds
returns-then-self-eq0 c = when_fit _ _ c.in_ok-check.ensures.fit (nothing_open _ c.in_ok-check.ensures.fit end refl (omega arith))

pub returns : goal.returns
returns c =
    let e = c.close.ensures in
    rw (e.0, e.1, c.event_at-begin.ensures)
    (when_fit _ _ c.in_ok-check.ensures.fit (node_ended _ c.in_ok-check.ensures.fit (omega (arith, c.if-self-eq0.false))))
