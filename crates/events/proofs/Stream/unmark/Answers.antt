-- The tests are the grounds', in their order.
-- Assumes nothing.
use Rattle.std.proofs.Common.{refl, arith}
use Rattle.std.proofs.lemmas.Result.{err_from_is_err_and}
use Rattle.event_record.specs.Record.{remove_bookmark, grounds}
use Rattle.events.specs.SoundLaws.{refused_first, when_fit}
use Rattle.events.specs.MarkLaws.{nothing_live, too_late}
use Rattle.events.specs.MarkingLaws.{mark_removed}
use Rattle.events.proofs.Stream.unmark.Goals as goal

pub returns-in_err-check : goal.returns-in_err-check
returns-in_err-check c =
    let p = err_from_is_err_and c.from_residual.result c.from_residual.ensures.1 in
    rw (p.1, p.2) (refused_first _ _ c.in_err-check.ensures.refused)

pub returns-then-self-eq0 : goal.returns-then-self-eq0
unfolding grounds
returns-then-self-eq0 c = when_fit _ _ c.in_ok-check.ensures.fit (nothing_live _ c.in_ok-check.ensures.fit (remove_bookmark _) _ refl (omega arith))

pub returns-then-self-mark : goal.returns-then-self-mark
unfolding grounds
returns-then-self-mark c =
    when_fit _ _ c.in_ok-check.ensures.fit (too_late _ c.in_ok-check.ensures.fit (remove_bookmark _) _ refl (omega arith) (omega arith))

pub returns : goal.returns
returns c = rw c.marked.ensures (when_fit _ _ c.in_ok-check.ensures.fit (mark_removed _ c.in_ok-check.ensures.fit _ (omega arith) (omega arith)))
