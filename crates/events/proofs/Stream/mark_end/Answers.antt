-- The test is the ground.
-- Assumes nothing.
use Rattle.std.proofs.Common.{arith}
use Rattle.std.proofs.lemmas.Result.{err_from_is_err_and}
use Rattle.events.specs.SoundLaws.{refused_first, when_fit}
use Rattle.events.specs.MarkingLaws.{too_many, mark_made}
use Rattle.events.proofs.Stream.mark_end.Goals as goal

pub returns-in_err-check : goal.returns-in_err-check
returns-in_err-check c =
    let p = err_from_is_err_and c.from_residual.result c.from_residual.ensures.1 in
    rw (p.1, p.2) (refused_first _ _ c.in_err-check.ensures.refused)

pub returns-then-self-ge-BOOKMARKS : goal.returns-then-self-ge-BOOKMARKS
returns-then-self-ge-BOOKMARKS c = when_fit _ _ c.in_ok-check.ensures.fit (too_many _ c.in_ok-check.ensures.fit (omega arith))

pub returns : goal.returns
returns c = rw c.marked.ensures (when_fit _ _ c.in_ok-check.ensures.fit (mark_made _ c.in_ok-check.ensures.fit (omega arith)))
