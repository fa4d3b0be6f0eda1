-- The tests are the grounds', in their order; what is written is the list with a Begin more, and its place.
-- Assumes nothing.
use Rattle.std.proofs.Common.{arith}
use Rattle.std.proofs.lemmas.Result.{err_from_is_err_and}
use Rattle.events.specs.SoundLaws.{refused_first, when_fit}
use Rattle.events.specs.OpeningLaws.{too_deep, no_two_slots, node_opened}
use Rattle.events.proofs.Stream.open_node.Goals as goal

pub returns-in_err-check : goal.returns-in_err-check
returns-in_err-check c =
    let p = err_from_is_err_and c.from_residual.result c.from_residual.ensures.1 in
    rw (p.1, p.2) (refused_first _ _ c.in_err-check.ensures.refused)

pub returns-then-self : goal.returns-then-self
returns-then-self c = when_fit _ _ c.in_ok-check.ensures.fit (too_deep _ c.in_ok-check.ensures.fit _ (omega arith))

pub returns-then-spare-lt2 : goal.returns-then-spare-lt2
returns-then-spare-lt2 c =
    when_fit _ _ c.in_ok-check.ensures.fit (no_two_slots _ c.in_ok-check.ensures.fit _ (omega arith) (omega (arith, c.spare.ensures)))

pub returns : goal.returns
returns c =
    rw (c.counted.ensures, c.put.ensures, c.from.ensures)
    (when_fit _ _ c.in_ok-check.ensures.fit (node_opened _ c.in_ok-check.ensures.fit _ c.if-self.false (omega (arith, c.spare.ensures, c.if-spare-lt2.false))))
