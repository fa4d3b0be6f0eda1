-- The tests are the ground; the first event is the front slot's.
-- Assumes nothing.
use Rattle.std.proofs.Common.{arith}
use Rattle.std.proofs.lemmas.Result.{err_from_is_err_and}
use Rattle.events.specs.SoundLaws.{refused_first, when_fit}
use Rattle.events.specs.PoppingLaws.{not_settled, nothing_popped, first_gone}
use Rattle.events.proofs.Stream.pop_first.Goals as goal

pub returns-in_err-check : goal.returns-in_err-check
returns-in_err-check c =
    let p = err_from_is_err_and c.from_residual.result c.from_residual.ensures.1 in
    rw (p.1, p.2) (refused_first _ _ c.in_err-check.ensures.refused)

pub returns-then-self : goal.returns-then-self
returns-then-self c = when_fit _ _ c.in_ok-check.ensures.fit (not_settled _ c.in_ok-check.ensures.fit c.if-self.true)

pub returns-then-self-eq0 : goal.returns-then-self-eq0
returns-then-self-eq0 c = when_fit _ _ c.in_ok-check.ensures.fit (nothing_popped _ c.in_ok-check.ensures.fit c.if-self.false (omega arith))

pub returns : goal.returns
returns c =
    rw (c.passed.ensures, c.read-event.ensures)
    (when_fit _ _ c.in_ok-check.ensures.fit (first_gone _ c.in_ok-check.ensures.fit c.if-self.false (omega arith)))
