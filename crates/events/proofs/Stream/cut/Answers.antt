-- The tests are the grounds', in their order; the last token is sought among the events that are left.
-- Assumes nothing.
use Rattle.std.proofs.Common.{refl, arith, rules}
use Rattle.std.proofs.lemmas.Result.{err_from_is_err_and}
use Rattle.event_record.specs.Record.{truncate, grounds}
use Rattle.events.specs.SoundLaws.{refused_first, when_fit}
use Rattle.events.specs.MarkLaws.{nothing_live, too_late}
use Rattle.events.specs.TruncatingLaws.{unbalanced, cut_short}
use Rattle.events.proofs.Stream.cut.Goals as goal

pub returns-in_err-check : goal.returns-in_err-check
returns-in_err-check c =
    let p = err_from_is_err_and c.from_residual.result c.from_residual.ensures.1 in
    rw (p.1, p.2) (refused_first _ _ c.in_err-check.ensures.refused)

pub returns-then-self-eq0 : goal.returns-then-self-eq0
unfolding grounds
returns-then-self-eq0 c = when_fit _ _ c.in_ok-check.ensures.fit (nothing_live _ c.in_ok-check.ensures.fit (truncate _) _ refl (omega arith))

pub returns-then-self-from : goal.returns-then-self-from
unfolding grounds
returns-then-self-from c =
    when_fit _ _ c.in_ok-check.ensures.fit (too_late _ c.in_ok-check.ensures.fit (truncate _) _ refl (omega arith) (omega arith))

pub returns-then-not-is_balanced : goal.returns-then-not-is_balanced
returns-then-not-is_balanced c =
    when_fit _ _ c.in_ok-check.ensures.fit (unbalanced _ c.in_ok-check.ensures.fit _ (omega arith) (omega arith) c.is_balanced.ensures (search rules))

pub returns : goal.returns
returns c =
    rw (c.counted.ensures, c.last_token-last.ensures)
    (when_fit _ _ c.in_ok-check.ensures.fit (cut_short _ c.in_ok-check.ensures.fit _ (omega arith) (omega arith) c.is_balanced.ensures (search rules)))
