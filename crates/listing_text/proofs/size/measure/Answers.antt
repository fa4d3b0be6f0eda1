use Rattle.std.proofs.Common.{arith}
use Rattle.listing_text.proofs.Sizes.{count_fits, lines_fit}
use Rattle.listing_text.proofs.Measuring.{measured_start, measured_next, measured_end}
use Rattle.listing_text.proofs.size.measure.Goals as goal

pub loop-token-init : goal.loop-token-init
loop-token-init c = rw c.into_iter-token-iterator.ensures.into_iter_gives (tt, tt, measured_start)

pub loop-token-preserved : goal.loop-token-preserved
loop-token-preserved c = (tt, tt, rw c.line_len-bytes.ensures (measured_next c.in-Some.ensures.steps c.loop-token.invariant.2))

pub returns : goal.returns
returns c = measured_end c.in-None.ensures.steps.0 c.loop-token.invariant.2 c.head_len.ensures.0

pub overflow_add-count : goal.overflow_add-count
overflow_add-count c =
    let m = measured_next c.in-Some.ensures.steps c.loop-token.invariant.2 in
    omega (arith, m.counted, count_fits c.args.tokens.src.now c.args.tokens.reader c.args.tokens.sound)

pub overflow_add-bytes : goal.overflow_add-bytes
overflow_add-bytes c =
    let m = measured_next c.in-Some.ensures.steps c.loop-token.invariant.2 in
    omega (arith, m.sized, lines_fit c.args.tokens.src.now c.args.tokens.reader c.args.tokens.sound)

pub overflow_add-result : goal.overflow_add-result
overflow_add-result c = omega (arith, c.loop-token.invariant.2.sized, lines_fit c.args.tokens.src.now c.args.tokens.reader c.args.tokens.sound)
