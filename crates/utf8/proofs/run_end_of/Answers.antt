use Rattle.std.proofs.Common.{sym, ◌∙◌, arith}
use Rattle.utf8.specs.Runs.{ascii_read, run_in, run_out, run_over, run_broken, char_within}
use Rattle.utf8.proofs.run_end_of.Goals as goal

pub returns-then-not-has : goal.returns-then-not-has
returns-then-not-has g c =
    let b = c.in-Some.ensures.lookup.3 in
    let here = ascii_read c.args.src.now c.loop-b.end b.0 (b.1 0) c.if-b-lt128.true c.from.ensures in
    run_out _ _ _ here (sym c.has.ensures ∙ c.if-not-has.true) ∙ c.loop-b.invariant

pub loop-b-preserved-then-b-lt128 : goal.loop-b-preserved-then-b-lt128
loop-b-preserved-then-b-lt128 g c =
    let b = c.in-Some.ensures.lookup.3 in
    let here = ascii_read c.args.src.now c.loop-b.end b.0 (b.1 0) c.if-b-lt128.true c.from.ensures in
    run_in _ _ _ here (sym c.has.ensures ∙ c.if-not-has.false) ∙ c.loop-b.invariant

pub overflow_add-end-in-Some-decode_at : goal.overflow_add-end-in-Some-decode_at
overflow_add-end-in-Some-decode_at g c = omega (arith, char_within c.args.src.now c.loop-b.end (sym c.in-Some-decode_at.ensures))

pub loop-b-smaller : goal.loop-b-smaller
loop-b-smaller g c = omega (arith, char_within c.args.src.now c.loop-b.end (sym c.in-Some-decode_at.ensures))

pub loop-b-preserved : goal.loop-b-preserved
loop-b-preserved g c = run_in _ _ _ (sym c.in-Some-decode_at.ensures) (sym c.if-has.ensures) ∙ c.loop-b.invariant

pub returns-in_default-decode_at : goal.returns-in_default-decode_at
returns-in_default-decode_at g c = run_out _ _ _ (sym c.in-Some-decode_at.ensures) (sym c.if-has.ensures) ∙ c.loop-b.invariant

pub returns-in_default-decode_at-2 : goal.returns-in_default-decode_at-2
returns-in_default-decode_at-2 g c = run_broken _ _ _ (sym c.in_default-decode_at.ensures) ∙ c.loop-b.invariant

pub returns : goal.returns
returns g c = run_over _ c.args.src.now c.loop-b.end (omega (arith, c.in_default.ensures)) ∙ c.loop-b.invariant
