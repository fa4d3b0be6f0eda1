use Rattle.std.proofs.Common.{sym, ◌∙◌, arith}
use Rattle.patterns.proofs.Utf8Laws.{decoded}
use Rattle.utf8.specs.Runs.{ascii_read, run_in, run_out, run_over, run_broken, char_within}
use Rattle.utf8.proofs.by_closure.run_end.Goals as goal
use Rattle.utf8.proofs.by_closure.run_end.Goals.{in_default-decode_at-via-in-Some-decode_at+else-fits, in_default-decode_at-via-in_default-decode_at}

pub returns-then-not-fits : goal.returns-then-not-fits
returns-then-not-fits g c = λ f d.
    let b = c.in-Some.ensures.lookup.3 in
    let here = ascii_read c.args.src.now c.loop-b.end b.0 (b.1 0) c.if-b-lt128.true c.from.ensures in
    run_out f _ _ here (sym (d _ _ (decoded _ _ _ here).scalar c.fits.ensures) ∙ c.if-not-fits.true) ∙ c.loop-b.invariant f d

pub loop-b-preserved-then-b-lt128 : goal.loop-b-preserved-then-b-lt128
loop-b-preserved-then-b-lt128 g c = λ f d.
    let b = c.in-Some.ensures.lookup.3 in
    let here = ascii_read c.args.src.now c.loop-b.end b.0 (b.1 0) c.if-b-lt128.true c.from.ensures in
    run_in f _ _ here (sym (d _ _ (decoded _ _ _ here).scalar c.fits.ensures) ∙ c.if-not-fits.false) ∙ c.loop-b.invariant f d

pub overflow_add-end-in-Some-decode_at : goal.overflow_add-end-in-Some-decode_at
overflow_add-end-in-Some-decode_at g c = omega (arith, char_within c.args.src.now c.loop-b.end (sym c.in-Some-decode_at.ensures))

pub loop-b-smaller : goal.loop-b-smaller
loop-b-smaller g c = omega (arith, char_within c.args.src.now c.loop-b.end (sym c.in-Some-decode_at.ensures))

pub loop-b-preserved : goal.loop-b-preserved
loop-b-preserved g c = λ f d.
    let here = sym c.in-Some-decode_at.ensures in
    run_in f c.args.src.now c.loop-b.end here (sym (d _ _ (decoded _ _ _ here).scalar c.if-fits.ensures)) ∙ c.loop-b.invariant f d

pub returns-in_default-decode_at : goal.returns-in_default-decode_at
returns-in_default-decode_at g c = λ f d. elim c.in_default-decode_at.branch [
  | in_default-decode_at-via-in-Some-decode_at+else-fits w ↦
      let here = sym w.in-Some-decode_at.ensures in
      run_out f _ _ here (sym (d _ _ (decoded _ _ _ here).scalar w.if-fits.ensures)) ∙ c.loop-b.invariant f d
  | in_default-decode_at-via-in_default-decode_at w ↦ run_broken f _ _ (sym w.in_default-decode_at.ensures) ∙ c.loop-b.invariant f d
]

pub returns : goal.returns
returns g c = λ f d. run_over f c.args.src.now c.loop-b.end (omega (arith, c.in_default.ensures)) ∙ c.loop-b.invariant f d
