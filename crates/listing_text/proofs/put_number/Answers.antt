use Rattle.std.proofs.Common.{◌-◌, ◌*◌, ◌/◌, ◌%◌, ◌≡◌, ◌≤◌, ◌<◌, ◌∙◌, length, append-nil, arith}
use Rattle.std.proofs.Math.Seq.{drop-length}
use Rattle.listing_text.proofs.Numbers.{decimal_some, places, places_all, places_step, tenth_shorter, first_put}
use Rattle.listing_text.proofs.put_number.Goals as goal

pub loop-i-init : goal.loop-i-init
loop-i-init c =
    let a = c.args in
    (c.requires, rw (drop-length a.out.now) (append-nil (places (length a.out.now) a.n) ∙ places_all (length a.out.now) a.n c.requires))

pub loop-i-preserved : goal.loop-i-preserved
loop-i-preserved c =
    let l = c.loop-i in
    let e : l.left - 10 * (l.left / 10) ≡ l.left % 10 = omega arith in
    let step = places_step l.i l.left l.out (omega (arith, c.loop-i-test.true)) (rw l.auto.out l.auto.i) in
    (tenth_shorter l.i l.left l.invariant.0 c.loop-i-test.true, rw e (step ∙ l.invariant.1))

pub returns : goal.returns
returns c =
    let l = c.loop-i in
    let one : l.i ≤ 1 = omega (arith, c.loop-i-test.false) in
    let some : 0 < length l.out = omega (arith, l.auto.out, c.requires, decimal_some c.args.n) in
    first_put l.i l.left l.out l.invariant.0 one some ∙ l.invariant.1
