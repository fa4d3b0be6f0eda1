use Rattle.std.proofs.Common.{refl, arith, ◌∙◌}
use Rattle.fetching.proofs.FetchingLaws.{storing_begun, storing_end, storing_done, index_below, storing_on}
use Rattle.fetching.proofs.store.Goals as goal
use Rattle.fetching.proofs.store.Goals.{else-loop-test, then-loop-test+in_default}

pub loop-init : goal.loop-init
loop-init c = (refl, storing_begun _ _ _ (omega arith) c.args.tokens.sound c.requires)

pub overflow_add-next : goal.overflow_add-next
overflow_add-next c = let h = c.loop.invariant in omega (arith, index_below h.1 (rw h.0 at c.in-Some.ensures.2))

pub loop-preserved : goal.loop-preserved
loop-preserved c =
    let h = c.loop.invariant in
    let m = c.in-Some.ensures in
    (m.0 ∙ h.0, storing_on h.1 (rw h.0 at m.2) (omega arith) c.write.ensures)

pub returns : goal.returns
returns c =
    let h = c.loop.invariant in
    elim c.loop-test.branch [
      | else-loop-test w ↦ rw w.left-is (storing_done h.1 (omega arith))
      | then-loop-test+in_default w ↦ let m = w.in_default.ensures in rw (w.left-is, m.2.1) (storing_end h.1 (rw h.0 at m.2.0))
    ]
