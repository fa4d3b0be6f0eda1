use Rattle.std.proofs.Common.{◌<◌, refl, sym, ap, ◌∙◌, add-zero, arith}
use native.Mathlib.Nat.{sub-zero}
use Rattle.scripts.proofs.Running.{ran_call, ran_none}
use Rattle.window.specs.Window.{state, step}
use Rattle.window_scripts.specs.Asking.{form}
use Rattle.window_scripts.specs.ReplayLaws.{left, note}
use Rattle.window_scripts.proofs.run.Goals as goal

pub loop-i-init : goal.loop-i-init
loop-i-init c = (omega arith, refl, refl, rw sub-zero)

pub loop-i-preserved : goal.loop-i-preserved
loop-i-preserved c =
    let s = c.args in
    let l = c.loop-i in
    let h : l.i < s.calls = omega arith in (
      omega arith,
      c.call-given.auto.room ∙ l.invariant.1,
      c.put.auto.answers ∙ l.invariant.2,
      ran_call form (step s.src.now) s.script.now l.i s.calls (state l.window l.room) l.answers h
          (rw add-zero (note c.call-given.ensures c.put.ensures))
          ∙ l.invariant.3,
    )

pub returns : goal.returns
returns c =
    let s = c.args in
    let l = c.loop-i in
    ap left (
    sym (ran_none form (step s.src.now) s.script.now l.i s.calls (state l.window l.room) l.answers (omega arith))
    ∙ l.invariant.3
    )
