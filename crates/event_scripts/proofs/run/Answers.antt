use Rattle.std.proofs.Common.{◌<◌, refl, sym, ◌∙◌, arith}
use native.Mathlib.Nat.{sub-zero}
use Rattle.scripts.proofs.Running.{ran_call, ran_none}
use Rattle.events.specs.Stream.{state, step}
use Rattle.event_scripts.specs.Script.{form}
use Rattle.event_scripts.specs.ReplayLaws.{note}
use Rattle.event_scripts.proofs.run.Goals as goal

pub loop-i-init : goal.loop-i-init
loop-i-init c = (omega arith, refl, refl, refl, rw sub-zero)

pub loop-i-preserved : goal.loop-i-preserved
loop-i-preserved c =
    let s = c.args in
    let l = c.loop-i in
    let before = state l.stream l.room l.opens in
    let h : l.i < s.calls = (omega arith) in (
      omega arith,
      c.call-given.auto.room ∙ l.invariant.1,
      c.call-given.auto.opens ∙ l.invariant.2,
      c.put.auto.answers ∙ l.invariant.3,
      ran_call form step s.script.now l.i s.calls before l.answers h
          (note before l.answers _ c.call-given.ensures c.asked.ensures c.put.ensures)
          ∙ l.invariant.4,
    )

pub returns : goal.returns
returns c =
    let s = c.args in
    sym (ran_none form step s.script.now c.loop-i.i s.calls (state c.loop-i.stream c.loop-i.room c.loop-i.opens) c.loop-i.answers (omega arith))
    ∙ c.loop-i.invariant.4
