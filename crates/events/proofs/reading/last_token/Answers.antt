use Rattle.std.proofs.Common.{◌-◌, refl, ◌∙◌, arith}
use Rattle.events.specs.ReadingLaws.{token_here, token_before, token_none}
use Rattle.events.proofs.reading.last_token.Goals as goal

pub loop-i-init : goal.loop-i-init
loop-i-init c = (c.slots-slots.ensures, refl)

pub returns-then-event-eq-TOKEN : goal.returns-then-event-eq-TOKEN
returns-then-event-eq-TOKEN c =
    let a = c.args in
    token_here a.room.now a.front (c.loop-i.i - 1) c.loop-i.invariant.0 c.event_at-event.ensures a.gone
    (omega arith) c.if-event-eq-TOKEN.true
    ∙ c.loop-i.invariant.1

pub loop-i-preserved : goal.loop-i-preserved
loop-i-preserved c =
    let a = c.args in (
      c.loop-i.invariant.0,
      token_before a.room.now a.front (c.loop-i.i - 1) c.loop-i.invariant.0 c.event_at-event.ensures a.gone
          (omega arith) c.if-event-eq-TOKEN.false
          ∙ c.loop-i.invariant.1,
    )

pub returns : goal.returns
returns c =
    let l = c.loop-i in
    let a = c.args in
    token_none a.room.now a.front a.gone l.i (omega arith) ∙ l.invariant.1
