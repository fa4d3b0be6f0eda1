use Rattle.std.proofs.Common.{◌+◌, ◌-◌, ap, sym, ◌∙◌, arith, rules}
use Rattle.event_record.specs.Record.{balanced}
use Rattle.event_room.specs.Room.{listed}
use Rattle.events.specs.BalanceLaws.{one_more, balanced_start, balanced_here, balanced_end}
use Rattle.events.proofs.balance.is_balanced.Goals as goal

pub loop-i-init : goal.loop-i-init
loop-i-init c =
    let a = c.args in
    (search rules, c.slots-slots.ensures, balanced_start a.room.now a.front 0 a.from.0 a.count)

pub returns-then-is_unmatched : goal.returns-then-is_unmatched
returns-then-is_unmatched c =
    let a = c.args in
    balanced_here a.room.now a.front c.loop-i.i c.loop-i.invariant.1 c.event_at-event.ensures c.loop-i.depth a.count
    (omega arith) (sym c.is_unmatched.ensures ∙ c.if-is_unmatched.true)
    ∙ c.loop-i.invariant.2

pub depth_behind-depth-requires : goal.depth_behind-depth-requires
depth_behind-depth-requires c = record { depth_bound = omega arith; event_value = sym c.is_unmatched.ensures ∙ c.if-is_unmatched.false }

pub loop-i-preserved : goal.loop-i-preserved
loop-i-preserved c =
    let a = c.args in
    let y = c.event_at-event.result in (
      omega (arith, c.depth_behind-depth.ensures, one_more c.loop-i.depth y),
      c.loop-i.invariant.1,
      ap (λ d. balanced d (listed a.room.now a.front (c.loop-i.i + 1) (a.count - (c.loop-i.i + 1)))) c.depth_behind-depth.ensures
          ∙ balanced_here a.room.now a.front c.loop-i.i c.loop-i.invariant.1 c.event_at-event.ensures c.loop-i.depth a.count
          (omega arith) (sym c.is_unmatched.ensures ∙ c.if-is_unmatched.false)
          ∙ c.loop-i.invariant.2,
    )

pub returns : goal.returns
returns c =
    let l = c.loop-i in
    let a = c.args in
    balanced_end a.room.now a.front l.i l.depth a.count (omega arith) ∙ l.invariant.2
