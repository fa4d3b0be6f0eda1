-- The thin calls' promises leave no choice: the answer, the record at exit and the rooms at exit are the covered call's answer, record and
-- rooms, which its promise determines (events/specs/Determined). Assumes nothing.
use Rattle.std.specs.Prelude.{Option, Result}
use Rattle.std.proofs.Common.{ap}
use Rattle.patterns.specs.Determined.{Once}
use Rattle.refusals.specs.declared.Refusal.{Refusal}
use Rattle.refusals.specs.Calls.{reply}
use Rattle.event_record.specs.declared.Event.{Event}
use Rattle.event_record.specs.declared.Position.{Position}
use Rattle.events.specs.Stream.{state, done_told, position_told, event_told}
use Rattle.events.specs.Determined as core
use Rattle.lent_events.specs.Determined.{Left}

pub done_once : Once (λ (x : Left (Result Unit Refusal)). reply (done_told x.0) (state x.1.0 x.1.1.0 x.1.1.1))
done_once r x y e f = ap (λ g. (g.0.answer, (g.0.after, g.1))) (core.done_once r (record { answer = x.0; after = x.1.0 }, x.1.1) (record { answer = y.0; after = y.1.0 }, y.1.1) e f)

pub position_once : Once (λ (x : Left (Result Position Refusal)). reply (position_told x.0) (state x.1.0 x.1.1.0 x.1.1.1))
position_once r x y e f = ap (λ g. (g.0.answer, (g.0.after, g.1))) (core.position_once r (record { answer = x.0; after = x.1.0 }, x.1.1) (record { answer = y.0; after = y.1.0 }, y.1.1) e f)

pub event_once : Once (λ (x : Left (Result (Option Event) Refusal)). reply (event_told x.0) (state x.1.0 x.1.1.0 x.1.1.1))
event_once r x y e f = ap (λ g. (g.0.answer, (g.0.after, g.1))) (core.event_once r (record { answer = x.0; after = x.1.0 }, x.1.1) (record { answer = y.0; after = y.1.0 }, y.1.1) e f)
