-- The promises leave no choice: two results of a call that satisfy its contract are equal, with every lent number. For the code's
-- answers can be read back from document 01's values, by which the contracts speak of them. Assumes nothing.
use Rattle.std.specs.Prelude.{ℕ, ◌≡◌, refl, List, Option, Some, None, Result, Ok, Err}
use Rattle.std.proofs.Common.{ap}
use Rattle.patterns.specs.Determined.{Once}
use Rattle.patterns.proofs.Determined.{once}
use Rattle.refusals.specs.declared.Refusal.{Refusal}
use Rattle.refusals.specs.declared.Given.{Given}
use Rattle.refusals.specs.RefusalLaws.{read_refusal, read_back}
use Rattle.event_record.specs.declared.Event.{Event}
use Rattle.event_record.specs.declared.Position.{Position}
use Rattle.event_record.specs.Record.{Answer, done, none, position, event, refused, at}
use Rattle.events.specs.declared.Stream.{Stream}
use Rattle.events.specs.Stream.{done_told, position_told, event_told, done_reply, position_reply, event_reply}

-- push_token, push_error, begin, both ends, truncate and remove_bookmark
abbrev pub done_read : Answer → Result Unit Refusal
done_read done = Ok tt
done_read none = Ok tt
done_read (position p) = Ok tt
done_read (event y) = Ok tt
done_read (refused n) = Err (read_refusal n)

pub done_same : (a : Result Unit Refusal) → done_read (done_told a) ≡ a
done_same (Ok u) = refl
done_same (Err n) = ap Err (read_back n)

pub done_once : Once (λ (p : Given Unit Stream × (List ℕ × List ℕ)). done_reply p.0 p.1.0 p.1.1)
done_once =
    once _ (λ r. (record { answer = done_read r.answer; after = r.after.stream }, (r.after.room, r.after.opens)))
    (λ p. ap (λ (a : Result Unit Refusal). (record { answer = a; after = p.0.after }, p.1)) (done_same p.0.answer))

-- bookmark
abbrev position_read : Answer → Result Position Refusal
position_read done = Ok (at 0)
position_read none = Ok (at 0)
position_read (position p) = Ok p
position_read (event y) = Ok (at 0)
position_read (refused n) = Err (read_refusal n)

position_same : (a : Result Position Refusal) → position_read (position_told a) ≡ a
position_same (Ok p) = refl
position_same (Err n) = ap Err (read_back n)

pub position_once : Once (λ (p : Given Position Stream × (List ℕ × List ℕ)). position_reply p.0 p.1.0 p.1.1)
position_once =
    once _ (λ r. (record { answer = position_read r.answer; after = r.after.stream }, (r.after.room, r.after.opens)))
    (λ p. ap (λ (a : Result Position Refusal). (record { answer = a; after = p.0.after }, p.1)) (position_same p.0.answer))

-- pop
abbrev event_read : Answer → Result (Option Event) Refusal
event_read done = Ok None
event_read none = Ok None
event_read (position p) = Ok None
event_read (event y) = Ok (Some y)
event_read (refused n) = Err (read_refusal n)

event_same : (a : Result (Option Event) Refusal) → event_read (event_told a) ≡ a
event_same (Ok (Some y)) = refl
event_same (Ok None) = refl
event_same (Err n) = ap Err (read_back n)

pub event_once : Once (λ (p : Given (Option Event) Stream × (List ℕ × List ℕ)). event_reply p.0 p.1.0 p.1.1)
event_once =
    once _ (λ r. (record { answer = event_read r.answer; after = r.after.stream }, (r.after.room, r.after.opens)))
    (λ p. ap (λ (a : Result (Option Event) Refusal). (record { answer = a; after = p.0.after }, p.1)) (event_same p.0.answer))
