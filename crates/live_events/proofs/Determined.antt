-- The promises leave no choice: two results of a call that satisfy its contract are equal, with every lent number. For the answers can be
-- read back from document 01's values, and what is lent stands in the promise. Assumes nothing.
use Rattle.std.specs.Prelude.{ℕ, ◌≡◌, List, Option, Result}
use Rattle.std.proofs.Common.{ap}
use Rattle.patterns.specs.Determined.{Once}
use Rattle.patterns.proofs.Determined.{once}
use Rattle.refusals.specs.declared.Refusal.{Refusal}
use Rattle.event_record.specs.declared.Event.{Event}
use Rattle.event_record.specs.declared.Position.{Position}
use Rattle.event_record.specs.Record.{Answer, reply}
use Rattle.events.specs.Stream.{done_told, position_told, event_told}
use Rattle.events.specs.Determined.{done_read, done_same}
use Rattle.live_events.specs.Live.{lent}
use Rattle.live_events.proofs.Readings.{position_read, position_same, event_read, event_same}

-- any answer that can be read back
module _ {A : Type 0} (told : A → Answer) (back : Answer → A) (same : (a : A) → back (told a) ≡ a) where
  told_once : Once (λ (p : A × List ℕ × List ℕ × List ℕ). reply (told p.0) (lent p.1 p.2 p.3))
  told_once =
      once _ (λ y. (back y.answer, y.after.stream, y.after.room, y.after.opens))
      (λ p. ap (λ a. (a, p.1, p.2, p.3)) (same p.0))

-- push_token, push_error, begin, both ends, truncate and remove_bookmark
pub done_once : Once (λ (p : Result Unit Refusal × List ℕ × List ℕ × List ℕ). reply (done_told p.0) (lent p.1 p.2 p.3))
done_once = told_once done_told done_read done_same

-- bookmark
pub position_once : Once (λ (p : Result Position Refusal × List ℕ × List ℕ × List ℕ). reply (position_told p.0) (lent p.1 p.2 p.3))
position_once = told_once position_told position_read position_same

-- pop
pub event_once : Once (λ (p : Result (Option Event) Refusal × List ℕ × List ℕ × List ℕ). reply (event_told p.0) (lent p.1 p.2 p.3))
event_once = told_once event_told event_read event_same
