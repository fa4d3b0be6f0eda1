-- The record over calls: events and open nodes keep within their slots and places, and the open nodes are the Begins that no End closes.
-- A pushed End closes the innermost; truncate cuts off what balances; pop is taken only where all is closed. Assumes nothing.
use Rattle.std.specs.Prelude.{ℕ, ◌+◌, ◌≤◌, ◌≡◌}
use Rattle.std.proofs.Math.ListN.{length}
use Rattle.event_record.specs.Record.{Record}
use Rattle.event_record.specs.Unclosed.{unclosed}

-- How much a record holds: e slots and d places.
pub record Sized (e d : ℕ) (r : Record) : Type 0 where
  pub slots_same : r.slots ≡ e
  pub places_same : r.places ≡ d
  pub within : length r.events + length r.opens ≤ e
  pub nodes : length r.opens ≤ d

-- The open nodes are the Begins that no End closes.
abbrev pub Nested : Record → Type 0
Nested r = r.opens ≡ unclosed r.events
