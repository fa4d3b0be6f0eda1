-- Slots and places are never changed: a record with those of one that keeps within its sizes keeps within them where its events and open
-- nodes do. Assumes nothing.
use Rattle.std.specs.Prelude.{ℕ, ◌+◌, ◌≤◌, ◌≡◌}
use Rattle.std.proofs.Common.{◌∙◌}
use Rattle.std.proofs.Math.ListN.{length}
use Rattle.event_record.specs.Record.{Record}
use Rattle.event_view.specs.Nesting.{Sized}

module _ (e d : ℕ) (r : Record) (z : Sized e d r) where
  pub sized : (q : Record) → q.slots ≡ r.slots → q.places ≡ r.places
      → length q.events + length q.opens ≤ e → length q.opens ≤ d → Sized e d q
  sized q s p h k = record { slots_same = s ∙ z.slots_same; places_same = p ∙ z.places_same; within = h; nodes = k }
