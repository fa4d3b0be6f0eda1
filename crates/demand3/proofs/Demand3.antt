-- Demand 3: the window answers as the record that never drops a token, up to the first refusal for token room, which comes exactly
-- where a call would outnumber the slots; and more room changes no answer given before it. Assumes nothing.
use Rattle.std.specs.Prelude.{ℕ, ◌≤◌, refl, length}
use Rattle.std.proofs.Common.{inl, inr}
use mathlib.Core.List.{List, [], ◌∷◌}
use Rattle.patterns.proofs.Bools.{by_test}
use Rattle.refusals.specs.Calls.{run}
use Rattle.reader.specs.Reading.{source_limit}
use Rattle.token_record.specs.Record.{Call, Record, opened, whole, outnumbers, bounded}
use Rattle.token_room.specs.Room.{slots_in}
use Rattle.demand3.proofs.Simulation.{simulated}
use Rattle.demand3.proofs.Slots.{refused_where, more_slots}
use Rattle.demand3.specs.Demand3.{Demand3, Exactly, Same_until_2}

-- The same of the record with w slots, call by call.
module _ (w : ℕ) (src : List ℕ) where
  whole_same : (cs : List Call) (r : Record) → Same_until_2 (run (bounded w src) cs r) (run (whole src) cs r)
  unfolding run bounded
  whole_same [] r = tt
  whole_same (c ∷ cs) r =
      by_test (outnumbers w src c r) (λ o. rw o (inl refl)) (λ o. rw o (inr (refl, whole_same cs (whole src c r).after)))

  more_same : (w' : ℕ) → w ≤ w' → (cs : List Call) (r : Record) → Same_until_2 (run (bounded w src) cs r) (run (bounded w' src) cs r)
  unfolding run bounded
  more_same w' h [] r = tt
  more_same w' h (c ∷ cs) r =
      by_test (outnumbers w src c r) (λ o. rw o (inl refl))
      (λ o. rw (o, more_slots w src c r w' h o) (inr (refl, more_same w' h cs (whole src c r).after)))

  exactly_there : (cs : List Call) (r : Record) → Exactly w src cs r (run (bounded w src) cs r)
  unfolding run bounded
  exactly_there [] r = tt
  exactly_there (c ∷ cs) r = (refused_where w src c r, λ o. rw o (exactly_there cs (whole src c r).after))

pub demand_3 : (src room : List ℕ) (cs : List Call) → length src ≤ source_limit → Demand3 src room cs
demand_3 src room cs h =
    let w = slots_in (length room) in
    record {
      answers = rw (simulated src room cs h) (whole_same w src cs opened);
      exactly = rw (simulated src room cs h) (exactly_there w src cs opened);
      roomier =
          λ room' l. rw (simulated src room cs h, simulated src room' cs h) (more_same w src (slots_in (length room')) l cs opened);
    }
