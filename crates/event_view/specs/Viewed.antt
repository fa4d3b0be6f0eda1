-- From opening, over any calls, the stream answers as the plain list does: `commutes` call by call, since the open nodes of the list are
-- the Begins that no End closes, so that no later call is refused by 24. Assumes nothing.
use Rattle.std.specs.Prelude.{ℕ, ◌≡◌, List}
use Rattle.std.proofs.Math.ListN.{length}
use Rattle.event_record.specs.Record.{Answer, refused}
use Rattle.event_room.specs.Room.{slots_in}
use Rattle.events.specs.Stream.{State, state, fresh, view}
use Rattle.events.specs.SoundLaws.{Fit}
use Rattle.event_view.specs.Nesting.{Nested}

-- A state that calls from opening on may reach.
pub record Reached (s : State) : Type 0 where
  pub fit : Fit s
  pub nested : Nested (view s)

-- opening
abbrev pub start : List ℕ → List ℕ → State
start room opens = state (fresh (slots_in (length room)) (length opens)) room opens

-- No refusal of the list is 24.
abbrev pub Not_24 : Answer → Type 0
Not_24 a = a ≡ refused 24 → ⊥
