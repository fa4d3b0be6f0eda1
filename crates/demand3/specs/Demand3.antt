-- Demand 3: the window answers as the record that never drops a token, up to the first refusal for token room, which comes exactly
-- where a call would outnumber the slots; and more room changes no answer given before it. Assumes nothing.
use Rattle.std.specs.Prelude.{ℕ, ◌≤◌, ◌≡◌, true, false, ◌⊎◌, ◌↔◌, length}
use mathlib.Core.List.{List, [], ◌∷◌}
use Rattle.refusals.specs.Calls.{run}
use Rattle.token_record.specs.Record.{Call, Answer, refused, Record, opened, whole, outnumbers}
use Rattle.token_room.specs.Room.{slots_in}
use Rattle.window.specs.Window.{start, step}

-- the same answers up to the first refusal for token room among the first
abbrev pub Same_until_2 : List Answer → List Answer → Type 0
Same_until_2 [] ys = Unit
Same_until_2 (x ∷ xs) [] = ⊥
Same_until_2 (x ∷ xs) (y ∷ ys) = (x ≡ refused 2) ⊎ ((x ≡ y) × Same_until_2 xs ys)

-- along the record's run, up to the first refusal for token room: a call is refused so exactly where it would outnumber w slots
abbrev pub Exactly : ℕ → List ℕ → List Call → Record → List Answer → Type 0
Exactly w src [] r xs = Unit
Exactly w src (c ∷ cs) r [] = ⊥
Exactly w src (c ∷ cs) r (x ∷ xs) =
    ((x ≡ refused 2) ↔ (outnumbers w src c r ≡ true)) × (outnumbers w src c r ≡ false → Exactly w src cs (whole src c r).after xs)

pub record Demand3 (src room : List ℕ) (cs : List Call) : Type 0 where
  pub answers : Same_until_2 (run (step src) cs (start src room)) (run (whole src) cs opened)
  pub exactly : Exactly (slots_in (length room)) src cs opened (run (step src) cs (start src room))
  pub roomier : (room' : List ℕ) → slots_in (length room) ≤ slots_in (length room')
      → Same_until_2 (run (step src) cs (start src room)) (run (step src) cs (start src room'))
