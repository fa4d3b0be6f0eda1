-- Fetching for a call that wants n tokens, with its refusals: 24, then 2.
-- Assumes nothing.
use Rattle.std.specs.Prelude.{ℕ, cond, List, length, ltb, Result, Ok, Err}
use Rattle.refusals.specs.declared.Given.{Given}
use Rattle.refusals.specs.declared.Refusal.{Refusal}
use Rattle.token_record.specs.Record.{done, refused, Reply, reply}
use Rattle.fetching.specs.declared.Stored.{Stored}
use Rattle.window.specs.declared.Window.{Window}
use Rattle.window.specs.Window.{State, kept, sound, fetch, read_on}

unfoldable pub reach : List ℕ → ℕ → State → Reply State
reach src n s =
    let v = fetch src n s in
    cond (sound (length src) (length s.room) s.window)
    (cond (ltb v.window.slots (kept v.window)) (reply (refused 2) s) (reply done v))
    (reply (refused 24) s)

-- the answer and the window of a call that came to r: it reads on from there, or is as it was
abbrev pub reached : Window → Result Stored Refusal → Given Unit Window
reached w (Ok r) = record { answer = Ok tt; after = read_on r.reader r.next.0 w }
reached w (Err n) = record { answer = Err n; after = w }
