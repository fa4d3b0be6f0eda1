-- Fetching: the tokens ahead of a reader go into the slots of their indexes; where they are too many, none does.
-- Assumes nothing.
use Rattle.std.specs.Prelude.{ℕ, ◌+◌, cond, ◌&&◌, List, length, leb, Result, Ok, Err}
use Rattle.tokens.specs.declared.TokenIndex.{TokenIndex}
use Rattle.refusals.specs.declared.Refusal.{Refusal}
use Rattle.refusals.specs.Refusals.{number_of}
use Rattle.refusals.specs.Calls.{Reply, reply}
use Rattle.reader.specs.declared.Reader.{Reader}
use Rattle.reader.specs.Reading.{sound, Ahead, ahead}
use Rattle.token_room.specs.Room.{nth, write_all}
use Rattle.fetching.specs.declared.Stored.{Stored}

-- What fetching answers: the reader behind the tokens, and the index that comes next; or a refusal, by its number.
pub data Answer : Type 0 where
  upto : Reader → TokenIndex → Answer
  refused : ℕ → Answer

abbrev pub stored : TokenIndex → Ahead → Stored
stored first a = record { reader = a.reader; next = nth (first.0 + length a.tokens) }

-- The answer, and every lent number.
unfoldable pub fetched : List ℕ → Reader → List ℕ → TokenIndex → ℕ → ℕ → Reply Answer (List ℕ)
fetched src r room first need spare =
    let a = ahead need src r in
    cond (sound src r && leb first.0 r.place.0)
    (cond (leb (length a.tokens) spare)
    (reply (upto a.reader (nth (first.0 + length a.tokens))) (write_all room first.0 a.tokens))
    (reply (refused 2) room))
    (reply (refused 24) room)

-- The code's answer in these values, with the room.
abbrev pub fetched_told : Result Stored Refusal → Answer
fetched_told (Ok s) = upto s.reader s.next
fetched_told (Err n) = refused (number_of n)

abbrev pub outcome : Result Stored Refusal → List ℕ → Reply Answer (List ℕ)
outcome g room = reply (fetched_told g) room
