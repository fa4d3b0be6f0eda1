-- Fetching under way: what storing comes to, and counting down; and the answer, read back from what it is told by. Assumes nothing.
use Rattle.std.specs.Prelude.{ℕ, ◌+◌, ◌≤◌, ◌≡◌, List, length, Result, Ok, Err}
use Rattle.refusals.specs.declared.Refusal.{Refusal}
use Rattle.refusals.specs.RefusalLaws.{read_refusal}
use Rattle.reader.specs.declared.Reader.{Reader}
use Rattle.reader.specs.Reading.{Ahead, ahead}
use Rattle.reader.specs.Following.{Sound, rest}
use Rattle.token_room.specs.Room.{nth, write_all}
use Rattle.fetching.specs.declared.Stored.{Stored}
use Rattle.fetching.specs.Fetching.{Answer, upto, refused, stored}

-- What storing comes to, from the index i on: where it ends, and the room.
abbrev pub storing : Ahead → List ℕ → ℕ → Stored × List ℕ
storing a room i = (stored (nth i) a, write_all room i a.tokens)

-- Under way: to store n tokens from r on, with the room as it is, is to store n₀ from r₀ on.
pub record Storing (src : List ℕ) (r₀ : Reader) (room₀ : List ℕ) (i₀ n₀ : ℕ) (r : Reader) (room : List ℕ) (i n : ℕ) : Type 0 where
  pub sound : Sound src r
  pub placed : i ≤ r.place.0
  pub sized : length room ≡ length room₀
  pub same : storing (ahead n src r) room i ≡ storing (ahead n₀ src r₀) room₀ i₀

-- Counting down from n: k is as far below it as there are tokens between the readers.
pub record Counting (src : List ℕ) (r₀ : Reader) (n : ℕ) (r : Reader) (k : ℕ) : Type 0 where
  pub sound : Sound src r
  pub counted : length (rest src r₀) + k ≡ length (rest src r) + n

-- The contract leaves no choice: an answer can be read back from what it is told by.
abbrev pub fetched_read : Answer → Result Stored Refusal
fetched_read (upto r i) = Ok (record { reader = r; next = i })
fetched_read (refused n) = Err (read_refusal n)
