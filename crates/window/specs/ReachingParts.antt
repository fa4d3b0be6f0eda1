-- What fetching comes to inside the crate.
-- Assumes nothing.
use Rattle.std.specs.Prelude.{ℕ, List}
use Rattle.tokens.specs.declared.TokenIndex.{TokenIndex}
use Rattle.refusals.specs.Calls as calls
use Rattle.reader.specs.declared.Reader.{Reader}
use Rattle.token_record.specs.Record.{done, refused, Reply, reply}
use Rattle.fetching.specs.Fetching as fetching
use Rattle.window.specs.declared.Window.{Window}
use Rattle.window.specs.Window.{State, state, read_on}

-- what a call comes to, in the values of its answer: with the reader and the number fetched where the window reads on, and the room
abbrev pub Onto : Type 0
Onto = Reply (Reader × TokenIndex × List ℕ)

-- what fetching's answer comes to, from a reader and the number fetched on; and what the window is then
abbrev pub gained : Reader → TokenIndex → fetching.Answer → List ℕ → Onto
gained r i (fetching.upto behind next) room = reply done (behind, next, room)
gained r i (fetching.refused n) room = reply (refused n) (r, i, room)

abbrev pub gathered : Reader → TokenIndex → calls.Reply fetching.Answer (List ℕ) → Onto
gathered r i o = gained r i o.answer o.after

abbrev pub turned : Window → Onto → Reply State
turned w g = reply g.answer (state (read_on g.after.0 g.after.1.0 w) g.after.2)
