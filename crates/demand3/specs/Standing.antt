-- Which window and room stand for a record: the bookmarks in order, the reader where the last token ends, and the tokens written one
-- after the other into the room lent at first. Of a good record it is a state that calls take. Assumes nothing.
use Rattle.std.specs.Prelude.{ℕ, ◌≤◌, List, length}
use Rattle.tokens.specs.Scan.{ends}
use Rattle.reader.specs.declared.Reader.{Reader}
use Rattle.reader.specs.Reading.{source_limit}
use Rattle.token_record.specs.Record.{Reply, reply, Record, kept, bookmark_limit}
use Rattle.token_room.specs.Room.{slots_in, nth, write_all}
use Rattle.bookmarks.specs.Bookmarks.{padded}
use Rattle.window.specs.declared.Window.{Window}
use Rattle.window.specs.Window.{State, state}
use Rattle.demand3.specs.Lowest.{Below}
use Rattle.demand3.specs.Sorting.{sorted}

-- where a record's reader is
abbrev pub reader_of : Record → Reader
reader_of r = record { place = record { 0 = ends 0 r.tokens }; mode = r.mode }

abbrev pub window_of : ℕ → ℕ → Record → Window
window_of bytes slots r =
    record {
      bookmarks = padded (sorted r.bookmarks);
      live = length (sorted r.bookmarks);
      bytes = bytes;
      slots = slots;
      reader = reader_of r;
      fetched = nth (length r.tokens);
      current = r.current;
    }

abbrev pub state_of : List ℕ → List ℕ → Record → State
state_of src room r = state (window_of (length src) (slots_in (length room)) r) (write_all room 0 r.tokens)

abbrev pub reply_of : List ℕ → List ℕ → Reply Record → Reply State
reply_of src room y = reply y.answer (state_of src room y.after)

-- what every call leaves true of the record with w slots
pub record Good (src : List ℕ) (w : ℕ) (r : Record) : Type 0 where
  pub limit : length src ≤ source_limit
  pub current_low : r.current.0 ≤ length r.tokens
  pub fetched_low : length r.tokens ≤ ends 0 r.tokens
  pub inside : ends 0 r.tokens ≤ length src
  pub marks_low : Below (length r.tokens) r.bookmarks
  pub few : length r.bookmarks ≤ bookmark_limit
  pub room : kept r ≤ w
