-- Which window and room stand for a record: the bookmarks in order, the reader where the last token ends, and the tokens written one
-- after the other into the room lent at first. Of a good record it is a state that calls take. Assumes nothing.
use Rattle.std.specs.Prelude.{ℕ, ◌≤◌, ◌≡◌, refl, true, List, length}
use Rattle.std.proofs.Common.{zero-le, arith}
use Rattle.reader.specs.Reading.{source_limit}
use Rattle.token_record.specs.Record.{Record, opened, kept}
use Rattle.token_room.specs.Room.{slots_in, write_all}
use Rattle.window.specs.Window.{State, state, start, sound, marks}
use Rattle.window.specs.Window as of_window
use Rattle.window.specs.SoundLaws.{fit_sound}
use Rattle.bookmarks.specs.HeldLaws.{padded_take, padded_held}
use Rattle.token_room.specs.RoomLaws.{length_write_all}
use Rattle.demand3.specs.Sorting.{sorted}
use Rattle.demand3.proofs.Sorting.{length_sorted, least_sorted, order_sorted}
use Rattle.demand3.specs.Standing.{Good, state_of}

pub start_of : (src room : List ℕ) → start src room ≡ state_of src room opened
unfolding sorted write_all
start_of src room = refl

pub good_opened : (src : List ℕ) (w : ℕ) → length src ≤ source_limit → Good src w opened
good_opened src w h =
    record {
      limit = h;
      current_low = zero-le;
      fetched_low = zero-le;
      inside = zero-le;
      marks_low = tt;
      few = zero-le;
      room = omega arith;
    }

module _ (src room : List ℕ) (r : Record) where
  pub marks_of : marks (state_of src room r).window ≡ sorted r.bookmarks
  marks_of = padded_take (sorted r.bookmarks)

  pub kept_of : of_window.kept (state_of src room r).window ≡ kept r
  kept_of = rw (marks_of, least_sorted r.current.0 r.bookmarks)

  pub sound_of : Good src (slots_in (length room)) r → sound (length src) (length (write_all room 0 r.tokens)) (state_of src room r).window ≡ true
  sound_of g =
      rw (length_write_all room 0 r.tokens)
      (fit_sound (length src) (length room) (state_of src room r).window
      (record {
        limit = g.limit;
        bytes_same = refl;
        slots_same = refl;
        held_marks =
            padded_held (length r.tokens) (sorted r.bookmarks) (rw (length_sorted r.bookmarks) g.few)
            (order_sorted (length r.tokens) r.bookmarks g.marks_low);
        current_low = g.current_low;
        room = rw kept_of g.room;
        fetched_low = g.fetched_low;
        inside = g.inside;
      }))
