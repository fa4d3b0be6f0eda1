-- The tests of refusal 24 as facts, and back.
-- Assumes nothing.
use Rattle.std.specs.Prelude.{ℕ, ◌≤◌, ◌≡◌, true}
use borrow.Author.Tests.{leb-true, le-leb, eqb-true, eq-eqb}
use Rattle.patterns.proofs.Lists.{each_right}
use Rattle.reader.specs.Reading.{source_limit}
use Rattle.token_room.specs.Room.{slots_in}
use Rattle.bookmarks.specs.Bookmarks.{held}
use Rattle.window.specs.declared.Window.{Window}
use Rattle.window.specs.Window.{kept, tests, sound}

-- what holds of a window, a source of so many bytes and a room of so many numbers that a later call takes
pub record Fit (bytes len : ℕ) (w : Window) : Type 0 where
  pub limit : bytes ≤ source_limit
  pub bytes_same : w.bytes ≡ bytes
  pub slots_same : w.slots ≡ slots_in len
  pub held_marks : held w.live w.fetched.0 w.bookmarks ≡ true
  pub current_low : w.current.0 ≤ w.fetched.0
  pub room : kept w ≤ w.slots
  pub fetched_low : w.fetched.0 ≤ w.reader.place.0
  pub inside : w.reader.place.0 ≤ bytes

module _ (bytes len : ℕ) (w : Window) where
  pub fit : sound bytes len w ≡ true → Fit bytes len w
  unfolding sound
  fit e =
      let h = each_right (λ b. b) (tests bytes len w) e in
      record {
        limit = leb-true _ _ h.0;
        bytes_same = eqb-true _ _ h.1.0;
        slots_same = eqb-true _ _ h.1.1.0;
        held_marks = h.1.1.1.0;
        current_low = leb-true _ _ h.1.1.1.1.0;
        room = leb-true _ _ h.1.1.1.1.1.0;
        fetched_low = leb-true _ _ h.1.1.1.1.1.1.0;
        inside = leb-true _ _ h.1.1.1.1.1.1.1.0;
      }

  pub fit_sound : Fit bytes len w → sound bytes len w ≡ true
  unfolding sound
  fit_sound f =
      rw (
        le-leb _ _ f.limit,
        eq-eqb _ _ f.bytes_same,
        eq-eqb _ _ f.slots_same,
        f.held_marks,
        le-leb _ _ f.current_low,
        le-leb _ _ f.room,
        le-leb _ _ f.fetched_low,
        le-leb _ _ f.inside,
      )
