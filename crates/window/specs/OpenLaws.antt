-- Opening the window is opening the reader: both refuse a source over the limit, and the reader starts where the window does. The window
-- that a refused opening gives back is one for a longer source than any call takes. Assumes nothing.
use Rattle.std.specs.Prelude.{ℕ, ◌≡◌, false, List, length}
use Rattle.std.proofs.Common.{arith, le-leb}
use Rattle.std.proofs.lemmas.Bool.{lt-leb}
use Rattle.patterns.proofs.Bools.{by_test}
use Rattle.reader.specs.declared.Reader.{Reader}
use Rattle.reader.specs.Reading.{source_limit}
use Rattle.reader.specs.Reading as reading
use Rattle.reader.proofs.ReaderLaws.{opened_ready, opened_refused}
use Rattle.token_record.specs.Record.{Call, done, refused, reply}
use Rattle.token_room.specs.Room.{slots_in}
use Rattle.window.specs.declared.Window.{Window}
use Rattle.window.specs.SoundLaws.{fit}
use Rattle.window.specs.Window.{state, fresh_at, unopened, open_of, sound, step}

module _ (src room : List ℕ) where
  pub ready : (r : Reader) (w : Window) → reading.ready r ≡ reading.open_of src → w ≡ fresh_at r (length src) (slots_in (length room))
      → reply done (state w room) ≡ open_of src room
  ready r w e f = let o = opened_ready src e in rw (f, o.1, le-leb (length src) source_limit o.0)

  pub not_ready : (n : ℕ) (w : Window) → reading.refused n ≡ reading.open_of src → w ≡ unopened → reply (refused n) (state w room) ≡ open_of src room
  not_ready n w e f = let o = opened_refused src e in rw (f, o.1, lt-leb (length src) source_limit o.0)

-- No source and no room is taken with the window of a refused opening: each later call is refused by 24, and leaves all as it was.
pub unopened_unsound : (bytes len : ℕ) → sound bytes len unopened ≡ false
unopened_unsound bytes len =
    by_test (sound bytes len unopened) (λ p. let f = fit bytes len unopened p in absurd (omega (arith, f.limit, f.bytes_same))) (λ p. p)

pub unopened_refused : (src room : List ℕ) (c : Call) → step src c (state unopened room) ≡ reply (refused 24) (state unopened room)
unfolding step
unopened_refused src room c = rw (unopened_unsound (length src) (length room))
