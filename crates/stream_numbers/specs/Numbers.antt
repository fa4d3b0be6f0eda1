-- The record of an event stream as 16 numbers: slots, places, front, count and opened (two numbers each), bookmarks, the spans last and
-- gone, and whether anything was popped. Assumes nothing.
use Rattle.std.specs.Prelude.{ℕ, ◌<◌, ◌≡◌, Bool, cond, List, [], ◌∷◌, length, get_or, set, eqb, ltb}
use Rattle.halves.specs.Halves.{half, join, low_of, high_of}
use Rattle.event_record.specs.Record.{span}
use Rattle.events.specs.declared.Stream.{Stream}

abbrev pub truth_number : Bool → ℕ
truth_number b = cond b 1 0

-- The record that numbers are, and the numbers of a record.
unfoldable pub stream_of : List ℕ → Stream
stream_of l =
    record {
      slots = join (get_or l 0 0) (get_or l 1 0);
      places = join (get_or l 2 0) (get_or l 3 0);
      front = record { 0 = join (get_or l 4 0) (get_or l 5 0) };
      count = join (get_or l 6 0) (get_or l 7 0);
      opened = join (get_or l 8 0) (get_or l 9 0);
      bookmarks = get_or l 10 0;
      last = span (get_or l 11 0) (get_or l 12 0);
      gone = span (get_or l 13 0) (get_or l 14 0);
      popped = eqb (get_or l 15 0) 1;
    }

unfoldable pub numbers_of : Stream → List ℕ
numbers_of t =
    low_of t.slots
    ∷ high_of t.slots
    ∷ low_of t.places
    ∷ high_of t.places
    ∷ low_of t.front.0
    ∷ high_of t.front.0
    ∷ low_of t.count
    ∷ high_of t.count
    ∷ low_of t.opened
    ∷ high_of t.opened
    ∷ t.bookmarks
    ∷ t.last.start.0
    ∷ t.last.end.0
    ∷ t.gone.start.0
    ∷ t.gone.end.0
    ∷ truth_number t.popped
    ∷ []

-- What a call changes of a record, stored over the numbers of the record before: the count with the last token, or with the open nodes; the
-- bookmarks; what a pop changes. The other numbers stay, whatever they are.
abbrev pub put_count : List ℕ → Stream → List ℕ
put_count l t = set (set l 6 (low_of t.count)) 7 (high_of t.count)

abbrev pub put_last : List ℕ → Stream → List ℕ
put_last l t = set (set (put_count l t) 11 t.last.start.0) 12 t.last.end.0

abbrev pub put_opened : List ℕ → Stream → List ℕ
put_opened l t = set (set (put_count l t) 8 (low_of t.opened)) 9 (high_of t.opened)

abbrev pub put_bookmarks : List ℕ → Stream → List ℕ
put_bookmarks l t = set l 10 t.bookmarks

abbrev pub put_popped : List ℕ → Stream → List ℕ
put_popped l t =
    let k = set (set (put_count l t) 4 (low_of t.front.0)) 5 (high_of t.front.0) in
    set (set (set k 13 t.gone.start.0) 14 t.gone.end.0) 15 (truth_number t.popped)

-- The last number is no truth value: no record has such numbers.
abbrev pub forged : List ℕ → Bool
forged l = ltb 1 (get_or l 15 0)

-- What a caller lends: 16 numbers of 32 bits.
pub record Sixteen (l : List ℕ) : Type 0 where
  pub sized : length l ≡ 16
  pub small : (i : ℕ) → get_or l i 0 < half
