-- Opening a source for a listing, in the reader's values: document 01's refusal 1 first, then 15 where the text is longer than the room.
-- Assumes nothing.
use Rattle.std.specs.Prelude.{ℕ, cond, List, length, leb}
use Rattle.reader.specs.Reading.{source_limit, Answer, ready, refused, start}
use Rattle.reader.specs.Following.{rest}
use Rattle.listing_text.specs.Listing.{text}

-- a reader at the start, if the listing of all tokens has room
abbrev pub fitting : List ℕ → ℕ → Answer
fitting src room =
    cond (leb (length src) source_limit)
    (cond (leb (length (text (rest src start))) room) (ready start) (refused 15))
    (refused 1)
