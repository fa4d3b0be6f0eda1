-- Opening a source for a listing, in the reader's values: document 01's refusal 1 first, then 15 where the text is longer than the room.
-- Assumes nothing.
use Rattle.std.specs.Prelude.{ℕ, ◌≡◌, refl, true, false, List, length, leb}
use Rattle.std.proofs.Common.{le-leb}
use Rattle.std.proofs.lemmas.Bool.{lt-leb}
use Rattle.tokens.specs.Tokens.{ascii}
use Rattle.tokens.specs.Scan.{list_from}
use Rattle.reader.specs.declared.Reader.{Reader}
use Rattle.reader.specs.Reading.{source_limit, ready, refused, start, open_of}
use Rattle.reader.proofs.ReaderLaws.{opened_ready, opened_refused}
use Rattle.reader.specs.Following.{rest}
use Rattle.listing_text.specs.Listing.{text}
use Rattle.listing_text.specs.Fitting.{fitting}

-- Examples: just room, and a byte too little.
just_room : fitting (ascii "x=") 23 ≡ ready start
unfolding list_from text
just_room = refl

no_room : fitting (ascii "x=") 22 ≡ refused 15
unfolding list_from text
no_room = refl

-- The cases: opened and room, opened and no room, and not opened.
module _ (src : List ℕ) (room : ℕ) where
  pub fitting_room : {r : Reader} → ready r ≡ open_of src → leb (length (text (rest src r))) room ≡ true → ready r ≡ fitting src room
  fitting_room e h =
      let o = opened_ready src e in
      let k : leb (length (text (rest src start))) room ≡ true = rw o.1 at h in
      rw (o.1, le-leb (length src) source_limit o.0, k)

  pub fitting_none : {r : Reader} → ready r ≡ open_of src → leb (length (text (rest src r))) room ≡ false → refused 15 ≡ fitting src room
  fitting_none e h =
      let o = opened_ready src e in
      let k : leb (length (text (rest src start))) room ≡ false = rw o.1 at h in
      rw (le-leb (length src) source_limit o.0, k)

  pub fitting_refused : {n : ℕ} → refused n ≡ open_of src → refused n ≡ fitting src room
  fitting_refused e = let o = opened_refused src e in rw (o.1, lt-leb (length src) source_limit o.0)
