-- The window fetches what the record fetches, since both take the tokens ahead of the same reader; and a fetch after which no more
-- tokens are kept than there are slots leaves a good record. A call that wants none fetches none. Assumes nothing.
use Rattle.std.specs.Prelude.{ℕ, ◌+◌, ◌-◌, ◌≤◌, ◌<◌, ◌≡◌, false, List, [], ◌∷◌, ◌++◌, length, leb}
use Rattle.std.proofs.Math.Path.{refl}
use Rattle.std.proofs.Common.{ap, arith, ltb-false, leb-false}
use Rattle.std.proofs.Math.ListN.{length-append}
use Rattle.patterns.proofs.Bools.{by_test}
use Rattle.tokens.specs.declared.Token.{Token}
use Rattle.tokens.specs.Scan.{ends}
use Rattle.reader.specs.declared.Reader.{Reader}
use Rattle.reader.specs.Reading.{Ahead, ahead}
use Rattle.reader.specs.Following.{Sound}
use Rattle.reader.proofs.Following.{ahead_count, ahead_far, ahead_sound}
use Rattle.token_record.specs.Record.{Call, Record, wants, kept, fetch, outnumbers}
use Rattle.token_room.specs.Room.{slots_in}
use Rattle.window.specs.Window as of_window
use Rattle.token_room.specs.ReadBack.{write_on}
use Rattle.demand3.proofs.Lowest.{below_up}
use Rattle.demand3.specs.Standing.{reader_of, state_of, Good}
use Rattle.demand3.proofs.Standing.{kept_of}
use Rattle.demand3.specs.Fetching.{grown}

-- where tokens and then others end
ends_append : (at : ℕ) (xs ys : List Token) → ends at (xs ++ ys) ≡ ends (ends at xs) ys
ends_append at [] ys = refl
ends_append at (x ∷ xs) ys = ends_append x.end.0 xs ys

module _ (src : List ℕ) (n : ℕ) (r : Record) where
  -- what is fetched
  abbrev got : Ahead
  got = ahead (r.current.0 + n - length r.tokens) src (reader_of r)

  fetch_grown : fetch src n r ≡ grown r got
  unfolding fetch ahead
  fetch_grown = refl

  reader_grown : reader_of (grown r got) ≡ got.reader
  unfolding ahead
  reader_grown = rw (ends_append 0 r.tokens got.tokens)

  pub fetch_of : (room : List ℕ) → of_window.fetch src n (state_of src room r) ≡ state_of src room (fetch src n r)
  unfolding of_window.fetch
  fetch_of room =
      rw (fetch_grown, reader_grown, length-append r.tokens got.tokens, write_on room r.tokens got.tokens)

  module _ (w : ℕ) (g : Good src w r) where
    -- where none is wanted, none is fetched
    kept_still : n < 1 → kept (fetch src n r) ≤ w
    kept_still h =
        let l : length (r.tokens ++ got.tokens) ≡ length r.tokens + length got.tokens = length-append r.tokens got.tokens in
        rw fetch_grown (omega (arith, l, g.current_low, g.room, ahead_count src (reader_of r) (r.current.0 + n - length r.tokens)))

    grown_good : kept (fetch src n r) ≤ w → Good src w (fetch src n r)
    grown_good h =
        let s : Sound src (reader_of r) = record { limit = g.limit; inside = g.inside } in
        let k = r.current.0 + n - length r.tokens in
        let p : ends 0 (r.tokens ++ got.tokens) ≡ got.reader.place.0 = ap (λ (d : Reader). d.place.0) reader_grown in
        let l : length (r.tokens ++ got.tokens) ≡ length r.tokens + length got.tokens = length-append r.tokens got.tokens in
        rw fetch_grown
        (record {
          limit = g.limit;
          current_low = omega (arith, l, g.current_low);
          fetched_low = omega (arith, l, p, g.fetched_low, ahead_far src (reader_of r) s k);
          inside = rw p (ahead_sound src (reader_of r) s k).inside;
          marks_low = below_up (length r.tokens) (length (r.tokens ++ got.tokens)) (omega arith) r.bookmarks g.marks_low;
          few = g.few;
          room = rw fetch_grown at h;
        })

pub overfull_of : (src room : List ℕ) (c : Call) (r : Record)
    → of_window.overfull c (of_window.fetch src (wants c) (state_of src room r)) ≡ outnumbers (slots_in (length room)) src c r
unfolding outnumbers
overfull_of src room c r = rw (fetch_of src (wants c) r room, kept_of src room (fetch src (wants c) r))

pub fetch_good : (src : List ℕ) (w : ℕ) (c : Call) (r : Record) → Good src w r → outnumbers w src c r ≡ false → Good src w (fetch src (wants c) r)
unfolding outnumbers
fetch_good src w c r g o =
    let k = kept (fetch src (wants c) r) in
    grown_good src (wants c) r w g
    (by_test (leb 1 (wants c)) (λ e. ltb-false w k (rw e at o)) (λ e. kept_still src (wants c) r w g (leb-false 1 (wants c) e)))
