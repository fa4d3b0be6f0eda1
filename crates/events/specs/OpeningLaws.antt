-- What opening a node answers, branch by branch of the code: the first ground that holds refuses, and where none holds one write and a
-- place lay the list that the call leaves. For the list's figures are the record's. Assumes nothing.
use Rattle.std.specs.Prelude.{ℕ, ◌+◌, ◌-◌, ◌≤◌, ◌<◌, ◌≡◌, List, [], ◌∷◌, ◌++◌, set, take}
use Rattle.std.proofs.Math.Path.{refl}
use Rattle.std.proofs.Common.{arith, length-take-le}
use Rattle.std.proofs.Math.ListN.{length, length-append}
use Rattle.std.proofs.lemmas.List.Edits.{sets}
use borrow.Author.Tests.{lt-ltb, le-ltb, le-leb, lt-leb}
use Rattle.rooms.proofs.Stores.{sets_append, sets_take}
use Rattle.event_record.specs.Record.{begin, done, refused, reply, begun, spare}
use Rattle.event_room.specs.Room.{write}
use Rattle.events.specs.Stream.{State, view, laid, answered}
use Rattle.events.specs.Parts.{slot_at}
use Rattle.events.specs.SoundLaws.{Fit}
use Rattle.events.specs.HoldLaws.{front, laid_as, view_count, view_opened, count_more, room_more}
use Rattle.events.specs.OpeningParts.{opening, begin_left}

-- an open place more
one_opened : (opens : List ℕ) (n p : ℕ) → n < length opens → set opens n p ≡ sets opens 0 (take n opens ++ (p ∷ []))
one_opened opens n p h =
    let l : 0 + length (take n opens) ≡ n = omega (arith, length-take-le n opens (omega arith)) in
    rw (sets_append opens 0 (take n opens) (p ∷ []), sets_take opens n (omega arith), l)

module _ (s : State) (k : Fit s) where
  begin_held : (kind : ℕ) → s.stream.opened < s.stream.places → reply done (begin_left kind s) ≡ laid s (reply done (begun kind (view s)))
  unfolding view
  begin_held kind p =
      let y = opening kind s.stream in
      laid_as s done (begun kind (view s)) (front s) (s.stream.count + 1) (s.stream.opened + 1) (write s.room (slot_at s.stream s.stream.count) y)
      (set s.opens s.stream.opened s.stream.count) refl (count_more s k y)
      (omega (arith, length-append (view s).opens (length (view s).events ∷ []), view_opened s k)) (room_more s k y)
      (rw (view_count s k) (one_opened s.opens s.stream.opened s.stream.count (omega (arith, k.places_same))))

  module _ (kind : ℕ) where
    pub too_deep : s.stream.places ≤ s.stream.opened → reply (refused 11) s ≡ answered (begin kind) s
    unfolding answered
    too_deep h = rw (view_opened s k, le-leb _ _ h)

    pub no_two_slots : s.stream.opened < s.stream.places → s.stream.slots - (s.stream.count + s.stream.opened) < 2
        → reply (refused 5) s ≡ answered (begin kind) s
    unfolding answered
    no_two_slots p h =
        let d : length (view s).opens < (view s).places = omega (arith, view_opened s k) in
        let l : spare (view s) < 2 = omega (arith, view_count s k, view_opened s k) in
        rw (lt-leb _ _ d, lt-ltb _ _ l)

    pub node_opened : s.stream.opened < s.stream.places → 2 ≤ s.stream.slots - (s.stream.count + s.stream.opened)
        → reply done (begin_left kind s) ≡ answered (begin kind) s
    unfolding answered
    node_opened p h =
        let d : length (view s).opens < (view s).places = omega (arith, view_opened s k) in
        let l : 2 ≤ spare (view s) = omega (arith, view_count s k, view_opened s k) in
        rw (lt-leb _ _ d, le-ltb _ _ l) (begin_held kind p)
