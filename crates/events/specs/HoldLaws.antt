-- How the stores of the code lay the list that a call leaves: an event more is one write, and what is not written is what the list held
-- there already. By the laws of the ring. What each call's stores come to is said beside its laws. Assumes nothing.
use Rattle.std.specs.Prelude.{ℕ, ◌+◌, ◌≤◌, ◌<◌, ◌≡◌, List, [], ◌∷◌, ◌++◌, length, take}
use Rattle.std.proofs.Common.{sym, arith, length-append}
use Rattle.std.proofs.Math.Seq.{length-take-le}
use Rattle.std.proofs.lemmas.List.Edits.{sets}
use Rattle.rooms.specs.declared.Slot.{Slot}
use Rattle.rooms.proofs.Stores.{sets_take}
use Rattle.event_record.specs.declared.Event.{Event}
use Rattle.event_record.specs.Record.{Answer, reply, Record}
use Rattle.event_room.specs.Room.{slots_in, slot_of, write, listed, written}
use Rattle.event_room.specs.RingLaws.{length_listed, written_append, written_listed}
use Rattle.events.specs.declared.Stream.{Stream}
use Rattle.events.specs.Stream.{State, state, view, front_after, laid}
use Rattle.events.specs.Parts.{slot_at}
use Rattle.events.specs.SoundLaws.{Fit}

-- the stream's record of a list whose first event is in a slot, with so many events and open nodes
abbrev pub recorded : Record → Slot → ℕ → ℕ → Stream
recorded r f n o =
    record {
      slots = r.slots;
      places = r.places;
      front = f;
      count = n;
      opened = o;
      bookmarks = r.bookmarks;
      last = r.last;
      gone = r.gone;
      popped = r.popped;
    }

-- what is laid, from its parts
pub laid_as : (s : State) (a : Answer) (r : Record) (f : Slot) (n o : ℕ) (room opens : List ℕ) → f ≡ front_after s.stream a
    → n ≡ length r.events → o ≡ length r.opens → room ≡ written s.room f 0 r.events → opens ≡ sets s.opens 0 r.opens
    → reply a (state (recorded r f n o) room opens) ≡ laid s (reply a r)
unfolding laid
laid_as s a r f n o room opens p q u v w = rw (v, w, q, u, p)

-- the slot of the first event
abbrev pub front : State → Slot
front s = s.stream.front

-- nothing is to be stored where the list has the first of the events and open places that stand, or all
pub unstored : (s : State) (a : Answer) (r : Record) (n o : ℕ) → front_after s.stream a ≡ front s
    → r.events ≡ listed s.room (front s) 0 n → r.opens ≡ take o s.opens → o ≤ length s.opens
    → reply a (state (recorded r (front s) n o) s.room s.opens) ≡ laid s (reply a r)
unstored s a r n o f p q h =
    laid_as s a r (front s) n o s.room s.opens (sym f) (rw p (sym (length_listed s.room (front s) 0 n)))
    (rw q (sym (length-take-le o s.opens h))) (rw p (sym (written_listed s.room (front s) 0 n))) (rw q (sym (sets_take s.opens o h)))

-- an event more is one write more, in the slot behind
pub one_written : (room after : List ℕ) (f : Slot) (e n : ℕ) (xs : List Event) (y : Event) → e ≡ slots_in (length after) → length xs ≡ n
    → after ≡ written room f 0 xs → write after (slot_of e f n) y ≡ written room f 0 (xs ++ (y ∷ []))
unfolding written
one_written room after f e n xs y p q w =
    let l : 0 + length xs ≡ n = omega arith in
    rw (written_append room f 0 xs (y ∷ []), ← w, l, p)

module _ (s : State) (k : Fit s) where
  pub opened_inside : s.stream.opened ≤ length s.opens
  opened_inside = omega (arith, k.nodes, k.places_same)

  -- where there is an event, the front is a slot of the room
  pub front_slot : 0 < s.stream.count → s.stream.front.0 < slots_in (length s.room)
  front_slot h = let a = k.within in omega (arith, k.front_inside (omega arith), k.slots_same)

  pub count_inside : s.stream.count ≤ slots_in (length s.room)
  count_inside = omega (arith, k.within, k.slots_same)

  -- what the list has is what the record counts
  pub view_count : length (view s).events ≡ s.stream.count
  unfolding view
  view_count = length_listed s.room (front s) 0 s.stream.count

  pub view_opened : length (view s).opens ≡ s.stream.opened
  unfolding view
  view_opened = length-take-le s.stream.opened s.opens opened_inside

  -- an event more
  pub count_more : (y : Event) → s.stream.count + 1 ≡ length ((view s).events ++ (y ∷ []))
  count_more y = omega (arith, length-append (view s).events (y ∷ []), view_count)

  pub room_more : (y : Event) → write s.room (slot_at s.stream s.stream.count) y ≡ written s.room s.stream.front 0 ((view s).events ++ (y ∷ []))
  unfolding view
  room_more y =
      one_written s.room s.room (front s) s.stream.slots s.stream.count (view s).events y k.slots_same view_count
      (sym (written_listed s.room (front s) 0 s.stream.count))
