-- The event stream's calls over the stream's own record and the two rooms that are lent. What they answer and leave is said of a plain
-- list (event_record); here is how record and rooms hold that list, and when a call is refused by 24. Assumes nothing.
use Rattle.std.specs.Prelude.{ℕ, ◌+◌, ◌-◌, Bool, false, not, ◌&&◌, ◌||◌, List, [], ◌∷◌, length, get_or, take, eqb, leb, ltb, Option, Some, None, Result, Ok, Err}
use Rattle.std.proofs.lemmas.List.Edits.{sets}
use Rattle.patterns.specs.Lists.{each}
use Rattle.rooms.specs.declared.Slot.{Slot}
use Rattle.refusals.specs.declared.Refusal.{Refusal}
use Rattle.refusals.specs.declared.Given.{Given}
use Rattle.refusals.specs.Refusals.{number_of}
use Rattle.refusals.specs.Calls.{unless}
use Rattle.event_record.specs.Record.{Call, Answer, done, none, position, event, refused, Reply, reply, Record}
use Rattle.event_record.specs.declared.Position.{Position}
use Rattle.event_record.specs.declared.Event.{Event}
use Rattle.event_record.specs.Record.{span, begin_tag, grounds, taken}
use Rattle.event_room.specs.Room.{slots_in, slot_of, read, listed, written}
use Rattle.events.specs.declared.Stream.{Stream}

-- The stream's record, the numbers of the event slots, and those of the open places.
pub record State : Type 0 where
  pub stream : Stream
  pub room : List ℕ
  pub opens : List ℕ

abbrev pub state : Stream → List ℕ → List ℕ → State
state t room opens = record { stream = t; room = room; opens = opens }

-- Opening.
abbrev pub fresh : ℕ → ℕ → Stream
fresh e d =
    record {
      slots = e;
      places = d;
      front = record { 0 = 0 };
      count = 0;
      opened = 0;
      bookmarks = 0;
      last = span 0 0;
      gone = span 0 0;
      popped = false;
    }

-- The list that a stream and its rooms hold: the events from the front on, and the open places that are in use.
unfoldable pub view : State → Record
unfolding listed
view s =
    let t = s.stream in
    record {
      slots = t.slots;
      places = t.places;
      events = listed s.room t.front 0 t.count;
      opens = take t.opened s.opens;
      bookmarks = t.bookmarks;
      last = t.last;
      gone = t.gone;
      popped = t.popped;
    }

-- The rooms hold another list: each event in its slot, the open places from the first on, and what is not written stays. The front moves
-- on by a slot where an event is answered.
abbrev pub front_after : Stream → Answer → Slot
front_after t done = t.front
front_after t none = t.front
front_after t (position p) = t.front
front_after t (event y) = slot_of t.slots t.front 1
front_after t (refused n) = t.front

unfoldable pub laid : State → Reply Record → Reply State
unfolding written
laid s x =
    let r = x.after in
    let f = front_after s.stream x.answer in
    reply x.answer (state (record {
      slots = r.slots;
      places = r.places;
      front = f;
      count = length r.events;
      opened = length r.opens;
      bookmarks = r.bookmarks;
      last = r.last;
      gone = r.gone;
      popped = r.popped;
    })
    (written s.room f 0 r.events) (sets s.opens 0 r.opens))

-- Refusal 24, test by test: E and D as at opening; the front below E, unless E is 0; events and open nodes within E; open nodes within D;
-- the last open place before the end of the events, and a Begin there.
abbrev pub inner_place : State → ℕ
inner_place s = get_or s.opens (s.stream.opened - 1) 0

abbrev pub begins : State → ℕ → Bool
begins s p = ltb p s.stream.count && eqb (read s.room (slot_of s.stream.slots s.stream.front p)).tag begin_tag

abbrev pub tests : State → List Bool
tests s =
    let t = s.stream in
    eqb t.slots (slots_in (length s.room))
    ∷ eqb t.places (length s.opens)
    ∷ (eqb t.slots 0 || ltb t.front.0 t.slots)
    ∷ leb (t.count + t.opened) t.slots
    ∷ leb t.opened t.places
    ∷ (eqb t.opened 0 || begins s (inner_place s))
    ∷ []

unfoldable pub sound : State → Bool
unfolding read
sound s = each (λ b. b) (tests s)

-- A call: 24 comes before all, then the call's own grounds; else the rooms hold the list that the call leaves.
unfoldable pub answered : Call → State → Reply State
unfolding grounds view laid taken
answered c s = unless refused (grounds c (view s)) s (laid s (taken c (view s)))

unfoldable pub step : Call → State → Reply State
unfolding sound answered
step c s = unless refused ((not (sound s), 24) ∷ []) s (answered c s)

-- The code's answers in document 01's values, with the stream given back and the rooms.
abbrev pub told_by : {T : Type 0} → (T → Answer) → Result T Refusal → Answer
told_by f (Ok x) = f x
told_by f (Err n) = refused (number_of n)

abbrev pub popped : Option Event → Answer
popped (Some y) = event y
popped None = none

abbrev pub done_told : Result Unit Refusal → Answer
done_told r = told_by (λ u. done) r

abbrev pub position_told : Result Position Refusal → Answer
position_told r = told_by position r

abbrev pub event_told : Result (Option Event) Refusal → Answer
event_told r = told_by popped r

abbrev pub done_reply : Given Unit Stream → List ℕ → List ℕ → Reply State
done_reply g room opens = reply (done_told g.answer) (state g.after room opens)

abbrev pub position_reply : Given Position Stream → List ℕ → List ℕ → Reply State
position_reply g room opens = reply (position_told g.answer) (state g.after room opens)

abbrev pub event_reply : Given (Option Event) Stream → List ℕ → List ℕ → Reply State
event_reply g room opens = reply (event_told g.answer) (state g.after room opens)
