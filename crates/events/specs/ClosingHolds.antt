-- How the stores of the code lay a list with a node closed or dropped: an End is two writes. By the laws of the ring, at the positions that
-- change. Assumes nothing.
use Rattle.std.specs.Prelude.{ℕ, ◌+◌, ◌-◌, ◌≤◌, ◌<◌, ◌≡◌, [], ◌∷◌, ◌++◌, take}
use Rattle.std.proofs.Math.Path.{refl}
use Rattle.std.proofs.Common.{sym, ◌∙◌, zero-add, length-take-le, get_or-take, take-take}
use native.Mathlib.Omega.{arith}
use Rattle.std.proofs.Math.ListN.{length, set, length-set, length-append}
use Rattle.rooms.proofs.Stores.{sets_take}
use Rattle.event_record.specs.declared.Event.{Event}
use Rattle.event_record.specs.Record.{done, reply, event_of, span, begin_tag, end_tag}
use Rattle.event_record.specs.Record.{holding, inner, inner_event, outer, ended, dropped}
use Rattle.event_room.specs.Room.{slots_in, write, written}
use Rattle.event_room.specs.RoomLaws.{length_write}
use Rattle.event_room.specs.RingLaws.{listed_take, listed_get, written_set}
use Rattle.events.specs.Stream.{State, view, laid, inner_place}
use Rattle.events.specs.Parts.{slot_at, event_at}
use Rattle.events.specs.SoundLaws.{Fit}
use Rattle.events.specs.HoldLaws.{front, laid_as, unstored, one_written, opened_inside, front_slot, count_inside, view_count, view_opened}
use Rattle.events.specs.ClosingParts.{end_left, drop_left}

module _ (s : State) (k : Fit s) where
  pub view_inner : 0 < s.stream.opened → inner (view s) ≡ inner_place s
  unfolding view
  view_inner o = rw (view_opened s k) (get_or-take s.stream.opened s.opens (s.stream.opened - 1) 0 (omega arith))

  pub view_inner_event : 0 < s.stream.opened → inner_event (view s) ≡ event_at s.stream s.room (inner_place s)
  unfolding view
  view_inner_event o =
      rw (view_inner o, k.slots_same)
      (rw (zero-add (inner_place s)) at
      (listed_get s.room (front s) 0 s.stream.count (inner_place s) (event_of 0 0 (span 0 0)) (k.inner_inside o)))

  -- a node closed, or dropped: the open places before it are left
  outer_opens : outer (view s) ≡ take (s.stream.opened - 1) s.opens
  unfolding view
  outer_opens = rw (view_opened s k) (take-take (s.stream.opened - 1) s.stream.opened s.opens (omega arith))

  outer_inside : s.stream.opened - 1 ≤ length s.opens
  outer_inside = omega (arith, opened_inside s k)

  room_changed : (p : ℕ) (y : Event) → p < s.stream.count → write s.room (slot_at s.stream p) y ≡ written s.room (front s) 0 (set (view s).events p y)
  unfolding view
  room_changed p y h =
      let f : (front s).0 < slots_in (length s.room) = front_slot s k (omega arith) in
      let l : 0 + s.stream.count ≤ slots_in (length s.room) = omega (arith, count_inside s k) in
      rw k.slots_same (sym (rw (zero-add p) at (written_set s.room (front s) 0 s.stream.count p y f l h)))

  pub end_held : (kind : ℕ) → 0 < s.stream.opened → reply done (end_left kind s) ≡ laid s (reply done (ended kind (view s)))
  unfolding view
  end_held kind o =
      let p = inner_place s in
      let x = span (event_at s.stream s.room p).span.start.0 s.stream.last.end.0 in
      let y = event_of begin_tag kind x in
      let z = event_of end_tag kind x in
      let es = set (view s).events p y in
      let room = write s.room (slot_at s.stream p) y in
      let n : length es ≡ s.stream.count = length-set (view s).events p y ∙ view_count s k in
      let e : s.stream.slots ≡ slots_in (length room) = rw (length_write s.room (slot_at s.stream p) y) k.slots_same in
      rw (view_inner_event o, view_inner o, outer_opens)
      (laid_as s done (holding (es ++ (z ∷ [])) (take (s.stream.opened - 1) s.opens) (view s)) (front s) (s.stream.count + 1) (s.stream.opened - 1)
      (write room (slot_at s.stream s.stream.count) z) s.opens refl (omega (arith, length-append es (z ∷ [])))
      (sym (length-take-le (s.stream.opened - 1) s.opens outer_inside))
      (one_written s.room room (front s) s.stream.slots s.stream.count es z e n (room_changed p y (k.inner_inside o)))
      (sym (sets_take s.opens (s.stream.opened - 1) outer_inside)))

  pub drop_held : 0 < s.stream.opened → inner_place s + 1 ≡ s.stream.count → reply done (drop_left s) ≡ laid s (reply done (dropped (view s)))
  unfolding view
  drop_held o e =
      let p = inner_place s in
      let n : s.stream.count - 1 ≡ p = omega arith in
      unstored s done (dropped (view s)) p (s.stream.opened - 1) refl (rw (view_count s k, n) (listed_take s.room (front s) 0 s.stream.count p (omega arith)))
      outer_opens outer_inside
