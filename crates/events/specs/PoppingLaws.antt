-- What a pop answers, branch by branch of the code. Nothing is to be stored: from the next slot on there stand the events behind the first.
-- Assumes nothing.
use Rattle.std.specs.Prelude.{ℕ, zero, suc, ◌+◌, ◌-◌, ◌≤◌, ◌<◌, ◌≡◌, true, false, ◌||◌, length, leb}
use Rattle.std.proofs.Math.Path.{refl, ap}
use Rattle.std.proofs.Common.{sym, ◌∙◌, arith}
use mathlib.Core.List.{List, ◌∷◌}
use Rattle.rooms.specs.declared.Slot.{Slot}
use Rattle.rooms.proofs.Stores.{sets_take}
use Rattle.event_record.specs.declared.Event.{Event}
use Rattle.event_record.specs.Record.{pop, none, event, refused, reply, last_token, holding, passed, first_popped}
use Rattle.event_room.specs.Room.{slots_in, slot_in, read, listed}
use Rattle.event_room.specs.RingLaws.{slot_first, length_listed, listed_turned, written_listed}
use Rattle.events.specs.Stream.{State, view, laid, answered}
use Rattle.events.specs.Parts.{slot_at}
use Rattle.events.specs.SoundLaws.{Fit}
use Rattle.events.specs.HoldLaws.{front, laid_as, unstored, opened_inside, front_slot, count_inside, view_opened}
use Rattle.events.specs.PoppingParts.{gone_after, first_of, pop_left}

-- the first event, and those behind it
listed_first : (room : List ℕ) (f : Slot) (i n : ℕ) → 0 < n → listed room f i n ≡ read room (slot_in room f i) ∷ listed room f (i + 1) (n - 1)
unfolding listed
listed_first room f i zero h = absurd (omega arith)
listed_first room f i (suc n) h = let e : suc n - 1 ≡ n = omega arith in rw e

module _ (s : State) (k : Fit s) where
  -- the first event gone, if there is one
  first_event : 0 < s.stream.count → (view s).events ≡ first_of s ∷ listed s.room (front s) 1 (s.stream.count - 1)
  unfolding view
  first_event h =
      listed_first s.room (front s) 0 s.stream.count h
      ∙ ap (λ (u : Slot). read s.room u ∷ listed s.room (front s) 1 (s.stream.count - 1)) (slot_first (slots_in (length s.room)) (front s) (front_slot s k h))

  pop_held : 0 < s.stream.count → reply (event (first_of s)) (pop_left s) ≡ laid s (first_popped (view s).events (view s))
  unfolding view last_token
  pop_held h =
      let y = first_of s in
      let n = s.stream.count - 1 in
      let es = listed s.room (front s) 1 n in
      let l : 0 + 1 + n ≤ slots_in (length s.room) = omega (arith, (count_inside s k)) in
      let turned : listed s.room (slot_at s.stream 1) 0 n ≡ es = rw k.slots_same (listed_turned s.room (front s) 0 n (front_slot s k h) l) in
      laid_as s (event y) (holding es (view s).opens (passed (gone_after y s.stream.gone) (view s))) (slot_at s.stream 1) n s.stream.opened s.room s.opens
      refl (sym (length_listed s.room (front s) 1 n)) (sym (view_opened s k)) (rw (← turned) (sym (written_listed s.room (slot_at s.stream 1) 0 n)))
      (sym (sets_take s.opens s.stream.opened (opened_inside s k)))
      ∙ ap (λ (l : List Event). laid s (first_popped l (view s))) (sym (first_event h))

  none_held : s.stream.count ≡ 0 → reply none s ≡ laid s (first_popped (view s).events (view s))
  unfolding view
  none_held e =
      unstored s none (view s) s.stream.count s.stream.opened refl refl refl (opened_inside s k)
      ∙ ap (λ (n : ℕ). laid s (first_popped (listed s.room (front s) 0 n) (view s))) (sym e)

  unsettled : (leb 1 (view s).bookmarks || leb 1 (length (view s).opens)) ≡ (leb 1 s.stream.bookmarks || leb 1 s.stream.opened)
  unfolding view
  unsettled = rw (view_opened s k)

  pub not_settled : (leb 1 s.stream.bookmarks || leb 1 s.stream.opened) ≡ true → reply (refused 9) s ≡ answered pop s
  unfolding answered
  not_settled e = rw (unsettled ∙ e)

  pub nothing_popped : (leb 1 s.stream.bookmarks || leb 1 s.stream.opened) ≡ false → s.stream.count ≡ 0
      → reply none s ≡ answered pop s
  unfolding answered
  nothing_popped e h = rw (unsettled ∙ e) (none_held h)

  pub first_gone : (leb 1 s.stream.bookmarks || leb 1 s.stream.opened) ≡ false → 0 < s.stream.count
      → reply (event (first_of s)) (pop_left s) ≡ answered pop s
  unfolding answered
  first_gone e h = rw (unsettled ∙ e) (pop_held h)
