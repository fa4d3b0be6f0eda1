-- Laws of single slots: what four stores or loads come to, that an event written is read there and nowhere else, and that writing what
-- stands there changes nothing. A slot below E has its four numbers inside the room, and two slots share none. Assumes nothing.
use Prim.Native.Nat.{ℕ, suc, ◌+◌, ◌*◌, ◌≤◌, ◌<◌}
use Rattle.std.specs.Prelude.{◌≡◌, refl, List, [], ◌∷◌, length, get_or, set, ltb}
use Rattle.std.proofs.Common.{ap, ◌∙◌, add-zero}
use Rattle.std.proofs.Math.Path.{sym}
use native.Mathlib.Omega.{arith}
use borrow.Author.Tests.{lt-ltb, le-ltb, ltb-true, ltb-false}
use Rattle.std.proofs.lemmas.List.{set-get_or}
use Rattle.std.proofs.Math.Seq.{length-sets}
use Rattle.patterns.proofs.Bools.{by_test}
use Rattle.rooms.specs.declared.Slot.{Slot}
use Rattle.rooms.specs.Slots.{Layout}
use Rattle.rooms.proofs.Slots.{slot_same, slot_other}
use Rattle.event_record.specs.declared.Event.{Event}
use Rattle.event_record.specs.Record.{span, event_of}
use Rattle.event_room.specs.Room.{width, numbers, from_numbers, slots_in, slot_in, write_at, read_at, write, read, written}

-- four stores are an event written, and four loads are one read
module _ (room : List ℕ) (s : Slot) where
  abbrev first : ℕ
  first = s.0 * width

  pub stored : (y : Event)
      → set (set (set (set room first y.tag) (first + 1) y.kind) (first + 2) y.span.start.0) (first + 3) y.span.end.0
      ≡ write_at room s y
  unfolding write_at
  stored y =
      let a : first + 1 ≡ suc first = omega arith in
      let b : first + 2 ≡ suc (suc first) = omega arith in
      let d : first + 3 ≡ suc (suc (suc first)) = omega arith in
      rw (a, b, d)

  pub loaded : event_of (get_or room first 0) (get_or room (first + 1) 0) (span (get_or room (first + 2) 0) (get_or room (first + 3) 0)) ≡ read_at room s
  unfolding read_at
  loaded = let e : first + 0 ≡ first = omega arith in rw e

  stored_again : write_at room s (read_at room s) ≡ room
  unfolding read_at
  stored_again = sym (stored (read_at room s)) ∙ simp (add-zero, set-get_or)

-- in a room with n slots: the slot s is inside, or nothing is written and zeros are read
module _ (room : List ℕ) (s : Slot) {n : ℕ} (e : n ≡ slots_in (length room)) where
  module _ (h : s.0 < n) where
    slot_fits : s.0 * width + width ≤ length room
    slot_fits = omega arith

    pub write_inside : (y : Event) → write_at room s y ≡ write room s y
    unfolding write
    write_inside y = rw (← e, lt-ltb s.0 n h)

    pub read_inside : read_at room s ≡ read room s
    unfolding read
    read_inside = rw (← e, lt-ltb s.0 n h)

  module _ (h : n ≤ s.0) where
    pub write_outside : (y : Event) → room ≡ write room s y
    unfolding write
    write_outside y = rw (← e, le-ltb s.0 n h)

    pub read_outside : event_of 0 0 (span 0 0) ≡ read room s
    unfolding read
    read_outside = rw (← e, le-ltb s.0 n h)

-- a slot is inside or outside
either : {A : Type 0} (room : List ℕ) (s : Slot) → (s.0 < slots_in (length room) → A) → (slots_in (length room) ≤ s.0 → A) → A
either room s f g =
    let e = slots_in (length room) in
    by_test (ltb s.0 e) (λ t. f (ltb-true s.0 e t)) (λ t. g (ltb-false s.0 e t))

pub length_write : (room : List ℕ) (s : Slot) (y : Event) → length (write room s y) ≡ length room
unfolding write
length_write room s y =
    by_test (ltb s.0 (slots_in (length room))) (λ e. rw e (length-sets room (s.0 * width) (numbers y))) (λ e. rw e)

pub length_written : (room : List ℕ) (f : Slot) (i : ℕ) (ys : List Event) → length (written room f i ys) ≡ length room
unfolding written
length_written room f i [] = refl
length_written room f i (y ∷ ys) =
    length_written (write room (slot_in room f i) y) f (i + 1) ys ∙ length_write room (slot_in room f i) y

-- an event is its four numbers
layout : Layout width numbers from_numbers
layout =
    record {
      sized = λ y. refl;
      back = λ y. refl;
      same = λ f g h. rw (h 0 (omega arith), h 1 (omega arith), h 2 (omega arith), h 3 (omega arith));
      apart = λ s u i j h k e. omega (arith, e);
    }

-- a room has its slots still when an event was written
same_slots : (room : List ℕ) (s : Slot) (y : Event) → slots_in (length room) ≡ slots_in (length (write room s y))
same_slots room s y = ap slots_in (sym (length_write room s y))

pub read_same : (room : List ℕ) (s : Slot) (y : Event) → s.0 < slots_in (length room) → read (write room s y) s ≡ y
unfolding read_at write_at
read_same room s y h =
    sym (read_inside (write room s y) s (same_slots room s y) h)
    ∙ rw (← write_inside room s refl h y) (slot_same layout room s.0 y (slot_fits room s refl h))

read_apart : (room : List ℕ) (s u : Slot) (y : Event) → s.0 < slots_in (length room) → (u.0 ≡ s.0 → ⊥) → read (write room s y) u ≡ read room u
unfolding read_at write_at
read_apart room s u y h d =
    let e = same_slots room s y in
    either room u
    (λ k. sym (read_inside (write room s y) u e k) ∙ rw (← write_inside room s refl h y) (slot_other layout room s.0 y u.0 d) ∙ read_inside room u refl k)
    (λ k. sym (read_outside (write room s y) u e k) ∙ read_outside room u refl k)

pub read_other : (room : List ℕ) (s u : Slot) (y : Event) → (u.0 ≡ s.0 → ⊥) → read (write room s y) u ≡ read room u
read_other room s u y d = either room s (λ h. read_apart room s u y h d) (λ h. rw (← write_outside room s refl h y))

pub write_read : (room : List ℕ) (s : Slot) → write room s (read room s) ≡ room
write_read room s =
    either room s
    (λ h. sym (write_inside room s refl h (read room s)) ∙ rw (← read_inside room s refl h) (stored_again room s))
    (λ h. sym (write_outside room s refl h (read room s)))
