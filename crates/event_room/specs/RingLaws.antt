-- Laws of the ring: positions below E have slots of their own, inside the room, so events written one after the other are read back in
-- order, and what is written at one position leaves the others. By induction on the events. Assumes nothing.
use Prim.Native.Nat.{ℕ, zero, suc, ◌+◌, ◌-◌, ◌≤◌, ◌<◌}
use Rattle.std.specs.Prelude.{◌≡◌, List, [], ◌∷◌, ◌++◌, length, get_or, set, take, drop, ltb}
use Rattle.std.proofs.Math.Path.{refl, ap}
use Rattle.std.proofs.Common.{sym, ◌∙◌, add-zero, suc-add, arith, lt-ltb, le-ltb, ltb-true, ltb-false}
use Rattle.std.proofs.Math.Nat.{sub-zero, zero-sub, suc-sub-suc}
use Rattle.patterns.proofs.Bools.{by_test}
use Rattle.rooms.specs.declared.Slot.{Slot}
use Rattle.event_record.specs.declared.Event.{Event}
use Rattle.event_room.specs.Room.{slots_in, slot_of, slot_in, write, read, listed, written}
use Rattle.event_room.specs.RoomLaws.{length_write, length_written, read_same, read_other, write_read}

-- the slot of a position, where n slots lie from the front on: before the ring's end, and behind it
module _ (e : ℕ) (f : Slot) (i : ℕ) {n : ℕ} (q : n ≡ e - f.0) where
  pub slot_ahead : i < n → slot_of e f i ≡ record { 0 = f.0 + i }
  slot_ahead h = rw (← q, lt-ltb i n h)

  pub slot_behind : n ≤ i → slot_of e f i ≡ record { 0 = i - n }
  slot_behind h = rw (← q, le-ltb i n h)

module _ (e : ℕ) (f : Slot) (i : ℕ) where
  ahead : i < e - f.0 → (slot_of e f i).0 ≡ f.0 + i
  ahead h = ap (λ s. s.0) (slot_ahead e f i refl h)

  behind : e - f.0 ≤ i → (slot_of e f i).0 ≡ i - (e - f.0)
  behind h = ap (λ s. s.0) (slot_behind e f i refl h)

  by_place : {A : Type 0} → (i < e - f.0 → (slot_of e f i).0 ≡ f.0 + i → A) → (e - f.0 ≤ i → (slot_of e f i).0 ≡ i - (e - f.0) → A) → A
  by_place x y =
      by_test (ltb i (e - f.0)) (λ t. let h = ltb-true i (e - f.0) t in x h (ahead h))
      (λ t. let h = ltb-false i (e - f.0) t in y h (behind h))

pub slot_inside : (e : ℕ) (f : Slot) (i : ℕ) → f.0 < e → i ≤ e → (slot_of e f i).0 < e
slot_inside e f i h k = by_place e f i (λ p q. omega (arith, q)) (λ p q. omega (arith, q))

pub slots_apart : (e : ℕ) (f : Slot) (i j : ℕ) → f.0 < e → i < e → j < e → (i ≡ j → ⊥) → (slot_of e f i).0 ≡ (slot_of e f j).0 → ⊥
slots_apart e f i j h k l d g =
    by_place e f i
    (λ p q. by_place e f j (λ r s. d (omega (arith, g, q, s))) (λ r s. omega (arith, g, q, s)))
    (λ p q. by_place e f j (λ r s. omega (arith, g, q, s)) (λ r s. d (omega (arith, g, q, s))))

-- a slot is its number
same_slot : (s u : Slot) → s.0 ≡ u.0 → s ≡ u
same_slot s u h = ap (λ (n : ℕ). record { 0 = n }) h

pub slot_first : (e : ℕ) (f : Slot) → f.0 < e → slot_of e f 0 ≡ f
slot_first e f h = same_slot (slot_of e f 0) f (ahead e f 0 (omega arith) ∙ add-zero f.0)

-- the front moved on by one slot, to the next or round the end
module _ (e : ℕ) (f : Slot) (i : ℕ) (h : f.0 < e) (k : i + 1 ≤ e) where
  abbrev next : Slot
  next = slot_of e f 1

  turned_ahead : 1 < e - f.0 → next.0 ≡ f.0 + 1 → (slot_of e next i).0 ≡ (slot_of e f (i + 1)).0
  turned_ahead a b =
      by_place e next i
      (λ p q. let r = ahead e f (i + 1) (omega (arith, b)) in omega (arith, b, q, r))
      (λ p q. let r = behind e f (i + 1) (omega (arith, b)) in omega (arith, b, q, r))

  turned_round : e - f.0 ≤ 1 → next.0 ≡ 1 - (e - f.0) → (slot_of e next i).0 ≡ (slot_of e f (i + 1)).0
  turned_round a b =
      let q = ahead e next i (omega (arith, b)) in
      let r = behind e f (i + 1) (omega arith) in
      omega (arith, b, q, r)

pub slot_turned : (e : ℕ) (f : Slot) (i : ℕ) → f.0 < e → i + 1 ≤ e → slot_of e (slot_of e f 1) i ≡ slot_of e f (i + 1)
slot_turned e f i h k =
    same_slot (slot_of e (slot_of e f 1) i) (slot_of e f (i + 1)) (by_place e f 1 (turned_ahead e f i h k) (turned_round e f i h k))

pub length_listed : (room : List ℕ) (f : Slot) (i n : ℕ) → length (listed room f i n) ≡ n
unfolding listed
length_listed room f i zero = refl
length_listed room f i (suc n) = ap suc (length_listed room f (i + 1) n)

-- parts of the events that are listed
pub listed_more : (room : List ℕ) (f : Slot) (i n : ℕ)
    → listed room f i (n + 1) ≡ listed room f i n ++ (read room (slot_in room f (i + n)) ∷ [])
unfolding listed
listed_more room f i zero = ap (λ j. read room (slot_in room f j) ∷ []) (sym (add-zero i))
listed_more room f i (suc n) =
    let e : i + suc n ≡ i + 1 + n = omega arith in
    rw (suc-add, e) (ap (λ l. read room (slot_in room f i) ∷ l) (listed_more room f (i + 1) n))

pub listed_take : (room : List ℕ) (f : Slot) (i n p : ℕ) → p ≤ n → take p (listed room f i n) ≡ listed room f i p
unfolding listed
listed_take room f i n zero h = refl
listed_take room f i zero (suc p) h = absurd (omega arith)
listed_take room f i (suc n) (suc p) h = ap (λ l. read room (slot_in room f i) ∷ l) (listed_take room f (i + 1) n p (omega arith))

pub listed_drop : (room : List ℕ) (f : Slot) (i n p : ℕ) → drop p (listed room f i n) ≡ listed room f (i + p) (n - p)
unfolding listed
listed_drop room f i n zero = rw (add-zero, sub-zero)
listed_drop room f i zero (suc p) = rw zero-sub
listed_drop room f i (suc n) (suc p) =
    let e : i + suc p ≡ i + 1 + p = omega arith in
    rw (e, suc-sub-suc) (listed_drop room f (i + 1) n p)

pub listed_get : (room : List ℕ) (f : Slot) (i n p : ℕ) (d : Event) → p < n → get_or (listed room f i n) p d ≡ read room (slot_in room f (i + p))
unfolding listed
listed_get room f i zero p d h = absurd (omega arith)
listed_get room f i (suc n) zero d h = ap (λ j. read room (slot_in room f j)) (sym (add-zero i))
listed_get room f i (suc n) (suc p) d h =
    let e : i + suc p ≡ i + 1 + p = omega arith in
    rw e (listed_get room f (i + 1) n p d (omega arith))

-- the front moved on by one
pub listed_turned : (room : List ℕ) (f : Slot) (i n : ℕ) → f.0 < slots_in (length room) → i + 1 + n ≤ slots_in (length room)
    → listed room (slot_in room f 1) i n ≡ listed room f (i + 1) n
unfolding listed
listed_turned room f i zero h k = refl
listed_turned room f i (suc n) h k =
    ap (λ s. read room s ∷ listed room (slot_in room f 1) (i + 1) n) (slot_turned (slots_in (length room)) f i h (omega arith))
    ∙ ap (λ l. read room (slot_in room f (i + 1)) ∷ l) (listed_turned room f (i + 1) n h (omega arith))

pub written_append : (room : List ℕ) (f : Slot) (i : ℕ) (xs ys : List Event)
    → written room f i (xs ++ ys) ≡ written (written room f i xs) f (i + length xs) ys
unfolding written
written_append room f i [] ys = rw add-zero
written_append room f i (x ∷ xs) ys =
    let e : i + suc (length xs) ≡ i + 1 + length xs = omega arith in
    rw e (written_append (write room (slot_in room f i) x) f (i + 1) xs ys)

pub written_listed : (room : List ℕ) (f : Slot) (i n : ℕ) → written room f i (listed room f i n) ≡ room
unfolding listed written
written_listed room f i zero = refl
written_listed room f i (suc n) =
    ap (λ w. written w f (i + 1) (listed room f (i + 1) n)) (write_read room (slot_in room f i)) ∙ written_listed room f (i + 1) n

-- what is written at a position leaves the others
module _ (room : List ℕ) (f : Slot) (h : f.0 < slots_in (length room)) where
  read_elsewhere : (i j : ℕ) (y : Event) → i < slots_in (length room) → j < slots_in (length room) → (j ≡ i → ⊥)
      → read (write room (slot_in room f i) y) (slot_in room f j) ≡ read room (slot_in room f j)
  read_elsewhere i j y k l d =
      read_other room (slot_in room f i) (slot_in room f j) y (slots_apart (slots_in (length room)) f j i h l k d)

  listed_behind : (i j n : ℕ) (y : Event) → i < j → j + n ≤ slots_in (length room)
      → listed (write room (slot_in room f i) y) f j n ≡ listed room f j n
  unfolding listed
  listed_behind i j zero y k l = refl
  listed_behind i j (suc n) y k l =
      let w = write room (slot_in room f i) y in
      ap (λ m. read w (slot_of (slots_in m) f j) ∷ listed w f (j + 1) n) (length_write room (slot_in room f i) y)
      ∙ ap (λ z. z ∷ listed w f (j + 1) n) (read_elsewhere i j y (omega arith) (omega arith) (λ e. omega (arith, e)))
      ∙ ap (λ l. read room (slot_in room f j) ∷ l) (listed_behind i (j + 1) n y (omega arith) (omega arith))

read_before : (room : List ℕ) (f : Slot) (i j : ℕ) (ys : List Event) → f.0 < slots_in (length room) → j < i → i + length ys ≤ slots_in (length room)
    → read (written room f i ys) (slot_in room f j) ≡ read room (slot_in room f j)
unfolding written
read_before room f i j [] h k l = refl
read_before room f i j (y ∷ ys) h k l =
    let n = length_write room (slot_in room f i) y in
    rw n at (read_before (write room (slot_in room f i) y) f (i + 1) j ys (rw n h) (omega arith) (rw n (omega arith)))
    ∙ read_elsewhere room f h i j y (omega arith) (omega arith) (λ e. omega (arith, e))

pub written_set : (room : List ℕ) (f : Slot) (i n p : ℕ) (y : Event) → f.0 < slots_in (length room) → i + n ≤ slots_in (length room) → p < n
    → written room f i (set (listed room f i n) p y) ≡ write room (slot_in room f (i + p)) y
unfolding listed written
written_set room f i zero p y h k l = absurd (omega arith)
written_set room f i (suc n) zero y h k l =
    let w = write room (slot_in room f i) y in
    ap (λ ys. written w f (i + 1) ys) (sym (listed_behind room f h i (i + 1) n y (omega arith) (omega arith)))
    ∙ written_listed w f (i + 1) n
    ∙ ap (λ j. write room (slot_in room f j) y) (sym (add-zero i))
written_set room f i (suc n) (suc p) y h k l =
    let e : i + suc p ≡ i + 1 + p = omega arith in
    ap (λ w. written w f (i + 1) (set (listed room f (i + 1) n) p y)) (write_read room (slot_in room f i))
    ∙ written_set room f (i + 1) n p y h (omega arith) (omega arith)
    ∙ ap (λ j. write room (slot_in room f j) y) (sym e)

-- the first of some that are written is read where it stands
read_first : (room : List ℕ) (f : Slot) (i : ℕ) (y : Event) (ys : List Event) → f.0 < slots_in (length room) → i + 1 + length ys ≤ slots_in (length room)
    → read (written room f i (y ∷ ys)) (slot_in room f i) ≡ y
unfolding written
read_first room f i y ys h k =
    let n = length_write room (slot_in room f i) y in
    rw n at (read_before (write room (slot_in room f i) y) f (i + 1) i ys (rw n h) (omega arith) (rw n k))
    ∙ read_same room (slot_in room f i) y (slot_inside (slots_in (length room)) f i h (omega arith))

pub listed_written : (room : List ℕ) (f : Slot) (i : ℕ) (ys : List Event)
    → (0 < length ys → f.0 < slots_in (length room)) → i + length ys ≤ slots_in (length room)
    → listed (written room f i ys) f i (length ys) ≡ ys
unfolding listed written
listed_written room f i [] h k = refl
listed_written room f i (y ∷ ys) h k =
    let n = length_write room (slot_in room f i) y in
    let v = written room f i (y ∷ ys) in
    let g = h (omega arith) in
    ap (λ m. read v (slot_of (slots_in m) f i) ∷ listed v f (i + 1) (length ys)) (length_written room f i (y ∷ ys))
    ∙ ap (λ z. z ∷ listed v f (i + 1) (length ys)) (read_first room f i y ys g (omega arith))
    ∙ ap (λ l. y ∷ l) (listed_written (write room (slot_in room f i) y) f (i + 1) ys (λ _. rw n g) (rw n (omega arith)))
