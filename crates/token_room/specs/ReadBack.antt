-- The last W tokens written, W being the number of slots, are read back: indexes fewer than W apart have different slots, and a store
-- into one slot leaves the others. And to write on where writing stopped is to write all at once. Assumes nothing.
use Rattle.std.specs.Prelude.{ℕ, zero, suc, ◌+◌, ◌-◌, ◌%◌, ◌<◌, ◌≤◌, ◌≡◌, refl, List, [], ◌∷◌, ◌++◌, length, get_or, ltb}
use Rattle.std.proofs.Common.{ap, sym, ◌∙◌, arith, add-zero, zero-add, mod-lt, mod-eq_of_lt, ltb-true, ltb-false}
use Rattle.std.proofs.Math.Nat.{mod-add-mod, mod-eq-sub-mod}
use Rattle.patterns.proofs.Bools.{by_test}
use Rattle.rooms.specs.Slots.{Layout}
use Rattle.rooms.proofs.Slots.{slot_same, slot_other}
use Rattle.tokens.specs.declared.Token.{Token}
use Rattle.tokens.specs.Scan.{token}
use Rattle.token_room.specs.Room.{width, numbers, from_numbers, slots_in, slot_of, write_at, read_at, write, read, nth, write_all}
use Rattle.token_room.specs.RoomLaws.{write_slot, read_slot, length_write}

-- indexes fewer than w apart have different slots
module _ (w i j : ℕ) (h : i < j) (d : j < i + w) (e : i % w ≡ j % w) where
  abbrev sum : ℕ
  sum = i % w + (j - i)

  same_slot : sum % w ≡ i % w
  same_slot = let p : i + (j - i) ≡ j = omega arith in mod-add-mod i w (j - i) ∙ ap (λ (n : ℕ). n % w) p ∙ sym e

  not_under : sum < w → ⊥
  not_under l = let m : sum % w ≡ sum = mod-eq_of_lt l in omega (arith, same_slot, m)

  not_over : w ≤ sum → ⊥
  not_over l =
      let a : i % w < w = mod-lt i (omega arith) in
      let m : sum % w ≡ (sum - w) % w = mod-eq-sub-mod l in
      let n : (sum - w) % w ≡ sum - w = mod-eq_of_lt (omega arith) in
      omega (arith, same_slot, m, n)

  slots_differ : ⊥
  slots_differ = by_test (ltb sum w) (λ b. not_under (ltb-true sum w b)) (λ b. not_over (ltb-false sum w b))

-- a token is its three numbers
layout : Layout width numbers from_numbers
layout =
    record {
      sized = λ x. refl;
      back = λ x. refl;
      same = λ f g h. rw (h 0 (omega arith), h 1 (omega arith), h 2 (omega arith));
      apart = λ s u i j h k e. omega (arith, e);
    }

read_same : (room : List ℕ) (i : ℕ) (x : Token) → 1 ≤ slots_in (length room) → read (write room (nth i) x) (nth i) ≡ x
unfolding read_at write_at
read_same room i x h =
    let w = slots_in (length room) in
    let n : length (write room (nth i) x) ≡ length room = length_write room (nth i) x in
    let b : i % w < w = mod-lt i (omega arith) in
    sym (read_slot (write room (nth i) x) (nth i) refl (rw n h) refl)
    ∙ rw (n, ← write_slot room (nth i) refl h refl x) (slot_same layout room (slot_of (nth i) w).0 x (omega arith))

read_other : (room : List ℕ) (i j : ℕ) (x : Token) → i < j → j < i + slots_in (length room) → read (write room (nth j) x) (nth i) ≡ read room (nth i)
unfolding read_at write_at
read_other room i j x d g =
    let w = slots_in (length room) in
    let h : 1 ≤ w = omega arith in
    let n : length (write room (nth j) x) ≡ length room = length_write room (nth j) x in
    sym (read_slot (write room (nth j) x) (nth i) refl (rw n h) refl)
    ∙ rw (n, ← write_slot room (nth j) refl h refl x) (slot_other layout room (slot_of (nth j) w).0 x (slot_of (nth i) w).0 (slots_differ w i j d g))
    ∙ read_slot room (nth i) refl h refl

-- tokens behind index i, and not so many that its slot comes again
read_before : (room : List ℕ) (i j : ℕ) (xs : List Token) → i < j → j + length xs ≤ i + slots_in (length room)
    → read (write_all room j xs) (nth i) ≡ read room (nth i)
unfolding write_all
read_before room i j [] d g = refl
read_before room i j (x ∷ xs) d g =
    let n : length (write room (nth j) x) ≡ length room = length_write room (nth j) x in
    read_before (write room (nth j) x) i (j + 1) xs (omega arith) (rw n (omega arith)) ∙ read_other room i j x d (omega arith)

-- the one at i of those written from j on, where not more follow it than there are other slots
read_written : (room : List ℕ) (j i : ℕ) (xs : List Token) → i < length xs → length xs ≤ i + slots_in (length room)
    → read (write_all room j xs) (nth (j + i)) ≡ get_or xs i (token 0 0 0)
unfolding write_all
read_written room j i [] h g = absurd (omega arith)
read_written room j zero (x ∷ xs) h g =
    let n : length (write room (nth j) x) ≡ length room = length_write room (nth j) x in
    rw add-zero (read_before (write room (nth j) x) j (j + 1) xs (omega arith) (rw n (omega arith)) ∙ read_same room j x (omega arith))
read_written room j (suc i) (x ∷ xs) h g =
    let n : length (write room (nth j) x) ≡ length room = length_write room (nth j) x in
    let e : j + suc i ≡ j + 1 + i = omega arith in
    rw e (read_written (write room (nth j) x) (j + 1) i xs (omega arith) (rw n (omega arith)))

pub read_back : (room : List ℕ) (i : ℕ) (xs : List Token) → i < length xs → length xs ≤ i + slots_in (length room)
    → read (write_all room 0 xs) (nth i) ≡ get_or xs i (token 0 0 0)
read_back room i xs h g = rw zero-add at (read_written room 0 i xs h g)

write_from : (room : List ℕ) (i : ℕ) (xs ys : List Token) → write_all (write_all room i xs) (i + length xs) ys ≡ write_all room i (xs ++ ys)
unfolding write_all
write_from room i [] ys = rw add-zero
write_from room i (x ∷ xs) ys =
    let e : i + suc (length xs) ≡ i + 1 + length xs = omega arith in
    rw e (write_from (write room (nth i) x) (i + 1) xs ys)

pub write_on : (room : List ℕ) (xs ys : List Token) → write_all (write_all room 0 xs) (length xs) ys ≡ write_all room 0 (xs ++ ys)
write_on room xs ys = rw zero-add at (write_from room 0 xs ys)
