-- Laws of the lent room: each slot is inside it, what single stores and loads of a slot come to, and that writing changes no length.
-- A slot is below W, and W slots have at most the room's numbers. Assumes nothing.
use Prim.Native.Nat.{ℕ, suc, ◌+◌, ◌*◌, ◌≤◌, ◌<◌}
use Rattle.std.specs.Prelude.{◌≡◌, refl, List, [], ◌∷◌, length, get_or, set, leb}
use Rattle.std.proofs.Common.{◌∙◌, mod-lt}
use native.Mathlib.Omega.{arith}
use borrow.Author.Tests.{le-leb, lt-leb}
use Rattle.std.proofs.Math.Seq.{length-sets}
use Rattle.patterns.proofs.Bools.{by_test}
use Rattle.rooms.specs.declared.Slot.{Slot}
use Rattle.tokens.specs.declared.Token.{Token}
use Rattle.tokens.specs.declared.TokenIndex.{TokenIndex}
use Rattle.tokens.specs.Scan.{token}
use Rattle.token_room.specs.Room.{width, numbers, slots_in, slot_of, write_at, read_at, write, read, nth, write_all}

-- three stores are a token written, and three loads are one read
module _ (room : List ℕ) (s : Slot) where
  pub stored : (x : Token)
      → set (set (set room (s.0 * width) x.kind) (s.0 * width + 1) x.start.0) (s.0 * width + 2) x.end.0 ≡ write_at room s x
  unfolding write_at
  stored x =
      let a : s.0 * width + 1 ≡ suc (s.0 * width) = omega arith in
      let b : s.0 * width + 2 ≡ suc (suc (s.0 * width)) = omega arith in
      rw (a, b)

  pub loaded : token (get_or room (s.0 * width) 0) (get_or room (s.0 * width + 1) 0) (get_or room (s.0 * width + 2) 0) ≡ read_at room s
  unfolding read_at
  loaded = let e : s.0 * width + 0 ≡ s.0 * width = omega arith in rw e

-- a room with n slots: s is the slot of the index i, unless there is none
module _ (room : List ℕ) (i : TokenIndex) {n : ℕ} (e : n ≡ slots_in (length room)) where
  module _ (h : 0 < n) {s : Slot} (q : s ≡ slot_of i n) where
    pub slot_inside : s.0 * width + width ≤ length room
    slot_inside = rw q (omega (arith, mod-lt i.0 h))

    pub write_slot : (x : Token) → write_at room s x ≡ write room i x
    unfolding write
    write_slot x = rw (q, ← e, le-leb 1 n h)

    pub read_slot : read_at room s ≡ read room i
    unfolding read
    read_slot = rw (q, ← e, le-leb 1 n h)

  module _ (h : n ≤ 0) where
    pub write_none : (x : Token) → room ≡ write room i x
    unfolding write
    write_none x = rw (← e, lt-leb 1 n (omega arith))

    pub read_none : token 0 0 0 ≡ read room i
    unfolding read
    read_none = rw (← e, lt-leb 1 n (omega arith))

pub length_write : (room : List ℕ) (i : TokenIndex) (x : Token) → length (write room i x) ≡ length room
unfolding write
length_write room i x =
    by_test (leb 1 (slots_in (length room))) (λ e. rw e (length-sets room ((slot_of i (slots_in (length room))).0 * width) (numbers x))) (λ e. rw e)

pub length_write_all : (room : List ℕ) (i : ℕ) (xs : List Token) → length (write_all room i xs) ≡ length room
unfolding write_all
length_write_all room i [] = refl
length_write_all room i (x ∷ xs) = length_write_all (write room (nth i) x) (i + 1) xs ∙ length_write room (nth i) x
