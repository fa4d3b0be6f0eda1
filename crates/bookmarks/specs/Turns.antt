-- The turns of the loops that test the array of bookmarks: what is passed, with the definition on the rest, is the whole.
-- Each is one look at the element at place i. Assumes nothing.
use Rattle.std.specs.Prelude.{ℕ, suc, ◌+◌, ◌-◌, ◌≤◌, ◌<◌, ◌≡◌, Bool, ◌&&◌, List, length, get_or, take, drop, eqb, leb}
use Rattle.std.proofs.Math.Bool.{and-true, and_assoc}
use Rattle.std.proofs.Math.Nat.{sub_self}
use Rattle.std.proofs.Math.Numerals.{add-one}
use Rattle.std.proofs.Common.{arith, drop_of_length-le}
use Rattle.std.proofs.Math.Seq.{drop-cons}
use Rattle.tokens.specs.declared.TokenIndex.{TokenIndex}
use Rattle.bookmarks.specs.Bookmarks.{unused_place, in_order, unused}

-- One place is left more than behind the next one.
pub one_more : (i n : ℕ) → i < n → n - i ≡ suc (n - (i + 1))
one_more i n h = omega arith

module _ (a : List TokenIndex) (i : ℕ) (h : i < length a) where
  -- 0 so far
  pub unused_turn : (z : Bool) → (z && eqb (get_or a i unused_place).0 0 && unused (drop (i + 1) a)) ≡ (z && unused (drop i a))
  unfolding unused
  unused_turn z = rw (drop-cons a i unused_place h, add-one, and_assoc)

  -- in order so far, up to the last passed
  pub order_turn : (n : ℕ) → i < n → (low top : ℕ) (o : Bool)
      → (o && leb low (get_or a i unused_place).0 && in_order (get_or a i unused_place).0 top (take (n - (i + 1)) (drop (i + 1) a)))
      ≡ (o && in_order low top (take (n - i) (drop i a)))
  unfolding in_order
  order_turn n hn low top o = rw (one_more i n hn, drop-cons a i unused_place h, add-one, and_assoc)

-- Where the loops end.
pub order_end : (low top n : ℕ) (o : Bool) (a : List TokenIndex) → (o && leb low top) ≡ (o && in_order low top (take (n - n) a))
unfolding in_order
order_end low top n o a = rw sub_self

pub unused_end : (a : List TokenIndex) (i : ℕ) (z : Bool) → length a ≤ i → z ≡ (z && unused (drop i a))
unfolding unused
unused_end a i z h = rw (drop_of_length-le a h, and-true)
