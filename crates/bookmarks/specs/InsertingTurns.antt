-- The turns of the loops that place one more bookmark: what is passed, with the definition on the rest, is the whole.
-- Each is one look at the element at place i. Assumes nothing.
use Rattle.std.specs.Prelude.{ℕ, suc, ◌+◌, ◌-◌, ◌≤◌, ◌<◌, ◌≡◌, List, length, get_or, take, drop, set}
use Rattle.std.proofs.Math.Nat.{sub_self}
use Rattle.std.proofs.Math.Numerals.{add-one}
use Rattle.std.proofs.Common.{arith}
use Rattle.std.proofs.Math.Seq.{take-suc-set, drop-set-lt, drop-cons, append_snoc, set_split}
use borrow.Author.Tests.{lt-ltb, le-ltb}
use Rattle.tokens.specs.declared.TokenIndex.{TokenIndex}
use Rattle.bookmarks.specs.Bookmarks.{unused_place}
use Rattle.bookmarks.specs.Turns.{one_more}
use Rattle.bookmarks.specs.Inserting.{place_of, shifted_up}

module _ (a : List TokenIndex) (i : ℕ) (h : i < length a) where
  -- The carried one is put at the last place.
  pub up_end : (x : TokenIndex) → set a i x ≡ shifted_up i i x a
  unfolding shifted_up
  up_end x = rw (sub_self, set_split a i x, append_snoc)

  module _ (n : ℕ) (hn : i < n) (x : TokenIndex) where
    -- The one carried is put here, and the one that was here is carried on.
    pub up_turn : shifted_up (i + 1) n (get_or a i unused_place) (set a i x) ≡ shifted_up i n x a
    unfolding shifted_up
    up_turn =
        rw (one_more i n hn, add-one, take-suc-set a i x, drop-set-lt (suc i) a i x (omega arith), drop-set-lt (suc n) a i x (omega arith))
        (rw (drop-cons a i unused_place h, append_snoc))

    -- none above x so far; the first is here
    pub place_turn : (get_or a i unused_place).0 ≤ x.0
        → i + 1 + place_of x (take (n - (i + 1)) (drop (i + 1) a)) ≡ i + place_of x (take (n - i) (drop i a))
    unfolding place_of
    place_turn le = rw (one_more i n hn, drop-cons a i unused_place h, le-ltb x.0 (get_or a i unused_place).0 le, add-one i) (omega arith)

    pub place_here : x.0 < (get_or a i unused_place).0 → i ≡ i + place_of x (take (n - i) (drop i a))
    unfolding place_of
    place_here lt = rw (one_more i n hn, drop-cons a i unused_place h, lt-ltb x.0 (get_or a i unused_place).0 lt) (omega arith)

-- Where the search ends.
pub place_end : (a : List TokenIndex) (n : ℕ) (x : TokenIndex) → n ≡ n + place_of x (take (n - n) a)
unfolding place_of
place_end a n x = rw sub_self (omega arith)
