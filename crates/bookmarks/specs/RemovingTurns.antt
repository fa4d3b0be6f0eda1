-- The turns of the loops that find a bookmark and close the gap: what is passed, with the definition on the rest, is the whole.
-- Each is one look at the element at place i. Assumes nothing.
use Rattle.std.specs.Prelude.{ℕ, suc, ◌+◌, ◌-◌, ◌≤◌, ◌<◌, ◌≡◌, List, [], length, get_or, drop, set}
use Rattle.std.proofs.Common.{append-nil, arith, length-drop, drop_of_length-le, take-suc-set, drop-set-lt}
use Rattle.std.proofs.Math.Numerals.{add-one}
use Rattle.std.proofs.Math.Seq.{drop-cons, append_snoc}
use Rattle.std.proofs.lemmas.List.{set_split}
use borrow.Author.Tests.{eq-eqb, ne_eqb}
use Rattle.tokens.specs.declared.TokenIndex.{TokenIndex}
use Rattle.bookmarks.specs.Bookmarks.{unused_place}
use Rattle.bookmarks.specs.Turns.{one_more}
use Rattle.bookmarks.specs.Removing.{find_in, find_none, find_empty, shifted_down}

-- not found so far; found here
module _ (a : List TokenIndex) (i : ℕ) (h : i < length a) (n : ℕ) (hn : i < n) (x : TokenIndex) where
  pub find_turn : ¬ ((get_or a i unused_place).0 ≡ x.0) → i + 1 + find_in (n - (i + 1)) x (drop (i + 1) a) ≡ i + find_in (n - i) x (drop i a)
  unfolding find_in
  find_turn ne = rw (one_more i n hn, drop-cons a i unused_place h, ne_eqb (get_or a i unused_place).0 x.0 ne, add-one i) (omega arith)

  pub find_here : (get_or a i unused_place).0 ≡ x.0 → i ≡ i + find_in (n - i) x (drop i a)
  unfolding find_in
  find_here eq = rw (one_more i n hn, drop-cons a i unused_place h, eq-eqb (get_or a i unused_place).0 x.0 eq) (omega arith)

-- Where the search ends.
pub find_passed : (a : List TokenIndex) (i live : ℕ) (x : TokenIndex) → live ≤ i → i ≤ length a → length a ≡ i + find_in (live - i) x (drop i a)
find_passed a i live x hl h =
    let e : live - i ≡ 0 = omega arith in
    rw (e, find_none, length-drop) (omega arith)

pub find_end : (a : List TokenIndex) (i live : ℕ) (x : TokenIndex) → length a ≤ i → i ≡ i + find_in (live - i) x (drop i a)
find_end a i live x h = rw (drop_of_length-le a h, find_empty) (omega arith)

-- The next one comes down here; the last place is set to 0.
pub down_turn : (a : List TokenIndex) (i : ℕ) → i + 1 < length a → shifted_down (i + 1) (set a i (get_or a (i + 1) unused_place)) ≡ shifted_down i a
unfolding shifted_down
down_turn a i h =
    let x = get_or a (suc i) unused_place in
    let h' : suc i < length a = omega arith in
    rw (add-one, take-suc-set a i x (omega arith), drop-set-lt (suc (suc i)) a i x (omega arith), append_snoc)
    (rw (drop-cons a (suc i) unused_place h'))

pub down_end : (a : List TokenIndex) (i : ℕ) → length a ≡ suc i → set a i unused_place ≡ shifted_down i a
unfolding shifted_down
down_end a i h =
    let e : drop (suc i) a ≡ [] = drop_of_length-le a {i = suc i} (omega arith) in
    rw (set_split a i unused_place (omega arith), e, append-nil)
