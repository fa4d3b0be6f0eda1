-- The window keeps in order the bookmarks that the record keeps in no order. To insert each in turn puts a list in order, and changes
-- neither how many there are, which are members, nor the least; and taking one away may come before or after. Assumes nothing.
use Rattle.std.specs.Prelude.{ℕ, suc, min, ◌≤◌, ◌<◌, ◌≡◌, refl, Bool, false, ◌||◌, length, eqb, leb, ltb}
use Rattle.std.proofs.Common.{zero-le, ◌∙◌, arith}
use Rattle.std.proofs.Math.Path.{sym, ap}
use Rattle.std.proofs.Math.Bool.{true}
use mathlib.Core.List.{List, [], ◌∷◌}
use borrow.Author.Tests.{ltb-true, ltb-false, leb-true, le-leb, eqb-true, eq-eqb}
use Rattle.patterns.proofs.Bools.{and_first, and_second, by_test}
use Rattle.tokens.specs.declared.TokenIndex.{TokenIndex}
use Rattle.token_record.specs.Record.{member, without, least}
use Rattle.bookmarks.specs.Bookmarks.{in_order, insert}
use Rattle.token_room.specs.Room.{nth}
use Rattle.bookmarks.specs.HeldLaws.{length_insert}
use Rattle.demand3.specs.Lowest.{Below}
use Rattle.demand3.specs.Sorting.{sorted}

pub length_sorted : (l : List TokenIndex) → length (sorted l) ≡ length l
unfolding sorted
length_sorted [] = refl
length_sorted (m ∷ ms) = length_insert m (sorted ms) ∙ ap suc (length_sorted ms)

-- members
member_insert : (i m : TokenIndex) (l : List TokenIndex) → member i (insert m l) ≡ (eqb m.0 i.0 || member i l)
unfolding insert member
member_insert i m [] = refl
member_insert i m (n ∷ l) =
    by_test (ltb m.0 n.0) (λ e. rw e)
    (λ e. rw (e, member_insert i m l) (swap (eqb n.0 i.0) (eqb m.0 i.0)))
  where
    swap : (a b : Bool) → (a || (b || member i l)) ≡ (b || (a || member i l))
    swap true true = refl
    swap true false = refl
    swap false true = refl
    swap false false = refl

pub member_sorted : (i : TokenIndex) (l : List TokenIndex) → member i (sorted l) ≡ member i l
unfolding sorted member
member_sorted i [] = refl
member_sorted i (m ∷ ms) = member_insert i m (sorted ms) ∙ rw (member_sorted i ms)

-- the least
least_insert : (c : ℕ) (m : TokenIndex) (l : List TokenIndex) → least c (insert m l) ≡ min m.0 (least c l)
unfolding insert least
least_insert c m [] = refl
least_insert c m (n ∷ l) = by_test (ltb m.0 n.0) (λ e. rw e) (λ e. rw e (omega (arith, least_insert c m l)))

pub least_sorted : (c : ℕ) (l : List TokenIndex) → least c (sorted l) ≡ least c l
unfolding sorted least
least_sorted c [] = refl
least_sorted c (m ∷ ms) = least_insert c m (sorted ms) ∙ rw (least_sorted c ms)

-- the order
order_insert : (low top : ℕ) (m : TokenIndex) (l : List TokenIndex) → low ≤ m.0 → m.0 ≤ top → in_order low top l ≡ true
    → in_order low top (insert m l) ≡ true
unfolding insert in_order
order_insert low top m [] h g o = rw (le-leb low m.0 h, le-leb m.0 top g)
order_insert low top m (n ∷ l) h g o =
    let p : low ≤ n.0 = leb-true low n.0 (and_first (leb low n.0) (in_order n.0 top l) o) in
    let q : in_order n.0 top l ≡ true = and_second (leb low n.0) (in_order n.0 top l) o in
    by_test (ltb m.0 n.0) (λ e. rw (e, le-leb low m.0 h, le-leb m.0 n.0 (omega (arith, ltb-true m.0 n.0 e))) q)
    (λ e. rw (e, le-leb low n.0 p) (order_insert n.0 top m l (ltb-false m.0 n.0 e) g q))

pub order_sorted : (top : ℕ) (l : List TokenIndex) → Below top l → in_order 0 top (sorted l) ≡ true
unfolding sorted in_order
order_sorted top [] h = le-leb 0 top zero-le
order_sorted top (m ∷ ms) h = order_insert 0 top m (sorted ms) zero-le h.0 (order_sorted top ms h.1)

same_index : (m n : TokenIndex) → m.0 ≡ n.0 → m ≡ n
same_index m n e = ap nth e

-- taking one away: an index that is not above any of them goes in front
insert_front : (low top : ℕ) (m : TokenIndex) (l : List TokenIndex) → m.0 ≤ low → in_order low top l ≡ true → insert m l ≡ m ∷ l
unfolding insert in_order
insert_front low top m [] h o = refl
insert_front low top m (n ∷ l) h o =
    let k : low ≤ n.0 = leb-true low n.0 (and_first (leb low n.0) (in_order n.0 top l) o) in
    let r : insert m l ≡ m ∷ l = insert_front n.0 top m l (omega arith) (and_second (leb low n.0) (in_order n.0 top l) o) in
    by_test (ltb m.0 n.0) (λ e. rw e) (λ e. rw (e, r) (rw (same_index m n (omega (arith, ltb-false m.0 n.0 e)))))

module _ (i m : TokenIndex) where
  -- one that was just inserted
  without_same : (low top : ℕ) (l : List TokenIndex) → m.0 ≡ i.0 → in_order low top l ≡ true → without i (insert m l) ≡ l
  unfolding insert without in_order
  without_same low top [] q o = rw (eq-eqb m.0 i.0 q)
  without_same low top (n ∷ l) q o =
      let p : in_order n.0 top l ≡ true = and_second (leb low n.0) (in_order n.0 top l) o in
      let f : n.0 ≡ i.0 → insert m l ≡ n ∷ l
      = λ z. insert_front n.0 top m l (omega arith) p ∙ ap (λ k. k ∷ l) (same_index m n (omega arith)) in
      by_test (ltb m.0 n.0) (λ e. rw (e, eq-eqb m.0 i.0 q))
      (λ e. rw e (by_test (eqb n.0 i.0) (λ t. rw t (f (eqb-true n.0 i.0 t)))
      (λ t. rw t (ap (λ k. n ∷ k) (without_same n.0 top l q p)))))

  -- another
  without_other : (low top : ℕ) (l : List TokenIndex) → eqb m.0 i.0 ≡ false → in_order low top l ≡ true
      → without i (insert m l) ≡ insert m (without i l)
  unfolding insert without in_order
  without_other low top [] q o = rw q
  without_other low top (n ∷ l) q o =
      let p : in_order n.0 top l ≡ true = and_second (leb low n.0) (in_order n.0 top l) o in
      let f : m.0 < n.0 → m ∷ l ≡ insert m l = λ z. sym (insert_front n.0 top m l (omega arith) p) in
      by_test (ltb m.0 n.0)
      (λ e. by_test (eqb n.0 i.0) (λ t. rw (e, q, t) (f (ltb-true m.0 n.0 e))) (λ t. rw (e, q, t) (rw e)))
      (λ e. by_test (eqb n.0 i.0) (λ t. rw (e, t)) (λ t. rw (e, t) (rw e (ap (λ k. n ∷ k) (without_other n.0 top l q p)))))

pub without_sorted : (top : ℕ) (i : TokenIndex) (l : List TokenIndex) → Below top l → without i (sorted l) ≡ sorted (without i l)
unfolding sorted without
without_sorted top i [] h = refl
without_sorted top i (m ∷ ms) h =
    let o : in_order 0 top (sorted ms) ≡ true = order_sorted top ms h.1 in
    by_test (eqb m.0 i.0)
    (λ e. rw e (without_same i m 0 top (sorted ms) (eqb-true m.0 i.0 e) o))
    (λ e. rw e (without_other i m 0 top (sorted ms) e o ∙ ap (insert m) (without_sorted top i ms h.1)))
