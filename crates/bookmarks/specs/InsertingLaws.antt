-- What the place of one more bookmark says: it is one of the live places or the next, and the shift there makes the list with one more.
-- By induction on the live ones. Assumes nothing.
use Rattle.std.specs.Prelude.{ℕ, zero, suc, ◌+◌, ◌-◌, ◌≤◌, ◌<◌, ◌≡◌, refl, cond, length, get_or, take, set, ltb, position, unwrap_or}
use Rattle.std.specs.List.{position_or_len, copy_within}
use Rattle.std.proofs.Common.{ap, arith, length-take, length-append, lt-ltb, le-ltb, ltb-false}
use Rattle.std.proofs.lemmas.List.{set_at, set-append_left}
use Rattle.std.proofs.lemmas.List.Recursion.{is_position_or_len}
use Rattle.std.proofs.Math.Seq.{append_snoc, take-suc}
use Rattle.std.proofs.Math.Numerals.{add-one}
use mathlib.Core.List.{List, [], ◌∷◌, ◌++◌}
use Rattle.std.proofs.Math.Nat.{sub-zero, suc-sub-suc}
use Rattle.std.proofs.Math.ListN.{drop}
use Rattle.tokens.specs.declared.TokenIndex.{TokenIndex}
use Rattle.patterns.proofs.Bools.{by_test}
use Rattle.token_record.specs.Record.{bookmark_limit}
use Rattle.bookmarks.specs.Bookmarks.{insert, inserted}
use Rattle.bookmarks.specs.Inserting.{place_of, shifted_up}

-- it is where the first that is above i stands
pub place_position : (i : TokenIndex) (l : List TokenIndex) → place_of i l ≡ position_or_len (λ (m : TokenIndex). ltb i.0 m.0) l
unfolding place_of
place_position i l = is_position_or_len (place_of i) (λ (m : TokenIndex). ltb i.0 m.0) refl
    (λ x xs. let e : suc (place_of i xs) ≡ 1 + place_of i xs = omega arith in ap (λ (k : ℕ). cond (ltb i.0 x.0) 0 k) e) l

-- the place of one more, and the list with it there
pub place_within : (i : TokenIndex) (l : List TokenIndex) → place_of i l ≤ length l
unfolding place_of
place_within i [] = omega arith
place_within i (m ∷ ms) = by_test (ltb i.0 m.0) (λ t. rw t (omega arith)) (λ t. rw t (omega (arith, place_within i ms)))

-- the place found, or their number where none is
pub place_found : (i : TokenIndex) (l : List TokenIndex) → unwrap_or (position (λ (m : TokenIndex). ltb i.0 m.0) l) (length l) ≡ place_of i l
place_found i l =
    rw (← place_position i l)
    (by_test (ltb (place_of i l) (length l)) (λ t. rw t) (λ t. rw t (omega (arith, ltb-false _ _ t, place_within i l))))

insert_placed : (n : ℕ) (i : TokenIndex) (a : List TokenIndex)
    → take (place_of i (take n a)) a ++ i ∷ take (n - place_of i (take n a)) (drop (place_of i (take n a)) a) ≡ insert i (take n a)
unfolding place_of insert
insert_placed zero i a = refl
insert_placed (suc n) i [] = rw sub-zero
insert_placed (suc n) i (m ∷ ms) =
    by_test (ltb i.0 m.0) (λ t. rw (t, sub-zero))
    (λ t. rw (t, suc-sub-suc) (ap (λ (r : List TokenIndex). m ∷ r) (insert_placed n i ms)))

module _ (n : ℕ) (i : TokenIndex) (a : List TokenIndex) {at : ℕ} (e : at ≡ place_of i (take n a)) where
  pub place_le : at ≤ n
  place_le = omega (arith, place_within i (take n a), length-take n a)

  pub shifted_inserted : n < bookmark_limit → shifted_up at n i a ≡ inserted n i a
  unfolding shifted_up inserted
  shifted_inserted h = rw (lt-ltb n bookmark_limit h, e) (ap (λ (r : List TokenIndex). r ++ drop (suc n) a) (insert_placed n i a))

pub none_inserted : (n : ℕ) (i : TokenIndex) (a : List TokenIndex) → bookmark_limit ≤ n → a ≡ inserted n i a
unfolding inserted
none_inserted n i a h = rw (le-ltb n bookmark_limit h)

-- those from the place up to n copied one place up, and i put there
pub copied_up : (a : List TokenIndex) (at n : ℕ) (i : TokenIndex) → at ≤ n → n < length a
    → set (copy_within a at n (at + 1)) at i ≡ shifted_up at n i a
unfolding shifted_up
copied_up a at n i h l =
    let x = get_or a at i in
    let front : take (at + 1) a ≡ take at a ++ x ∷ [] = rw add-one (take-suc a at i (omega arith)) in
    let sized : length (take at a) ≡ at = omega (arith, length-take at a) in
    let longer : length (take at a ++ x ∷ []) ≡ at + 1 = omega (arith, sized, length-append (take at a) (x ∷ [])) in
    let rest = take (n - at) (drop at a) in
    let behind : at + 1 + (n - at) ≡ suc n = omega arith in
    rw (
      front,
      behind,
      set-append_left (take at a ++ x ∷ [] ++ rest) (drop (suc n) a) at i (omega (arith, longer, length-append (take at a ++ x ∷ []) rest)),
      set-append_left (take at a ++ x ∷ []) rest at i (omega (arith, longer)),
      set_at (take at a) x [] i at sized,
      append_snoc,
    )
