-- What the place of a bookmark as an Option says: one is live where a place is found, and the shift at that place leaves one less.
-- By induction on the live ones. Assumes nothing.
use Rattle.std.specs.Prelude.{ℕ, zero, suc, ◌+◌, ◌-◌, ◌≤◌, ◌≡◌, refl, Bool, true, false, cond, Some, None, length, get_or, take, drop, set, eqb, ltb, is_some}
use Rattle.std.specs.List.{position_or_len, copy_within}
use Rattle.std.proofs.Common.{sym, ap, ◌∙◌, arith, take-append-drop, length-take, length-drop, length-append, drop_of_length-le}
use Rattle.std.proofs.Math.Seq.{drop-cons}
use Rattle.std.proofs.Math.Numerals.{add-one}
use Rattle.std.proofs.lemmas.Bool.{false≢true}
use Rattle.std.proofs.lemmas.List.{set_at, take_all}
use Rattle.std.proofs.lemmas.List.Quantifiers.{position-Some}
use Rattle.std.proofs.lemmas.List.Recursion.{is_position_or_len}
use Rattle.std.proofs.Math.Dec.{leb-suc-suc}
use mathlib.Core.List.{List, [], ◌∷◌, ◌++◌}
use borrow.Author.Tests.{lt-ltb}
use Rattle.tokens.specs.declared.TokenIndex.{TokenIndex}
use Rattle.patterns.proofs.Bools.{by_test}
use Rattle.token_record.specs.Record.{member, without}
use Rattle.bookmarks.specs.Bookmarks.{unused_place, removed}
use Rattle.bookmarks.specs.Removing.{place_in, shifted_down}

-- the place of the first that equals i, or their number
unfoldable first_of : TokenIndex → List TokenIndex → ℕ
first_of i [] = 0
first_of i (m ∷ ms) = cond (eqb m.0 i.0) 0 (suc (first_of i ms))

first_position : (i : TokenIndex) (l : List TokenIndex) → position_or_len (λ (m : TokenIndex). eqb m.0 i.0) l ≡ first_of i l
unfolding first_of
first_position i l = sym (is_position_or_len (first_of i) (λ (m : TokenIndex). eqb m.0 i.0) refl
    (λ x xs. let e : suc (first_of i xs) ≡ 1 + first_of i xs = omega arith in ap (λ (k : ℕ). cond (eqb x.0 i.0) 0 k) e) l)

-- one is among them where its place is below their number
first_below : (i : TokenIndex) (l : List TokenIndex) → ltb (first_of i l) (length l) ≡ member i l
unfolding first_of member
first_below i [] = refl
first_below i (m ∷ ms) =
    by_test (eqb m.0 i.0) (λ t. rw t (lt-ltb 0 (suc (length ms)) (omega arith)))
    (λ t. rw t (leb-suc-suc (suc (first_of i ms)) (length ms) ∙ first_below i ms))

-- all but the one at the place found
without_first : (live : ℕ) (i : TokenIndex) (a : List TokenIndex) → member i (take live a) ≡ true
    → take (first_of i (take live a)) a ++ drop (suc (first_of i (take live a))) a ≡ without i (take live a) ++ drop live a
unfolding first_of member without
without_first zero i a e = absurd (false≢true e)
without_first (suc n) i [] e = absurd (false≢true e)
without_first (suc n) i (m ∷ ms) e =
    by_test (eqb m.0 i.0) (λ t. rw t (sym (take-append-drop n ms)))
    (λ t. rw t (ap (λ (r : List TokenIndex). m ∷ r) (without_first n i ms (rw t at e))))

module _ (live : ℕ) (i : TokenIndex) (a : List TokenIndex) where
  -- what finding comes to
  found : (b : Bool) → member i (take live a) ≡ b → place_in live i a ≡ cond b (Some (first_of i (take live a))) None
  found b e = rw (first_position i (take live a), first_below i (take live a), e)

  pub place_member : is_some (place_in live i a) ≡ member i (take live a)
  place_member = by_test (member i (take live a)) (λ t. rw (found true t, t)) (λ t. rw (found false t, t))

  pub place_inside : (at n : ℕ) → length a ≡ suc n → place_in live i a ≡ Some at → at ≤ n
  place_inside at n long e =
      omega (arith, (position-Some (λ (m : TokenIndex). eqb m.0 i.0) (take live a) at unused_place e).0, length-take live a)

  pub place_removed : (at : ℕ) → place_in live i a ≡ Some at → shifted_down at a ≡ removed live i a
  unfolding shifted_down removed
  place_removed at e =
      by_test (member i (take live a))
      (λ t.
      let q = found true t in
      let p : first_of i (take live a) ≡ at = cc in
      rw (t, ← p) (ap (λ (r : List TokenIndex). r ++ unused_place ∷ []) (without_first live i a t)))
      (λ t. let q = found false t in cc)

  pub no_place_removed : place_in live i a ≡ None → a ≡ removed live i a
  unfolding removed
  no_place_removed e =
      by_test (member i (take live a))
      (λ t. let q = found true t in cc)
      (λ t. rw t)

-- those behind the place copied one place down, and the last place 0
pub copied_down : (a : List TokenIndex) (at n : ℕ) → length a ≡ suc n → at ≤ n
    → set (copy_within a (at + 1) (length a) at) n unused_place ≡ shifted_down at a
unfolding shifted_down
copied_down a at n long h =
    let rest : take (n - at) (drop (at + 1) a) ≡ drop (suc at) a =
    rw add-one (take_all (n - at) (drop (suc at) a) (omega (arith, length-drop (suc at) a))) in
    let moved : length a - (at + 1) ≡ n - at = omega arith in
    let behind : at + (n - at) ≡ n = omega arith in
    let last : drop n a ≡ get_or a n unused_place ∷ [] =
    drop-cons a n unused_place (omega arith) ∙ ap (λ (r : List TokenIndex). get_or a n unused_place ∷ r) (drop_of_length-le a {i = suc n} (omega arith)) in
    let sized : length (take at a ++ drop (suc at) a) ≡ n =
    omega (arith, length-append (take at a) (drop (suc at) a), length-take at a, length-drop (suc at) a) in
    rw (moved, rest, behind, last) (set_at (take at a ++ drop (suc at) a) (get_or a n unused_place) [] unused_place n sized)
