-- What the place of a bookmark says: one is live where a place is found, and the shift at that place makes the list with one less.
-- By induction on the live ones. Assumes nothing.
use Rattle.std.specs.Prelude.{ℕ, zero, suc, ◌≤◌, ◌<◌, ◌≡◌, refl, length, take, drop, eqb, ltb}
use Rattle.std.proofs.Math.Path.{sym}
use Rattle.std.proofs.Common.{ap, ◌∙◌, arith, take-append-drop}
use Rattle.std.proofs.Math.Bool.{true}
use Rattle.std.proofs.lemmas.Bool.{false≢true}
use mathlib.Core.List.{List, [], ◌∷◌, ◌++◌}
use Rattle.std.proofs.Math.Dec.{leb-suc-suc}
use borrow.Author.Tests.{lt-ltb, le-ltb}
use Rattle.tokens.specs.declared.TokenIndex.{TokenIndex}
use Rattle.patterns.proofs.Bools.{by_test}
use Rattle.token_record.specs.Record.{bookmark_limit, member, without}
use Rattle.bookmarks.specs.Bookmarks.{unused_place, removed}
use Rattle.bookmarks.specs.Removing.{find_in, find_none, shifted_down}

-- one is live where its place is below the number of places
found_below : (live : ℕ) (i : TokenIndex) (a : List TokenIndex) → ltb (find_in live i a) (length a) ≡ member i (take live a)
unfolding find_in member
found_below zero i a = rw find_none (le-ltb (length a) (length a) (omega arith))
found_below (suc n) i [] = refl
found_below (suc n) i (m ∷ ms) =
    by_test (eqb m.0 i.0) (λ t. rw t (lt-ltb 0 (suc (length ms)) (omega arith)))
    (λ t. rw t (leb-suc-suc (suc (find_in n i ms)) (length ms) ∙ found_below n i ms))

-- all but the one at the place found
without_found : (live : ℕ) (i : TokenIndex) (a : List TokenIndex) → member i (take live a) ≡ true
    → take (find_in live i a) a ++ drop (suc (find_in live i a)) a ≡ without i (take live a) ++ drop live a
unfolding find_in member without
without_found zero i a e = absurd (false≢true e)
without_found (suc n) i [] e = absurd (false≢true e)
without_found (suc n) i (m ∷ ms) e =
    by_test (eqb m.0 i.0) (λ t. rw t (sym (take-append-drop n ms)))
    (λ t. rw t (ap (λ (r : List TokenIndex). m ∷ r) (without_found n i ms (rw t at e))))

module _ (live : ℕ) (i : TokenIndex) (a : List TokenIndex) (long : length a ≡ bookmark_limit) {at : ℕ} (e : at ≡ find_in live i a) where
  pub found_member : ltb at bookmark_limit ≡ member i (take live a)
  found_member = rw (e, ← long) (found_below live i a)

  pub shifted_removed : at < bookmark_limit → shifted_down at a ≡ removed live i a
  unfolding shifted_down removed
  shifted_removed h =
      let m : member i (take live a) ≡ true = sym found_member ∙ lt-ltb at bookmark_limit h in
      rw (m, e) (ap (λ (r : List TokenIndex). r ++ unused_place ∷ []) (without_found live i a m))

  pub none_removed : bookmark_limit ≤ at → a ≡ removed live i a
  unfolding removed
  none_removed h = rw (sym found_member ∙ le-ltb at bookmark_limit h)
