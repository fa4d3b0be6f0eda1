-- The place of a live bookmark in the array, and what moves when it goes.
-- Assumes nothing.
use Rattle.std.specs.Prelude.{ℕ, zero, suc, ◌≡◌, refl, cond, List, [], ◌∷◌, ◌++◌, length, take, drop, eqb, Option, position}
use Rattle.std.proofs.Common.{ap}
use Rattle.tokens.specs.declared.TokenIndex.{TokenIndex}
use Rattle.bookmarks.specs.Bookmarks.{unused_place}

-- the place of the first among the first `live` that equals i, or the number of places
unfoldable pub find_in : ℕ → TokenIndex → List TokenIndex → ℕ
find_in live i [] = 0
find_in zero i (m ∷ ms) = suc (find_in zero i ms)
find_in (suc live) i (m ∷ ms) = cond (eqb m.0 i.0) 0 (suc (find_in live i ms))

-- the same as an Option: none, where none equals i
abbrev pub place_in : ℕ → TokenIndex → List TokenIndex → Option ℕ
place_in live i a = position (λ m. eqb m.0 i.0) (take live a)

-- without the one at a place
unfoldable pub shifted_down : ℕ → List TokenIndex → List TokenIndex
shifted_down at a = take at a ++ drop (suc at) a ++ unused_place ∷ []

-- none is in use; there is no place
pub find_none : (i : TokenIndex) (a : List TokenIndex) → find_in 0 i a ≡ length a
unfolding find_in
find_none i [] = refl
find_none i (m ∷ ms) = ap suc (find_none i ms)

pub find_empty : (live : ℕ) (i : TokenIndex) → find_in live i [] ≡ 0
unfolding find_in
find_empty zero i = refl
find_empty (suc live) i = refl
