-- The place of one more bookmark in the array, and what moves to make room there.
-- Assumes nothing.
use Rattle.std.specs.Prelude.{ℕ, suc, ◌-◌, cond, List, [], ◌∷◌, ◌++◌, take, drop, ltb}
use Rattle.tokens.specs.declared.TokenIndex.{TokenIndex}

-- the place of the first that is above i, or their number
unfoldable pub place_of : TokenIndex → List TokenIndex → ℕ
place_of i [] = 0
place_of i (m ∷ ms) = cond (ltb i.0 m.0) 0 (suc (place_of i ms))

-- i at a place, and those from there up to n one place on
unfoldable pub shifted_up : ℕ → ℕ → TokenIndex → List TokenIndex → List TokenIndex
shifted_up at n i a = take at a ++ i ∷ take (n - at) (drop at a) ++ drop (suc n) a
