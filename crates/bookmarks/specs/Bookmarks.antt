-- The window's bookmarks: a list of token indexes in order, held in an array of 64 whose unused places are 0.
-- Assumes nothing.
use Rattle.std.specs.Prelude.{ℕ, zero, suc, ◌-◌, Bool, true, cond, ◌&&◌, List, [], ◌∷◌, ◌++◌, length, take, drop, replicate, eqb, leb, ltb}
use Rattle.tokens.specs.declared.TokenIndex.{TokenIndex}
use Rattle.token_record.specs.Record.{bookmark_limit, member, without}

abbrev pub unused_place : TokenIndex
unused_place = record { 0 = 0 }

-- The array that holds a list.
abbrev pub padded : List TokenIndex → List TokenIndex
padded l = l ++ replicate (bookmark_limit - length l) unused_place

-- Refusal 24's clauses on bookmarks, the first `live` places of the array being in use: 64 places, not too many in use, these in
-- order and none above the number fetched, the others 0.
unfoldable pub in_order : ℕ → ℕ → List TokenIndex → Bool
in_order low top [] = leb low top
in_order low top (m ∷ ms) = leb low m.0 && in_order m.0 top ms

unfoldable pub unused : List TokenIndex → Bool
unused [] = true
unused (m ∷ ms) = eqb m.0 0 && unused ms

unfoldable pub held : ℕ → ℕ → List TokenIndex → Bool
unfolding in_order unused
held live top a = eqb (length a) bookmark_limit && leb live bookmark_limit && in_order 0 top (take live a) && unused (drop live a)

-- An index among others in order: behind those that are no greater.
unfoldable pub insert : TokenIndex → List TokenIndex → List TokenIndex
insert i [] = i ∷ []
insert i (m ∷ ms) = cond (ltb i.0 m.0) (i ∷ m ∷ ms) (m ∷ insert i ms)

-- What the calls on the array give, whatever it holds.
unfoldable pub low_of : ℕ → TokenIndex → TokenIndex → TokenIndex
low_of zero first i = i
low_of (suc live) first i = cond (ltb first.0 i.0) first i

unfoldable pub inserted : ℕ → TokenIndex → List TokenIndex → List TokenIndex
unfolding insert
inserted live i a = cond (ltb live bookmark_limit) (insert i (take live a) ++ drop (suc live) a) a

unfoldable pub removed : ℕ → TokenIndex → List TokenIndex → List TokenIndex
unfolding member without
removed live i a = cond (member i (take live a)) (without i (take live a) ++ drop live a ++ unused_place ∷ []) a
