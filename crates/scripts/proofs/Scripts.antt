-- A script of calls as numbers, and their answers as numbers: so many numbers for each, over any calls and any answers.
-- Assumes nothing.
use Rattle.std.specs.Prelude.{ℕ, zero, suc, ◌+◌, ◌*◌, ◌/◌, ◌≡◌, refl, Bool, true, false, length, get_or, ltb}
use mathlib.Core.List.{List, [], ◌∷◌, flat_map}
use Rattle.std.proofs.Math.Seq.{sets}
use Rattle.scripts.specs.Scripts.{Form, call_at, calls_from, calls_of, no_room, noted, sums}

calls_of_five : calls_of sums (1 ∷ 2 ∷ 3 ∷ 4 ∷ 5 ∷ []) ≡ 3 ∷ 7 ∷ []
unfolding calls_from
calls_of_five = refl

just_room : no_room sums (1 ∷ 2 ∷ 3 ∷ 4 ∷ 5 ∷ []) (8 ∷ 8 ∷ []) ≡ false
just_room = refl

too_short : no_room sums (1 ∷ 2 ∷ 3 ∷ 4 ∷ 5 ∷ []) (8 ∷ []) ≡ true
too_short = refl

noted_two : noted sums (3 ∷ 7 ∷ []) (8 ∷ 8 ∷ 8 ∷ []) ≡ 3 ∷ 7 ∷ 8 ∷ []
unfolding noted
noted_two = refl
