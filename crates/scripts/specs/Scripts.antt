-- A script of calls as numbers, and their answers as numbers: so many numbers for each, over any calls and any answers.
-- Assumes nothing.
use Rattle.std.specs.Prelude.{ℕ, zero, suc, ◌+◌, ◌*◌, ◌/◌, ◌≡◌, refl, Bool, true, false, length, get_or, ltb}
use mathlib.Core.List.{List, [], ◌∷◌, flat_map}
use Rattle.std.proofs.Math.Seq.{sets}

-- How many numbers a call has, and which call they are; how many an answer has, and which they are.
pub record Form (C A : Type 0) : Type 0 where
  pub call_width : ℕ
  pub call_of : (ℕ → ℕ) → C
  pub answer_width : ℕ
  pub numbers : A → List ℕ
  pub sized : (a : A) → length (numbers a) ≡ answer_width

module _ {C A : Type 0} (form : Form C A) where
  -- The i-th call of a script, from 0; n calls from the i-th on; and all calls, where numbers that are left over are none.
  abbrev pub call_at : List ℕ → ℕ → C
  call_at script i = form.call_of (λ j. get_or script (i * form.call_width + j) 0)

  unfoldable pub calls_from : List ℕ → ℕ → ℕ → List C
  calls_from script i zero = []
  calls_from script i (suc n) = call_at script i ∷ calls_from script (i + 1) n

  abbrev pub calls_of : List ℕ → List C
  calls_of script = calls_from script 0 (length script / form.call_width)

  -- Whether there is no room for an answer to each call.
  abbrev pub no_room : List ℕ → List ℕ → Bool
  no_room script answers = ltb (length answers / form.answer_width) (length script / form.call_width)

  -- Answers noted one after the other, from the front on. The numbers behind them stay.
  unfoldable pub noted : List A → List ℕ → List ℕ
  unfolding flat_map
  noted l answers = sets answers 0 (flat_map form.numbers l)

-- Examples: a call is two numbers, which are added, and an answer is one.
abbrev pub sums : Form ℕ ℕ
sums = record { call_width = 2; call_of = λ f. f 0 + f 1; answer_width = 1; numbers = λ a. a ∷ []; sized = λ a. refl }
