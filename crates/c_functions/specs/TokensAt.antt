-- What rattle_tokens answers, 0 or the number of a refusal, and every number that it leaves in what is lent.
-- Assumes nothing.
use Rattle.std.specs.Prelude.{ℕ, ◌≡◌, refl, Bool, List, [], ◌∷◌, length, get_or, ltb}
use Rattle.refusals.specs.Calls.{Reply, reply, unless}
use Rattle.tokens.specs.declared.Mode.{Mode}
use Rattle.tokens.specs.declared.Mode.TheVariants.{Normal, HexPattern, HexJump}
use Rattle.tokens.specs.Tokens.{ascii, tables_1}
use Rattle.tokens.specs.Scan.{list_from}
use Rattle.reader.specs.Reading.{source_limit}
use Rattle.token_room.specs.Room.{slots_in, write_all}
use Rattle.c_functions.specs.Answers.{Lent, lent}

-- the number of the first refusal that applies
abbrev pub unless_refused : {S : Type 0} → List (Bool × ℕ) → S → Reply ℕ S → Reply ℕ S
unless_refused gs s r = unless (λ n. n) gs s r

-- The tokens from a place on, in a mode.
unfoldable pub tokens_from : List ℕ → ℕ → Mode → List ℕ → ℕ → Reply ℕ Lent
tokens_from src place mode out count =
    let l = (list_from tables_1 src place mode).tokens in
    unless_refused ((ltb (length src) place, 24) ∷ (ltb (slots_in (length out)) (length l), 15) ∷ []) (lent out count)
    (reply 0 (lent (write_all out 0 l) (length l)))

-- A mode by its number; a number that is no mode's is refused.
abbrev pub in_modes : List ℕ → ℕ → List ℕ → ℕ → List (Reply ℕ Lent)
in_modes src place out count =
    tokens_from src place Normal out count ∷ tokens_from src place HexPattern out count ∷ tokens_from src place HexJump out count ∷ []

unfoldable pub tokens_at : List ℕ → ℕ → ℕ → List ℕ → ℕ → Reply ℕ Lent
tokens_at src place mode out count =
    unless_refused ((ltb source_limit (length src), 1) ∷ []) (lent out count) (get_or (in_modes src place out count) mode (reply 24 (lent out count)))

-- Examples: two tokens of pattern mode and a number that is in no slot; too few slots; a place past the source; no mode.
two_tokens : tokens_at (ascii "abc") 0 1 (7 ∷ 7 ∷ 7 ∷ 7 ∷ 7 ∷ 7 ∷ 7 ∷ []) 9 ≡ reply 0 (lent (80 ∷ 0 ∷ 2 ∷ 72 ∷ 2 ∷ 3 ∷ 7 ∷ []) 2)
unfolding tokens_at tokens_from list_from write_all
two_tokens = refl

one_slot : tokens_at (ascii "abc") 0 1 (7 ∷ 7 ∷ 7 ∷ 7 ∷ 7 ∷ []) 9 ≡ reply 15 (lent (7 ∷ 7 ∷ 7 ∷ 7 ∷ 7 ∷ []) 9)
unfolding tokens_at tokens_from list_from write_all
one_slot = refl

past_the_end : tokens_at (ascii "abc") 4 1 [] 9 ≡ reply 24 (lent [] 9)
unfolding tokens_at tokens_from list_from write_all
past_the_end = refl

no_mode : tokens_at (ascii "abc") 0 3 [] 9 ≡ reply 24 (lent [] 9)
unfolding tokens_at
no_mode = refl
