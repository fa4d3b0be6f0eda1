-- What rattle_listing answers, 0 or the number of a refusal, and every number that it leaves: the listing as listing_text writes it.
-- Assumes nothing.
use Rattle.std.specs.Prelude.{ℕ, ◌≡◌, List, Result}
use Rattle.refusals.specs.declared.Refusal.{Refusal}
use Rattle.refusals.specs.Calls.{Reply, reply}
use Rattle.listing_text.specs.Listed.{Answer, written, refused, listed, listed_told, outcome}
use Rattle.c_functions.specs.Answers.{Lent, lent}

-- an answer, 0 or the refusal's number, and how long the text is
abbrev pub listing_told : Answer → List ℕ → ℕ → Reply ℕ Lent
listing_told (written n) out len = reply 0 (lent out n)
listing_told (refused x) out len = reply x (lent out len)

unfoldable pub listing_of : List ℕ → List ℕ → ℕ → Reply ℕ Lent
unfolding listed
listing_of src out len = let o = listed src out in listing_told o.answer o.after len

-- what listing_text answered and left is told so
module _ (src out : List ℕ) (len : ℕ) where
  pub listing_so : (y : Result ℕ Refusal) {g : Result ℕ Refusal} {o : List ℕ} → g ≡ y → outcome g o ≡ listed src out → listing_told (listed_told y) o len ≡ listing_of src out len
  unfolding listing_of
  listing_so y told e = rw (← e, told)
