-- What a call of `list` answers, and what it leaves in the lent bytes: document 01's refusal 1 first, then 15 where the text has no
-- room; on a refusal every byte stays. Assumes nothing.
use Rattle.std.specs.Prelude.{ℕ, cond, List, length, leb, Result, Ok, Err}
use Rattle.refusals.specs.declared.Refusal.{Refusal}
use Rattle.refusals.specs.Refusals.{number_of}
use Rattle.refusals.specs.Calls.{Reply, reply}
use Rattle.tokens.specs.declared.Mode.TheVariants.{Normal}
use Rattle.tokens.specs.Tokens.{tables_1}
use Rattle.tokens.specs.Scan.{list_from, tokens}
use Rattle.reader.specs.Reading.{source_limit}
use Rattle.listing_text.specs.Listing.{text}
use Rattle.listing_text.specs.Put.{put}

-- What listing answers: how many bytes the text has; or a refusal, by its number.
pub data Answer : Type 0 where
  written refused : ℕ → Answer

-- a text at the front of `out`, if it fits
unfoldable pub at_front : List ℕ → List ℕ → Reply Answer (List ℕ)
unfolding put
at_front t out = cond (leb (length t) (length out)) (reply (written (length t)) (put 0 t out)) (reply (refused 15) out)

-- The answer, and every lent byte.
unfoldable pub listed : List ℕ → List ℕ → Reply Answer (List ℕ)
unfolding text list_from at_front
listed src out = cond (leb (length src) source_limit) (at_front (text (tokens tables_1 Normal src)) out) (reply (refused 1) out)

-- The code's answer in these values, with the bytes.
abbrev pub listed_told : Result ℕ Refusal → Answer
listed_told (Ok n) = written n
listed_told (Err x) = refused (number_of x)

abbrev pub outcome : Result ℕ Refusal → List ℕ → Reply Answer (List ℕ)
outcome g out = reply (listed_told g) out
