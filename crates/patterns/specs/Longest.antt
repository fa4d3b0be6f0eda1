-- `longest` is right for the plain meaning: the prefix of that length is matched, and no longer one is. By induction on the text:
-- `deriv_means` takes a byte off both sides, and `best` is what `nullable` said of the prefixes so far. Assumes nothing.
use Rattle.std.specs.Prelude.{ℕ, ◌+◌, ◌≤◌, ◌<◌, ◌≡◌, List, length, take}
use Rattle.patterns.specs.Pattern.{Pat, Matches}

-- n is the length of the longest prefix of s that r matches
pub record Longest (r : Pat) (s : List ℕ) (n : ℕ) : Type 0 where
  pub inside : n ≤ length s
  pub matched : Matches r (take n s)
  pub most : (m : ℕ) → n < m → m ≤ length s → Matches r (take m s) → ⊥

-- r matches no prefix of s
pub record NoPrefix (r : Pat) (s : List ℕ) : Type 0 where
  pub never : (m : ℕ) → m ≤ length s → Matches r (take m s) → ⊥

-- what the end e of a walk from the place k says, `best` being the end so far
pub data Ends (r : Pat) (s : List ℕ) (k best : ℕ) : ℕ → Type 0 where
  at_best : {e : ℕ} → e ≡ best → NoPrefix r s → Ends r s k best e
  at_match : {e : ℕ} (n : ℕ) → e ≡ k + n → Longest r s n → Ends r s k best e

-- What `longest` says: the longest matched prefix, or 0 where no prefix is matched.
pub data Right (r : Pat) (s : List ℕ) : ℕ → Type 0 where
  is_none : NoPrefix r s → Right r s 0
  is_longest : {n : ℕ} → Longest r s n → Right r s n
