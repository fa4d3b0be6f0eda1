-- Bytes written into a lent list, whose other bytes stay. Where there is room this is one store after the other, and so two texts
-- written one behind the other are both written at once. Assumes nothing.
use Rattle.std.specs.Prelude.{ℕ, ◌+◌, ◌≡◌, List, ◌++◌, take}
use Rattle.std.proofs.Math.ListN.{length, drop}

-- out, with bs from the place `at` on
unfoldable pub put : ℕ → List ℕ → List ℕ → List ℕ
put at bs out = take at out ++ (bs ++ drop (at + length bs) out)

-- What a function does that writes bs at a place: nothing else changes, and it answers the place behind.
pub record Wrote (at : ℕ) (bs before after : List ℕ) (r : ℕ) : Type 0 where
  pub bytes : after ≡ put at bs before
  pub behind : r ≡ at + length bs
