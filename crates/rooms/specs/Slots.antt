-- What stands in slots of so many numbers each: what was stored in a slot is read there, and other slots are as they were. For the
-- numbers of a slot lie together, and two slots share none. Assumes nothing.
use Rattle.std.specs.Prelude.{ℕ, ◌+◌, ◌*◌, ◌≤◌, ◌<◌, ◌≡◌, List, length, get_or}
use Rattle.std.proofs.Common.{◌∙◌, arith}
use Rattle.std.proofs.lemmas.List.Edits.{sets}

-- How things are laid into slots: each is `width` numbers, and is put together from them again.
pub record Layout {A : Type 0} (width : ℕ) (numbers : A → List ℕ) (from_numbers : (ℕ → ℕ) → A) : Type 0 where
  pub sized : (x : A) → length (numbers x) ≡ width
  pub back : (x : A) → from_numbers (λ j. get_or (numbers x) j 0) ≡ x
  pub same : (f g : ℕ → ℕ) → ((j : ℕ) → j < width → f j ≡ g j) → from_numbers f ≡ from_numbers g
  pub apart : (s u i j : ℕ) → i < width → j < width → u * width + j ≡ s * width + i → u ≡ s
