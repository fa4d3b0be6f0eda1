-- What stands in slots of so many numbers each: what was stored in a slot is read there, and other slots are as they were. For the
-- numbers of a slot lie together, and two slots share none. Assumes nothing.
use Rattle.std.specs.Prelude.{ℕ, ◌+◌, ◌*◌, ◌≤◌, ◌<◌, ◌≡◌, List, length, get_or}
use Rattle.std.proofs.Common.{◌∙◌, arith}
use Rattle.std.proofs.lemmas.List.Edits.{sets}
use Rattle.rooms.proofs.Stores.{sets_here, sets_other}
use Rattle.rooms.specs.Slots.{Layout}

module _ {A : Type 0} {width : ℕ} {numbers : A → List ℕ} {from_numbers : (ℕ → ℕ) → A} (l : Layout width numbers from_numbers) (room : List ℕ) (s : ℕ) (x : A) where
  pub slot_same : s * width + width ≤ length room → from_numbers (λ j. get_or (sets room (s * width) (numbers x)) (s * width + j) 0) ≡ x
  slot_same h =
      let n = l.sized x in
      l.same (λ j. get_or (sets room (s * width) (numbers x)) (s * width + j) 0) (λ j. get_or (numbers x) j 0)
      (λ j k. sets_here (numbers x) room (s * width) j (omega (arith, n)) (omega (arith, n)))
      ∙ l.back x

  pub slot_other : (u : ℕ) → (u ≡ s → ⊥)
      → from_numbers (λ j. get_or (sets room (s * width) (numbers x)) (u * width + j) 0) ≡ from_numbers (λ j. get_or room (u * width + j) 0)
  slot_other u d =
      l.same (λ j. get_or (sets room (s * width) (numbers x)) (u * width + j) 0) (λ j. get_or room (u * width + j) 0)
      (λ j k. sets_other (numbers x) room (s * width) (u * width + j) (λ i h e. d (l.apart s u i j (omega (arith, l.sized x)) k e)))
