-- The rows of Table 3-7: what every first byte in a range asks for. That a row says what `lead` says is computed over the range.
-- Assumes nothing.
use Rattle.std.specs.Prelude.{ℕ, ◌-◌, ◌≤◌, ◌≡◌}
use Rattle.patterns.specs.declared.Lead.{Lead}
use Rattle.patterns.specs.declared.Lead.TheVariants.{More}
use Rattle.patterns.specs.Utf8.{lead}
use Rattle.utf8.specs.Ranges.{Same, same_at}

module _ (low high : ℕ) where
  -- a row that asks for no more
  pub row : (b : ℕ) {l : Lead} → Same (λ c. l) lead low high → low ≤ b → b ≤ high → l ≡ lead b
  row b {l} = same_at (λ c. l) lead low high b

  -- a row that asks for more bytes; the first byte's bits are those above `base`
  pub more_row : (base : ℕ) {l h k b : ℕ} → Same (λ c. More l h k (c - base)) lead low high → low ≤ b → b ≤ high → More l h k (b - base) ≡ lead b
  more_row base {l} {h} {k} {b} = same_at (λ c. More l h k (c - base)) lead low high b
