-- The tests of refusal 24 as the code groups them; one that fails is enough for the refusal. Where the bookmarks are held in order, the
-- first tells how many tokens are kept. Assumes nothing.
use Rattle.std.specs.Prelude.{ℕ, ◌-◌, ◌≤◌, ◌≡◌, Bool, true, false, ◌&&◌, List, [], ◌∷◌, get_or, eqb, leb}
use Rattle.std.proofs.Common.{sym, ap, ◌∙◌, le-leb}
use Rattle.std.proofs.Math.Bool.{and-true, and_assoc}
use Rattle.patterns.specs.Lists.{each}
use Rattle.patterns.proofs.Lists.{each_fails}
use Rattle.reader.specs.Reading.{source_limit}
use Rattle.token_room.specs.Room.{slots_in}
use Rattle.bookmarks.specs.Bookmarks.{unused_place, held, low_of}
use Rattle.bookmarks.specs.HeldLaws.{held_facts, low_least}
use Rattle.window.specs.declared.Window.{Window}
use Rattle.window.specs.Window.{kept, sound}

-- How many tokens are kept where the first bookmark is the least; and it is, in order.
abbrev pub kept_behind_first : Window → ℕ
kept_behind_first w = w.fetched.0 - (low_of w.live (get_or w.bookmarks 0 unused_place) w.current).0

pub kept_in_order : (w : Window) → held w.live w.fetched.0 w.bookmarks ≡ true → kept_behind_first w ≡ kept w
kept_in_order w e = ap (λ (n : ℕ). w.fetched.0 - n) (low_least (held_facts e) w.current)

-- The source and the room as at opening; and the place, behind so many tokens and within the source.
abbrev pub as_opened : ℕ → ℕ → ℕ → ℕ → Bool
as_opened then slots bytes len = leb bytes source_limit && (eqb then bytes && eqb slots (slots_in len))

abbrev pub placed : ℕ → ℕ → ℕ → Bool
placed place fetched bytes = leb fetched place && leb place bytes

module _ (bytes len : ℕ) (w : Window) where
  -- the tests as the code groups them
  abbrev parts : List Bool
  parts =
      as_opened w.bytes w.slots bytes len
      ∷ held w.live w.fetched.0 w.bookmarks
      ∷ leb w.current.0 w.fetched.0
      ∷ leb (kept w) w.slots
      ∷ placed w.reader.place.0 w.fetched.0 bytes
      ∷ []

  grouped : each (λ b. b) parts ≡ sound bytes len w
  unfolding sound
  grouped =
      simp and_assoc

  -- one of them that fails
  pub unsound : (k : ℕ) → get_or parts k true ≡ false → false ≡ sound bytes len w
  unsound k e = each_fails parts k e ∙ grouped

  -- the last one, where the others are met
  pub sound_last :
      as_opened w.bytes w.slots bytes len ≡ true → held w.live w.fetched.0 w.bookmarks ≡ true
      → w.current.0 ≤ w.fetched.0 → kept w ≤ w.slots → placed w.reader.place.0 w.fetched.0 bytes ≡ sound bytes len w
  sound_last opened held_marks current_low room =
      let last : placed w.reader.place.0 w.fetched.0 bytes ≡ each (λ b. b) parts =
      rw (opened, held_marks, le-leb _ _ current_low, le-leb _ _ room) (sym (and-true (placed w.reader.place.0 w.fetched.0 bytes))) in
      last ∙ grouped
