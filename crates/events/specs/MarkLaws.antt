-- The grounds that truncate and remove_bookmark share, 4 and then 10, by the record: the list's figures are those that the record counts.
-- Assumes nothing.
use Rattle.std.specs.Prelude.{ℕ, ◌≤◌, ◌<◌, ◌≡◌, Bool, true, false, List, ◌∷◌, length}
use Rattle.std.proofs.Common.{arith}
use borrow.Author.Tests.{lt-ltb, le-ltb, eq-eqb, ne_eqb}
use Rattle.event_record.specs.declared.Position.{Position}
use Rattle.event_record.specs.Record.{Call, refused, reply, none_live, past_end, grounds}
use Rattle.events.specs.Stream.{State, view, answered}
use Rattle.events.specs.SoundLaws.{Fit}
use Rattle.events.specs.HoldLaws.{view_count}

module _ (s : State) (k : Fit s) where
  pub some_live : 0 < s.stream.bookmarks → none_live (view s) ≡ false
  unfolding view
  some_live b = ne_eqb s.stream.bookmarks 0 (λ z. omega (arith, z))

  past : (p : Position) → s.stream.count < p.0 → past_end p (view s) ≡ true
  past p h = lt-ltb (length (view s).events) p.0 (omega (arith, view_count s k))

  pub not_past : (p : Position) → p.0 ≤ s.stream.count → past_end p (view s) ≡ false
  not_past p h = le-ltb (length (view s).events) p.0 (omega (arith, view_count s k))

  module _ (c : Call) (p : Position) {gs : List (Bool × ℕ)} (g : grounds c (view s) ≡ (none_live (view s), 4) ∷ (past_end p (view s), 10) ∷ gs) where
    pub nothing_live : s.stream.bookmarks ≡ 0 → reply (refused 4) s ≡ answered c s
    unfolding answered
    nothing_live e = rw (g, eq-eqb _ _ e)

    pub too_late : 0 < s.stream.bookmarks → s.stream.count < p.0 → reply (refused 10) s ≡ answered c s
    unfolding answered
    too_late b h = rw (g, some_live b, past p h)
