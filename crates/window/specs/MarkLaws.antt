-- What the calls on bookmarks answer, case by case; the array that the code leaves is the padded list of the definition.
-- Assumes nothing.
use Rattle.std.specs.Prelude.{ℕ, ◌+◌, ◌-◌, ◌≤◌, ◌<◌, ◌≡◌, true, false, List}
use Rattle.std.proofs.Common.{arith, lt-ltb, le-ltb}
use Rattle.std.proofs.Math.ListN.{length}
use Rattle.tokens.specs.declared.TokenIndex.{TokenIndex}
use Rattle.token_record.specs.Record.{bookmark, restore_bookmark, remove_bookmark, index, done, refused, reply, bookmark_limit, member, without}
use Rattle.bookmarks.specs.Bookmarks.{insert, inserted, removed}
use Rattle.bookmarks.specs.HeldLaws.{Held, inserted_padded, removed_padded, length_insert, length_without}
use Rattle.window.specs.Window.{State, marks, moved, bookmarked, with_window, answered}

module _ (s : State) where
  pub full : bookmark_limit ≤ s.window.live → reply (refused 3) s ≡ answered bookmark s
  unfolding answered
  full h = rw (le-ltb _ _ h)

  pub not_restored : (i : TokenIndex) → member i (marks s.window) ≡ false → reply (refused 4) s ≡ answered (restore_bookmark i) s
  unfolding answered
  not_restored i e = rw e

  pub not_removed : (i : TokenIndex) → member i (marks s.window) ≡ false → reply (refused 4) s ≡ answered (remove_bookmark i) s
  unfolding answered
  not_removed i e = rw e

  pub restored : (i : TokenIndex) → member i (marks s.window) ≡ true
      → reply done (with_window s (moved i s.window)) ≡ answered (restore_bookmark i) s
  unfolding answered
  restored i e = rw e

  module _ {top : ℕ} (h : Held s.window.live top s.window.bookmarks) where
    pub one_more : (a : List TokenIndex) → s.window.live < bookmark_limit → a ≡ inserted s.window.live s.window.current s.window.bookmarks
        → reply (index s.window.current) (with_window s (bookmarked a (s.window.live + 1) s.window)) ≡ answered bookmark s
    unfolding answered
    one_more a l e =
        let w = s.window in
        let n : w.live + 1 ≡ length (insert w.current (marks w)) = omega (arith, length_insert w.current (marks w), h.counted) in
        rw (lt-ltb _ _ l, e, inserted_padded h w.current l, n)

    pub one_less : (i : TokenIndex) (a : List TokenIndex) → member i (marks s.window) ≡ true → a ≡ removed s.window.live i s.window.bookmarks
        → reply done (with_window s (bookmarked a (s.window.live - 1) s.window)) ≡ answered (remove_bookmark i) s
    unfolding answered
    one_less i a m e =
        let w = s.window in
        let n : w.live - 1 ≡ length (without i (marks w)) = omega (arith, length_without i (marks w) m, h.counted) in
        rw (m, e, removed_padded h i m, n)
