-- What the calls on bookmarks answer, branch by branch of the code: the first ground that holds refuses; where none holds nothing is to be
-- stored, as the list that the call leaves has all the events that stand. Assumes nothing.
use Rattle.std.specs.Prelude.{ℕ, ◌+◌, ◌-◌, ◌≤◌, ◌<◌, ◌≡◌}
use Rattle.std.proofs.Math.Path.{refl, ap}
use Rattle.std.proofs.Common.{sym, ◌∙◌, le-leb}
use Rattle.std.proofs.lemmas.Bool.{lt-leb}
use Rattle.event_record.specs.declared.Position.{Position}
use Rattle.event_record.specs.Record.{bookmark, remove_bookmark, Answer, done, position, refused, reply, at}
use Rattle.event_record.specs.Record.{bookmark_limit, marked}
use Rattle.events.specs.Stream.{State, view, front_after, laid, answered}
use Rattle.events.specs.SoundLaws.{Fit}
use Rattle.events.specs.HoldLaws.{front, unstored, opened_inside, view_count}
use Rattle.events.specs.MarkLaws.{some_live, not_past}
use Rattle.events.specs.MarkingParts.{marks_left}

module _ (s : State) (k : Fit s) where
  -- nothing but the bookmarks changed
  mark_held : (n : ℕ) (a : Answer) → front_after s.stream a ≡ front s
      → reply a (marks_left n s) ≡ laid s (reply a (marked n (view s)))
  unfolding view
  mark_held n a e = unstored s a (marked n (view s)) s.stream.count s.stream.opened e refl refl (opened_inside s k)

  -- bookmark
  pub too_many : bookmark_limit ≤ s.stream.bookmarks → reply (refused 3) s ≡ answered bookmark s
  unfolding answered
  too_many h = rw (le-leb _ _ h)

  pub mark_made : s.stream.bookmarks < bookmark_limit
      → reply (position (at s.stream.count)) (marks_left (s.stream.bookmarks + 1) s) ≡ answered bookmark s
  unfolding answered
  mark_made h =
      rw (lt-leb _ _ h)
      (mark_held (s.stream.bookmarks + 1) (position (at s.stream.count)) refl
      ∙ ap (λ (n : ℕ). laid s (reply (position (at n)) (marked (s.stream.bookmarks + 1) (view s)))) (sym (view_count s k)))

  -- remove_bookmark
  pub mark_removed : (p : Position) → 0 < s.stream.bookmarks → p.0 ≤ s.stream.count
      → reply done (marks_left (s.stream.bookmarks - 1) s) ≡ answered (remove_bookmark p) s
  unfolding answered
  mark_removed p b h = rw (some_live s k b, not_past s k p h) (mark_held (s.stream.bookmarks - 1) done refl)
