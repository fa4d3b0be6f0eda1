-- What a truncation answers, branch by branch of the code: the first ground that holds refuses; where none holds nothing is to be stored,
-- as the list that the call leaves has the first of the events that stand. Assumes nothing.
use Rattle.std.specs.Prelude.{ℕ, ◌≤◌, ◌<◌, ◌≡◌, Bool, true, false, drop}
use Rattle.std.proofs.Math.Path.{refl, sym}
use Rattle.std.proofs.Common.{◌∙◌}
use Rattle.event_record.specs.declared.Position.{Position}
use Rattle.event_record.specs.Record.{truncate, done, refused, reply, last_token, balanced, holding, lasting, cut}
use Rattle.event_room.specs.Room.{listed}
use Rattle.event_room.specs.RingLaws.{listed_take}
use Rattle.events.specs.Stream.{State, view, laid, answered}
use Rattle.events.specs.SoundLaws.{Fit}
use Rattle.events.specs.HoldLaws.{front, unstored, opened_inside}
use Rattle.events.specs.MarkLaws.{some_live, not_past}
use Rattle.events.specs.TruncatingParts.{cut_left}

module _ (s : State) (k : Fit s) where
  -- the first events left
  cut_held : (p : ℕ) → p ≤ s.stream.count → reply done (cut_left p s) ≡ laid s (reply done (cut p (view s)))
  unfolding view
  cut_held p h =
      let es = listed s.room (front s) 0 p in
      rw (listed_take s.room (front s) 0 s.stream.count p h)
      (unstored s done (holding es (view s).opens (lasting (last_token s.stream.gone es) (view s))) p s.stream.opened refl refl refl (opened_inside s k))

  module _ (p : Position) where
    -- whether the events from the position on balance
    abbrev pub balance : Bool
    balance = balanced 0 (drop p.0 (listed s.room (front s) 0 s.stream.count))

    pub unbalanced : {t : Bool} → 0 < s.stream.bookmarks → p.0 ≤ s.stream.count → t ≡ balance → t ≡ false
        → reply (refused 8) s ≡ answered (truncate p) s
    unfolding answered
    unbalanced b h e f = rw (some_live s k b, not_past s k p h, sym e ∙ f)

    pub cut_short : {t : Bool} → 0 < s.stream.bookmarks → p.0 ≤ s.stream.count → t ≡ balance → t ≡ true
        → reply done (cut_left p.0 s) ≡ answered (truncate p) s
    unfolding answered
    cut_short b h e f = rw (some_live s k b, not_past s k p h, sym e ∙ f) (cut_held p.0 h)
