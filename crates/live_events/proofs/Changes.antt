-- What is stored after a call is all that it changes: stored over the numbers of the record before, it gives those of the record after.
-- Each call's case by the definition; where it keeps events or open nodes, the record counts those that the rooms hold. Assumes nothing.
use Rattle.std.specs.Prelude.{◌+◌, ◌≡◌, not, length, eqb}
use Rattle.std.proofs.Math.Path.{refl}
use mathlib.Core.List.{List, [], ◌∷◌}
use Rattle.std.proofs.lemmas.Bool.{not-false}
use Rattle.patterns.proofs.Bools.{by_test}
use Rattle.event_record.specs.declared.Event.{Event}
use Rattle.event_record.specs.Record.{Call, push_token, push_error, begin, end, end_with_error, bookmark, truncate, remove_bookmark, pop, refused, Reply, inner, first_popped, taken, grounds}
use Rattle.events.specs.Stream.{State, view, laid, sound, answered, step}
use Rattle.events.specs.SoundLaws.{Fit, fit}
use Rattle.events.specs.HoldLaws.{view_count, view_opened}
use Rattle.event_view.proofs.CallLaws.{either_way}
use Rattle.stream_numbers.specs.Numbers.{numbers_of}
use Rattle.live_events.specs.Live.{changed, left}

module _ (s : State) where
  abbrev Whole : Call → Reply State → Type 0
  Whole c y = left y.answer (numbers_of s.stream) (changed c (numbers_of s.stream) y.after.stream) ≡ numbers_of y.after.stream

  module _ (k : Fit s) where
    first_whole : (es : List Event) → Whole pop (laid s (first_popped es (view s)))
    unfolding laid view numbers_of
    first_whole [] = rw (view_count s k, view_opened s k)
    first_whole (y ∷ ys) = rw (view_opened s k)

    taken_whole : (c : Call) → Whole c (laid s (taken c (view s)))
    unfolding laid view taken numbers_of
    taken_whole (push_token n x) = rw (view_opened s k)
    taken_whole (push_error n x) = rw (view_opened s k)
    taken_whole (begin n) = refl
    taken_whole end = refl
    taken_whole end_with_error =
        by_test (eqb (inner (view s) + 1) (length (view s).events)) (λ e. rw e) (λ e. rw e)
    taken_whole bookmark = rw (view_count s k, view_opened s k)
    taken_whole (truncate p) = rw (view_opened s k)
    taken_whole (remove_bookmark p) = rw (view_count s k, view_opened s k)
    taken_whole pop = first_whole (view s).events

    answered_whole : (c : Call) → Whole c (answered c s)
    unfolding answered
    answered_whole c =
        let r = view s in
        either_way refused s (laid s (taken c r)) (Whole c) (grounds c r) (λ n. refl) (λ f. taken_whole c)

  pub whole : (c : Call) → Whole c (step c s)
  unfolding step
  whole c =
      either_way refused s (answered c s) (Whole c) ((not (sound s), 24) ∷ []) (λ n. refl)
      (λ f. answered_whole (fit s refl (not-false (sound s) f.0)) c)
