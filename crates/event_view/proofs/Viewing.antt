-- A stream's calls are the plain list's; `commutes` at a call is that call's law. A list laid into the rooms is seen there again: its
-- events have slots of their own, its open places stand first, and it has room, since the record keeps within its sizes. Assumes nothing.
use Rattle.std.specs.Prelude.{◌<◌, ◌≡◌}
use Rattle.std.proofs.Math.Path.{refl}
use Rattle.std.proofs.Common.{arith}
use Rattle.event_record.specs.Record.{Call, Answer, done, none, position, event, refused, Reply, reply, Record, taken, grounds}
use Rattle.event_record.specs.Record as of_list
use Rattle.event_room.specs.RingLaws.{slot_inside}
use Rattle.events.specs.Stream.{State, view, front_after, laid, answered, step}
use Rattle.events.specs.SoundLaws.{Fit, fit_sound, answered_now}
use Rattle.events.specs.HoldLaws.{view_count, view_opened}
use Rattle.event_view.proofs.CallLaws.{both_ways, any_number}
use Rattle.event_view.specs.Nesting.{Sized}
use Rattle.event_view.proofs.Nesting.{taken_sized}
use Rattle.event_view.proofs.Laid.{view_laid}
use Rattle.event_view.specs.Viewing.{Same}

module _ (s : State) (k : Fit s) where
  pub front_after_inside : (a : Answer) → 0 < s.stream.slots → (front_after s.stream a).0 < s.stream.slots
  front_after_inside done h = k.front_inside h
  front_after_inside none h = k.front_inside h
  front_after_inside (position p) h = k.front_inside h
  front_after_inside (event y) h = slot_inside s.stream.slots s.stream.front 1 (k.front_inside h) h
  front_after_inside (refused n) h = k.front_inside h

  pub view_sized : Sized s.stream.slots s.stream.places (view s)
  unfolding view
  view_sized =
      record {
        slots_same = refl;
        places_same = refl;
        within = omega (arith, view_count s k, view_opened s k, k.within);
        nodes = omega (arith, view_opened s k, k.nodes);
      }

  pub laid_same : (x : Reply Record) → Sized s.stream.slots s.stream.places x.after → Same (laid s x) x
  unfolding laid
  laid_same x z = (
    refl,
    view_laid s x.answer x.after
        (λ h. rw (← k.slots_same) (front_after_inside x.answer (omega (arith, z.within))))
        (omega (arith, z.within, k.slots_same)) (omega (arith, z.nodes, k.places_same)),
  )

  answered_same : (c : Call) → Same (answered c s) (of_list.answered c (view s))
  unfolding answered of_list.answered
  answered_same c =
      let r = view s in
      both_ways refused s r (laid s (taken c r)) (taken c r) Same (grounds c r)
      (any_number (λ n. Same (reply (refused n) s) (reply (refused n) r)) (λ n. (refl, refl)) (grounds c r))
      (λ f. laid_same (taken c r) (taken_sized s.stream.slots s.stream.places r view_sized c f))

pub commutes : (c : Call) (s : State) → Fit s
    → ((step c s).answer ≡ (of_list.answered c (view s)).answer) × (view (step c s).after ≡ (of_list.answered c (view s)).after)
commutes c s k = rw (← answered_now s c (fit_sound s k)) (answered_same s k c)
