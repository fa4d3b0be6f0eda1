-- From opening, over any calls, the stream answers as the plain list does: `commutes` call by call, since the open nodes of the list are
-- the Begins that no End closes, so that no later call is refused by 24. Assumes nothing.
use Rattle.std.specs.Prelude.{ℕ, ◌+◌, ◌-◌, ◌≤◌, ◌<◌, ◌≡◌, refl, Bool, false, List, [], ◌∷◌, eqb}
use Rattle.std.proofs.Math.Path.{sym, ap}
use Rattle.std.proofs.Common.{subst, ◌∙◌, arith, get_or-take}
use Rattle.std.proofs.Math.Nat.{zero-add}
use Rattle.std.proofs.Math.ListN.{length}
use Rattle.std.proofs.Math.Seq.{length-take-le, length-sets}
use Rattle.std.proofs.lemmas.Bool.{eqb-false}
use Rattle.patterns.specs.Lists.{All}
use Rattle.refusals.specs.Calls.{run, after_all}
use Rattle.event_record.specs.Record.{Call, push_token, push_error, begin, end, end_with_error, bookmark, truncate, remove_bookmark, pop, Answer, refused, Reply, Record, span, event_of, begin_tag, inner, opened, taken, grounds}
use Rattle.event_record.specs.Record as of_list
use Rattle.event_record.specs.Unclosed.{nested, BeginAt}
use Rattle.event_room.specs.Room.{slots_in, listed}
use Rattle.event_room.specs.RoomLaws.{length_written}
use Rattle.event_room.specs.RingLaws.{length_listed, listed_get}
use Rattle.events.specs.Stream.{State, state, fresh, view, laid, inner_place, answered, step}
use Rattle.events.specs.Parts.{event_at}
use Rattle.events.specs.SoundLaws.{Fit, fit_sound, answered_now}
use Rattle.event_view.proofs.CallLaws.{both_ways, either_way, always}
use Rattle.event_view.specs.Nesting.{Sized, Nested}
use Rattle.event_view.proofs.Nesting.{inner_begins, taken_sized, taken_nested}
use Rattle.event_view.specs.Still.{Given}
use Rattle.event_view.proofs.Still.{taken_given}
use Rattle.event_view.proofs.Viewing.{view_sized, front_after_inside, laid_same, commutes}
use Rattle.event_view.specs.Viewed.{Not_24, Reached, start}

-- Where the list is nested, the innermost open place is that of a Begin: then the last two facts of `Fit` follow from the others.
module _ (s : State) (slots_same : s.stream.slots ≡ slots_in (length s.room)) (places_same : s.stream.places ≡ length s.opens)
    (front_inside : 0 < s.stream.slots → s.stream.front.0 < s.stream.slots)
    (within : s.stream.count + s.stream.opened ≤ s.stream.slots) (nodes : s.stream.opened ≤ s.stream.places) (h : Nested (view s)) where
  inner_seen : 0 < s.stream.opened → BeginAt (view s).events (inner_place s)
  unfolding view
  inner_seen o =
      let n : length (view s).opens ≡ s.stream.opened = length-take-le s.stream.opened s.opens (omega arith) in
      let e : inner (view s) ≡ inner_place s = rw n (get_or-take s.stream.opened s.opens (s.stream.opened - 1) 0 (omega arith)) in
      rw e at (inner_begins (view s) h (omega (arith, n)))

  inner_low : 0 < s.stream.opened → inner_place s < s.stream.count
  unfolding view
  inner_low o = omega (arith, (inner_seen o).0, length_listed s.room s.stream.front 0 s.stream.count)

  inner_tag : 0 < s.stream.opened → (event_at s.stream s.room (inner_place s)).tag ≡ begin_tag
  unfolding view
  inner_tag o =
      let e = listed_get s.room s.stream.front 0 s.stream.count (inner_place s) (event_of 0 0 (span 0 0)) (inner_low o) in
      rw (slots_same, ← zero-add (inner_place s), ← e) (inner_seen o).1

  fit_nested : Fit s
  fit_nested =
      record {
        slots_same = slots_same;
        places_same = places_same;
        front_inside = front_inside;
        within = within;
        nodes = nodes;
        inner_inside = inner_low;
        inner_begins = inner_tag;
      }

pub start_reached : (room opens : List ℕ) → Reached (start room opens)
unfolding view listed nested
start_reached room opens =
    record { fit = fit_nested (start room opens) refl refl (λ h. h) (omega arith) (omega arith) refl; nested = refl }

module _ (s : State) (k : Reached s) where
  laid_reached : (x : Reply Record) → Sized s.stream.slots s.stream.places x.after → Nested x.after → Reached (laid s x).after
  unfolding laid
  laid_reached x z h =
      let f = k.fit in
      let r = x.after in
      let u = (laid s x).after in
      let n : Nested (view u) = rw (laid_same s f x z).1 h in
      let a : u.stream.slots ≡ slots_in (length u.room) =
      z.slots_same ∙ f.slots_same ∙ ap slots_in (sym (length_written s.room u.stream.front 0 r.events)) in
      let b : u.stream.places ≡ length u.opens = z.places_same ∙ f.places_same ∙ sym (length-sets s.opens 0 r.opens) in
      let g : 0 < u.stream.slots → u.stream.front.0 < u.stream.slots =
      λ l. rw z.slots_same (front_after_inside s f x.answer (rw z.slots_same at l)) in
      record { fit = fit_nested u a b g (omega (arith, z.within, z.slots_same)) (omega (arith, z.nodes, z.places_same)) n; nested = n }

  answered_reached : (c : Call) → Reached (answered c s).after
  unfolding answered
  answered_reached c =
      let r = view s in
      either_way refused s (laid s (taken c r)) (λ x. Reached x.after) (grounds c r) (λ n. k)
      (λ f. laid_reached (taken c r) (taken_sized s.stream.slots s.stream.places r (view_sized s k.fit) c f)
      (taken_nested r k.nested c f))

  pub step_reached : (c : Call) → Reached (step c s).after
  step_reached c = rw (← answered_now s c (fit_sound s k.fit)) (answered_reached c)

-- the stream answers as the list that it holds
viewed_from : (cs : List Call) (s : State) → Reached s → run step cs s ≡ run of_list.answered cs (view s)
unfolding run
viewed_from [] s k = refl
viewed_from (c ∷ cs) s k =
    let e = commutes c s k.fit in
    rw (e.0, viewed_from cs (step c s).after (step_reached s k c), e.1)

after_from : (cs : List Call) (s : State) → Reached s → view (after_all step cs s) ≡ after_all of_list.answered cs (view s)
unfolding after_all
after_from [] s k = refl
after_from (c ∷ cs) s k = after_from cs (step c s).after (step_reached s k c) ∙ rw (commutes c s k.fit).1

other_number : (n : ℕ) → eqb n 24 ≡ false → Not_24 (refused n)
other_number n e q = let z : n ≡ 24 = cc in eqb-false n 24 e z

other_grounds : (c : Call) (r : Record) → All (λ (g : Bool × ℕ). Not_24 (refused g.1)) (grounds c r)
unfolding grounds
other_grounds (push_token k x) r = (other_number _ refl, (other_number _ refl, tt))
other_grounds (push_error m x) r = (other_number _ refl, (other_number _ refl, tt))
other_grounds (begin k) r = (other_number _ refl, (other_number _ refl, tt))
other_grounds end r = (other_number _ refl, tt)
other_grounds end_with_error r = (other_number _ refl, tt)
other_grounds bookmark r = (other_number _ refl, tt)
other_grounds (truncate p) r = (other_number _ refl, (other_number _ refl, (other_number _ refl, tt)))
other_grounds (remove_bookmark p) r = (other_number _ refl, (other_number _ refl, tt))
other_grounds pop r = (other_number _ refl, tt)

answered_other : (c : Call) (r : Record) → Not_24 (of_list.answered c r).answer
unfolding of_list.answered
answered_other c r =
    both_ways refused r r (taken c r) (taken c r) (λ x y. Not_24 x.answer) (grounds c r) (other_grounds c r)
    (λ f e. subst Given e (taken_given c r))

list_never_24 : (cs : List Call) (r : Record) → All Not_24 (run of_list.answered cs r)
unfolding run
list_never_24 [] r = tt
list_never_24 (c ∷ cs) r = (answered_other c r, list_never_24 cs (of_list.answered c r).after)

-- From opening, over any calls: the answers are the list's, none is 24; and the state after them is the list's, as later calls want it.
module _ (cs : List Call) (room opens : List ℕ) where
  pub viewed : run step cs (state (fresh (slots_in (length room)) (length opens)) room opens)
      ≡ run of_list.answered cs (opened (slots_in (length room)) (length opens))
  unfolding view listed
  viewed = viewed_from cs (start room opens) (start_reached room opens)

  pub never_24 : All Not_24 (run step cs (start room opens))
  never_24 = rw viewed (list_never_24 cs (opened (slots_in (length room)) (length opens)))

  pub viewed_after : view (after_all step cs (start room opens)) ≡ after_all of_list.answered cs (opened (slots_in (length room)) (length opens))
  unfolding view listed
  viewed_after = after_from cs (start room opens) (start_reached room opens)

  pub always_reached : Reached (after_all step cs (start room opens))
  always_reached = always step Reached (λ c s k. step_reached s k c) cs (start room opens) (start_reached room opens)
