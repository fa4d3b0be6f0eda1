-- A call that is refused or finds none changes no lent number; calls one after the other answer and leave what the stream's own do, from
-- opening on as the plain list, and none by 24. For a record is read back from its numbers, and they from it. Assumes nothing.
use Rattle.std.specs.Prelude.{ℕ, ◌≡◌, refl, false, List, [], ◌∷◌, length}
use Rattle.std.proofs.Common.{sym, ap, ◌∙◌}
use Rattle.patterns.proofs.Bools.{by_test}
use Rattle.patterns.specs.Lists.{All}
use Rattle.refusals.specs.Calls.{run, after_all}
use Rattle.event_record.specs.Record.{Call, Answer, none, refused, reply, opened}
use Rattle.event_record.specs.Record as of_list
use Rattle.event_room.specs.Room.{slots_in}
use Rattle.events.specs.Stream.{State, step}
use Rattle.event_view.proofs.Still.{refused_still}
use Rattle.event_view.specs.Viewed.{start, Not_24}
use Rattle.event_view.proofs.Viewed.{viewed, never_24 as step_never_24}
use Rattle.stream_numbers.specs.Numbers.{forged, Sixteen}
use Rattle.stream_numbers.specs.NumberLaws.{stream_back, numbers_back, never_forged}
use Rattle.live_events.specs.Live.{Lent, lent, stored, read, live}
use Rattle.live_events.proofs.Changes.{whole}
use Rattle.live_events.proofs.NoneStill as of_stream

-- A call that is refused, or answers none, changes nothing, whatever is lent.
module _ (c : Call) (l : Lent) where
  same_rooms : {t : State} → t ≡ read l → lent l.stream t.room t.opens ≡ l
  same_rooms e = rw e

  pub still : (n : ℕ) → (live c l).answer ≡ refused n → (live c l).after ≡ l
  unfolding live
  still n h =
      by_test (forged l.stream) (λ e. rw e)
      (λ e. rw e (let q : (step c (read l)).answer ≡ refused n = rw e at h in rw q (same_rooms (refused_still c (read l) n q))))

  pub none_still : (live c l).answer ≡ none → (live c l).after ≡ l
  unfolding live
  none_still h =
      by_test (forged l.stream) (λ e. rw e)
      (λ e. rw e (let q : (step c (read l)).answer ≡ none = rw e at h in rw q (same_rooms (of_stream.none_still (read l) c q))))

-- A call on a state that is stored.
pub live_of : (c : Call) (s : State) → live c (stored s) ≡ reply (step c s).answer (stored (step c s).after)
unfolding live
live_of c s = rw (never_forged s.stream, stream_back s.stream, whole s c)

-- So a call on 16 numbers of 32 bits, which is what a caller lends, leaves all numbers of the record that it leaves.
pub live_all : (c : Call) (l : Lent) → Sixteen l.stream → forged l.stream ≡ false
    → live c l ≡ reply (step c (read l)).answer (stored (step c (read l)).after)
live_all c l fits f =
    let back : stored (read l) ≡ l = ap (λ (k : List ℕ). lent k l.room l.opens) (numbers_back l.stream fits f) in
    ap (live c) (sym back) ∙ live_of c (read l)

-- Calls one after the other.
pub runs : (cs : List Call) (s : State) → run live cs (stored s) ≡ run step cs s
unfolding run
runs [] s = refl
runs (c ∷ cs) s = rw (live_of c s) (ap (λ (l : List Answer). (step c s).answer ∷ l) (runs cs (step c s).after))

pub leaves : (cs : List Call) (s : State) → after_all live cs (stored s) ≡ stored (after_all step cs s)
unfolding after_all
leaves [] s = refl
leaves (c ∷ cs) s = rw (live_of c s) (leaves cs (step c s).after)

-- Any calls from opening on.
module _ (cs : List Call) (room opens : List ℕ) where
  pub from_open : run live cs (stored (start room opens)) ≡ run of_list.answered cs (opened (slots_in (length room)) (length opens))
  from_open = runs cs (start room opens) ∙ viewed cs room opens

  pub never_24 : All Not_24 (run live cs (stored (start room opens)))
  never_24 = rw (runs cs (start room opens)) (step_never_24 cs room opens)
