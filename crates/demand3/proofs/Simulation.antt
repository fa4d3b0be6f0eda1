-- The window that stands for a record goes, by a call, to the window that stands for the record with so many slots after that call,
-- with the same answer; so it does by any calls one after the other. Assumes nothing.
use Rattle.std.specs.Prelude.{ℕ, ◌≤◌, ◌≡◌, length}
use Rattle.std.proofs.Math.Path.{refl}
use Rattle.std.proofs.Common.{ap}
use mathlib.Core.List.{List, [], ◌∷◌}
use Rattle.patterns.proofs.Bools.{by_test}
use Rattle.refusals.specs.Calls.{run, after_all}
use Rattle.reader.specs.Reading.{source_limit}
use Rattle.token_record.specs.Record.{Call, Answer, Record, opened, wants, fetch, outnumbers, bounded, whole}
use Rattle.token_room.specs.Room.{slots_in, write_all}
use Rattle.window.specs.Window.{start, step}
use Rattle.demand3.specs.Standing.{state_of, reply_of, Good}
use Rattle.demand3.proofs.Standing.{start_of, good_opened, sound_of}
use Rattle.demand3.proofs.Fetching.{fetch_of, overfull_of, fetch_good}
use Rattle.demand3.proofs.Answering.{answered_of, answered_good}

module _ (src room : List ℕ) where
  abbrev slots : ℕ
  slots = slots_in (length room)

  module _ (c : Call) (r : Record) (g : Good src slots r) where
    step_of : step src c (state_of src room r) ≡ reply_of src room (bounded slots src c r)
    unfolding step bounded whole
    step_of =
        rw (sound_of src room r g, overfull_of src room c r)
        (by_test (outnumbers slots src c r) (λ o. rw o)
        (λ o. rw (o, fetch_of src (wants c) r room) (answered_of src room (fetch src (wants c) r) (fetch_good src slots c r g o) c)))

    step_good : Good src slots (bounded slots src c r).after
    unfolding bounded whole
    step_good =
        by_test (outnumbers slots src c r) (λ o. rw o g)
        (λ o. rw o (answered_good src slots (fetch src (wants c) r) (fetch_good src slots c r g o) c))

  run_of : (cs : List Call) (r : Record) → Good src slots r → run (step src) cs (state_of src room r) ≡ run (bounded slots src) cs r
  unfolding run
  run_of [] r g = refl
  run_of (c ∷ cs) r g =
      rw (step_of c r g) (ap (λ (l : List Answer). (bounded slots src c r).answer ∷ l) (run_of cs (bounded slots src c r).after (step_good c r g)))

  after_of : (cs : List Call) (r : Record) → Good src slots r
      → after_all (step src) cs (state_of src room r) ≡ state_of src room (after_all (bounded slots src) cs r)
  unfolding after_all
  after_of [] r g = refl
  after_of (c ∷ cs) r g = rw (step_of c r g) (after_of cs (bounded slots src c r).after (step_good c r g))

module _ (src room : List ℕ) (cs : List Call) (h : length src ≤ source_limit) where
  -- the window answers as the record with as many slots, past a refusal too
  pub simulated : run (step src) cs (start src room) ≡ run (bounded (slots_in (length room)) src) cs opened
  simulated = rw (start_of src room) (run_of src room cs opened (good_opened src (slots_in (length room)) h))

  -- and in the room stand the record's tokens, written one after the other
  pub room_after : (after_all (step src) cs (start src room)).room
      ≡ write_all room 0 (after_all (bounded (slots_in (length room)) src) cs opened).tokens
  room_after = rw (start_of src room, after_of src room cs opened (good_opened src (slots_in (length room)) h))
