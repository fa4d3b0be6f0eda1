-- What a push answers, branch by branch of the code: the first ground that holds refuses, and where none holds one write lays the list that
-- the call leaves. Assumes nothing.
use Rattle.std.specs.Prelude.{ℕ, ◌+◌, ◌-◌, ◌≤◌, ◌<◌, ◌≡◌, Bool, true, false}
use Rattle.std.proofs.Math.Path.{refl}
use Rattle.std.proofs.Common.{sym, arith}
use borrow.Author.Tests.{lt-ltb, le-ltb}
use Rattle.rooms.proofs.Stores.{sets_take}
use Rattle.refusals.specs.declared.Refusal.{Refusal}
use Rattle.refusals.specs.Refusals.{number_of}
use Rattle.event_record.specs.declared.Span.{Span}
use Rattle.event_record.specs.declared.Event.{Event}
use Rattle.event_record.specs.Record.{push_token, push_error, done, refused, Reply, reply, event_of, token_tag, error_tag, pushed, lasting, spare, no_span}
use Rattle.event_room.specs.Room.{write}
use Rattle.events.specs.Stream.{State, state, view, laid, sound, answered, step}
use Rattle.events.specs.Parts.{counting, slot_at}
use Rattle.events.specs.SoundLaws.{Fit, Unfit, fit_sound, when_sound}
use Rattle.events.specs.HoldLaws.{front, laid_as, opened_inside, view_count, view_opened, count_more, room_more}
use Rattle.events.specs.PushingParts.{pushes, pushes_if_sound}

-- what is left: an event more
abbrev pub push_left : Event → Span → State → State
push_left y x s =
    let t = s.stream in
    state (counting (t.count + 1) t.opened x t) (write s.room (slot_at t t.count) y) s.opens

module _ (s : State) where
  pub token_pushed : (kind : ℕ) (x : Span) {b : Bool} {r : Reply State} → b ≡ sound s → b ≡ true
      → (Fit s → r ≡ pushes (event_of token_tag kind x) x s) → r ≡ step (push_token kind x) s
  unfolding answered pushes
  token_pushed kind x p e h = when_sound s (push_token kind x) p e h

  pub error_pushed : (m : ℕ) (x : Span) {b : Bool} {r : Reply State} → b ≡ sound s → b ≡ true
      → (Fit s → r ≡ pushes (event_of error_tag m x) s.stream.last s) → r ≡ step (push_error m x) s
  unfolding answered pushes
  error_pushed m x p e h = when_sound s (push_error m x) p e h

-- what the two calls share, with the test of 24 before
module _ (s : State) where
  pub token_is : (kind : ℕ) (x : Span) → pushes_if_sound (event_of token_tag kind x) x s ≡ step (push_token kind x) s
  unfolding step answered pushes pushes_if_sound
  token_is kind x = refl

  pub error_is : (m : ℕ) (x : Span) → pushes_if_sound (event_of error_tag m x) s.stream.last s ≡ step (push_error m x) s
  unfolding step answered pushes pushes_if_sound
  error_is m x = refl

  module _ (y : Event) (x : Span) where
    pub push_refused : {n : Refusal} → Unfit s n → reply (refused (number_of n)) s ≡ pushes_if_sound y x s
    unfolding pushes_if_sound
    push_refused u = rw (u.0, u.1)

    pub push_fit : {r : Reply State} → Fit s → r ≡ pushes y x s → r ≡ pushes_if_sound y x s
    unfolding pushes_if_sound
    push_fit k h = rw (fit_sound s k) h

module _ (s : State) (k : Fit s) where
  push_held : (y : Event) (x : Span) → reply done (push_left y x s) ≡ laid s (reply done (pushed y (lasting x (view s))))
  unfolding view
  push_held y x =
      laid_as s done (pushed y (lasting x (view s))) (front s) (s.stream.count + 1) s.stream.opened (write s.room (slot_at s.stream s.stream.count) y) s.opens
      refl (count_more s k y) (sym (view_opened s k)) (room_more s k y) (sym (sets_take s.opens s.stream.opened (opened_inside s k)))

  module _ (y : Event) (x : Span) where
    pub no_such_span : no_span y.span ≡ true → reply (refused 7) s ≡ pushes y x s
    unfolding pushes
    no_such_span e = rw e

    pub no_slot : no_span y.span ≡ false → s.stream.slots - (s.stream.count + s.stream.opened) < 1
        → reply (refused 5) s ≡ pushes y x s
    unfolding pushes
    no_slot e h = rw (e, view_count s k, view_opened s k, lt-ltb _ _ h)

    pub one_more : no_span y.span ≡ false → 1 ≤ s.stream.slots - (s.stream.count + s.stream.opened)
        → reply done (push_left y x s) ≡ pushes y x s
    unfolding pushes
    one_more e h =
        let l : 1 ≤ spare (view s) = omega (arith, h, view_count s k, view_opened s k) in
        rw (e, le-ltb _ _ l) (push_held y x)
