-- The cases of a call on numbers: forged ones, and the stream's own call; and of its answer. By one look at the definition each.
-- Assumes nothing.
use Rattle.std.specs.Prelude.{ℕ, ◌≡◌, refl, true, false, List, Option, Some, None}
use Rattle.std.specs.Option.{is_some}
use Rattle.std.proofs.Common.{ap}
use Rattle.event_record.specs.declared.Event.{Event}
use Rattle.event_record.specs.Record.{Call, Answer, refused, reply}
use Rattle.events.specs.declared.Stream.{Stream}
use Rattle.events.specs.Stream.{state, step, popped}
use Rattle.stream_numbers.specs.Numbers.{stream_of, forged}
use Rattle.live_events.specs.Live.{Lent, lent, changed, left, kept, live}

module _ (c : Call) (l : Lent) where
  pub not_made : forged l.stream ≡ true → reply (refused 24) l ≡ live c l
  unfolding live
  not_made f = rw f

  -- the record read, the call made on it, its answer, and what it changes stored
  pub made : forged l.stream ≡ false → {A : Type 0} (told : A → Answer) {w t : Stream} {a b : A} {stream room opens : List ℕ}
      → w ≡ stream_of l.stream → reply (told a) (state t room opens) ≡ step c (state w l.room l.opens)
      → (b ≡ a) × (stream ≡ left (told a) l.stream (changed c l.stream t)) → reply (told b) (lent stream room opens) ≡ live c l
  unfolding live
  made f told q e s = rw (f, s.0, s.1, ← q) (ap (kept c l.stream) e)

  -- the same as the code's steps have it: the record with that it is one, and the arm's equation
  pub made_by : {w : Stream} → (forged l.stream ≡ false) × (w ≡ stream_of l.stream) → {A : Type 0} (told : A → Answer) {t : Stream} {a b : A} {stream room opens : List ℕ}
      → reply (told a) (state t room opens) ≡ step c (state w l.room l.opens) → a ≡ b → stream ≡ left (told b) l.stream (changed c l.stream t)
      → reply (told b) (lent stream room opens) ≡ live c l
  unfolding live
  made_by r told e p s = rw (r.0, s, ← p, ← r.1) (ap (kept c l.stream) e)

-- what a pop changes is left where it found an event
pub some_left : (o : Option Event) (l : List ℕ) {k j : List ℕ} → is_some o ≡ true → j ≡ k → j ≡ left (popped o) l k
some_left (Some y) l e h = h
some_left None l e h = absurd (cc)

pub none_left : (o : Option Event) (l k : List ℕ) → is_some o ≡ false → l ≡ left (popped o) l k
none_left (Some y) l k e = absurd (cc)
none_left None l k e = refl
