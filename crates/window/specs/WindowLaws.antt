-- How a call is answered: refused by 24 where the window is not sound; else at once, where it wants no token, for fetching nothing changes
-- nothing. A switch to the mode in force changes nothing, and has_more goes peek's way. Assumes nothing.
use Rattle.std.specs.Prelude.{ℕ, ◌+◌, ◌-◌, ◌≤◌, ◌≡◌, refl, true, false, List, length}
use native.Mathlib.Omega.{arith}
use Rattle.std.proofs.Common.{add-zero}
use Rattle.patterns.proofs.Bools.{by_test}
use Rattle.reader.proofs.Following.{ahead_none}
use Rattle.token_record.specs.Record.{Call, peek_token, has_more, Answer, token, none, truth, done, index, refused, reply, wants}
use Rattle.token_room.specs.Room.{write_all}
use Rattle.window.specs.declared.Window.{Window}
use Rattle.window.specs.Window.{State, sound, switched, more, fetch, answered, overfull, step}
use Rattle.window.specs.SoundLaws.{Fit, fit_sound}

module _ (src : List ℕ) (s : State) where
  pub fetch_none : (n : ℕ) → s.window.current.0 + n ≤ s.window.fetched.0 → fetch src n s ≡ s
  unfolding fetch write_all
  fetch_none n h =
      let e : s.window.current.0 + n - s.window.fetched.0 ≡ 0 = omega arith in
      rw (e, ahead_none src s.window.reader, add-zero)

  -- refusal 24
  pub not_sound : (c : Call) → sound (length src) (length s.room) s.window ≡ false → reply (refused 24) s ≡ step src c s
  unfolding step
  not_sound c e = rw e

  -- a call that wants no token
  pub answered_now : (c : Call) → wants c ≡ 0 → Fit (length src) (length s.room) s.window → answered c s ≡ step src c s
  unfolding step
  answered_now c e f =
      rw (fit_sound (length src) (length s.room) s.window f, e, fetch_none 0 (omega (arith, f.current_low)))

-- A switch to the mode already in force does nothing.
pub switched_same : (w : Window) → switched w.reader.mode w ≡ w
switched_same w = refl

-- Has_more says whether peek 0 would give a token, and fetches and refuses as peek 0 does.
abbrev pub would_give : Answer → Answer
would_give (token x) = truth true
would_give none = truth false
would_give done = done
would_give (truth b) = truth b
would_give (index i) = index i
would_give (refused n) = refused n

pub more_as_peek : (src : List ℕ) (s : State)
    → let peeked = step src (peek_token 0) s in
    step src has_more s ≡ reply (would_give peeked.answer) peeked.after
unfolding step answered
more_as_peek src s =
    let v = fetch src 1 s in
    let z : v.window.current.0 + 0 ≡ v.window.current.0 = omega arith in
    by_test (sound (length src) (length s.room) s.window)
    (λ e. by_test (overfull has_more v)
    (λ f. rw (e, f))
    (λ f. by_test (more v.window) (λ g. rw (e, f, z, g)) (λ g. rw (e, f, z, g))))
    (λ e. rw e)
