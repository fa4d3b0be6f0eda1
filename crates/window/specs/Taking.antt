-- What a loop over `next_token` leans on: each token that is handed out moves the window on by one, and no source has more tokens than
-- bytes. So the bytes less the current index fall with each turn, whatever window and room the loop was started with. Assumes nothing.
use Rattle.std.specs.Prelude.{ℕ, ◌+◌, ◌-◌, ◌≤◌, ◌≡◌, List, length, Option, Some, Ok}
use Rattle.std.proofs.Common.{sym, ap, ◌∙◌}
use native.Mathlib.Omega.{arith}
use borrow.Author.Tests.{ltb-true}
use Rattle.patterns.proofs.Bools.{by_test}
use Rattle.tokens.specs.declared.Token.{Token}
use Rattle.refusals.specs.declared.Given.{Given}
use Rattle.reader.specs.Following.{Sound}
use Rattle.reader.proofs.Following.{ahead_far, ahead_sound}
use Rattle.token_record.specs.Record.{next_token, token, none, refused, Reply}
use Rattle.window.specs.declared.Window.{Window}
use Rattle.window.specs.Window.{State, state, sound, fetch, more, answered, overfull, step, token_told, token_reply}
use Rattle.window.specs.SoundLaws.{Fit, fit}

-- the window after a token was taken, one further than the window before
pub record Further (src : List ℕ) (before after : Window) : Type 0 where
  pub next : after.current.0 ≡ before.current.0 + 1
  pub within : after.current.0 ≤ length src

-- what a reply says where it has a token
abbrev Took : List ℕ → Window → Reply State → Type 0
Took src w y = (x : Token) → y.answer ≡ token x → Further src w y.after.window

-- no answer is two
not_refused : (n : ℕ) (x : Token) → refused n ≡ token x → ⊥
not_refused n x e = let z : ◌≡◌ {A = ℕ} 0 1 = cc in absurd (omega arith)

not_none : (x : Token) → none ≡ token x → ⊥
not_none x e = let z : ◌≡◌ {A = ℕ} 0 1 = cc in absurd (omega arith)

module _ (src : List ℕ) (s : State) where
  -- the tokens fetched are no more than the bytes read
  fetched_within : Fit (length src) (length s.room) s.window → (fetch src 1 s).window.fetched.0 ≤ length src
  unfolding fetch
  fetched_within f =
      let w = s.window in
      let r : Sound src w.reader = record { limit = f.limit; inside = f.inside } in
      let n = w.current.0 + 1 - w.fetched.0 in
      omega (arith, f.fetched_low, ahead_far src w.reader r n, (ahead_sound src w.reader r n).inside)

  -- a window that has fetched hands its current token out where there is one
  answered_took : (fetch src 1 s).window.fetched.0 ≤ length src → Took src s.window (answered next_token (fetch src 1 s))
  unfolding answered fetch
  answered_took h x =
      let v = fetch src 1 s in
      let z : v.window.current.0 + 0 ≡ v.window.current.0 = omega arith in
      by_test (more v.window)
      (λ e.
      let l = ltb-true v.window.current.0 v.window.fetched.0 e in
      rw (z, e) (λ p. record { next = omega arith; within = omega (arith, h, l) }))
      (λ e. rw (z, e) (λ p. absurd (not_none x p)))

  step_took : Took src s.window (step src next_token s)
  unfolding step
  step_took x =
      by_test (sound (length src) (length s.room) s.window)
      (λ e. by_test (overfull next_token (fetch src 1 s))
      (λ o. rw (e, o) (λ p. absurd (not_refused 2 x p)))
      (λ o. rw (e, o) (answered_took (fetched_within (fit _ _ _ e)) x)))
      (λ e. rw e (λ p. absurd (not_refused 24 x p)))

-- of the code: what a caller of `next_token` knows once it was given a token
pub taken : (src room room' : List ℕ) (w : Window) (g : Given (Option Token) Window) (x : Token)
    → token_reply g room' ≡ step src next_token (state w room) → g.answer ≡ Ok (Some x) → Further src w g.after
taken src room room' w g x e p =
    rw (← ap (λ (y : Reply State). y.after.window) e) at
    (step_took src (state w room) x (sym (ap (λ (y : Reply State). y.answer) e) ∙ ap token_told p))
