-- How a call that wants tokens is answered: by what reaching them gives, refused as that was, or from there on.
-- Assumes nothing.
use Rattle.std.specs.Prelude.{ℕ, suc, ◌≤◌, refl, List, length, ltb, Result, Ok, Err}
use Rattle.std.proofs.Math.Path.{◌≡◌}
use Rattle.std.proofs.Common.{sym, ap, ◌∙◌, arith}
use Rattle.std.proofs.Math.Bool.{true}
use Rattle.std.proofs.Math.Dec.{leb}
use borrow.Author.Tests.{le-leb}
use Rattle.patterns.proofs.Bools.{by_test}
use Rattle.refusals.specs.declared.Refusal.{Refusal}
use Rattle.refusals.specs.declared.Given.{Given}
use Rattle.refusals.specs.Refusals.{number_of}
use Rattle.token_record.specs.Record.{Call, next_token, peek_token, Answer, done, refused, Reply, reply, wants}
use Rattle.fetching.specs.declared.Stored.{Stored}
use Rattle.window.specs.declared.Window.{Window}
use Rattle.window.specs.Window.{State, state, kept, sound, fetch, look, past, read_on, with_window, answered, step, done_told, done_reply}
use Rattle.window.specs.SoundLaws.{Fit, fit}
use Rattle.window.specs.Reaching.{reach, reached}
use Rattle.window.specs.Proceeding.{proceed}

module _ (src : List ℕ) (s : State) where
  -- a call that wants some
  proceeds : (c : Call) (k : ℕ) → wants c ≡ suc k → proceed c (reach src (suc k) s).answer (reach src (suc k) s).after ≡ step src c s
  unfolding reach proceed step
  proceeds c k e =
      by_test (sound (length src) (length s.room) s.window)
      (λ p.
      let l : leb 1 (suc k) ≡ true = le-leb 1 (suc k) (omega arith) in
      by_test (ltb (fetch src (suc k) s).window.slots (kept (fetch src (suc k) s).window)) (λ q. rw (p, e, l, q)) (λ q. rw (p, e, l, q)))
      (λ p. rw p)

  -- the window reached has its current index no further than what is fetched
  reached_current : (n : ℕ) → (reach src n s).answer ≡ done → (reach src n s).after.window.current.0 ≤ (reach src n s).after.window.fetched.0
  unfolding reach fetch
  reached_current n d =
      by_test (sound (length src) (length s.room) s.window)
      (λ p.
      let f : Fit (length src) (length s.room) s.window = fit _ _ _ p in
      rw p (by_test (ltb (fetch src n s).window.slots (kept (fetch src n s).window)) (λ q. rw q f.current_low) (λ q. rw q (omega (arith, f.current_low)))))
      (λ p. let no : refused 24 ≡ done = rw p at d in let z : ◌≡◌ {A = ℕ} 0 1 = cc in absurd (omega arith))

  -- the code's answer g to reaching
  module _ (n : ℕ) (g : Given Unit Window) (room : List ℕ) (q : done_reply g room ≡ reach src n s) where
    module _ (c : Call) (k : ℕ) (e : wants c ≡ suc k) (m : n ≡ suc k) where
      proceeded : proceed c (done_told g.answer) (state g.after room) ≡ step src c s
      proceeded = ap (λ (y : Reply State). proceed c y.answer y.after) (q ∙ ap (λ (j : ℕ). reach src j s) m) ∙ proceeds c k e

      pub went_on : g.answer ≡ Ok tt → answered c (state g.after room) ≡ step src c s
      unfolding proceed
      went_on d = rw d at proceeded

      pub refused_there : (x : Refusal) → g.answer ≡ Err x → reply (refused (number_of x)) (state g.after room) ≡ step src c s
      unfolding proceed
      refused_there x d = rw d at proceeded

    pub reached_low : g.answer ≡ Ok tt → g.after.current.0 ≤ g.after.fetched.0
    reached_low d =
        let told : (reach src n s).answer ≡ done = sym (ap (λ (y : Reply State). y.answer) q) ∙ ap done_told d in
        rw (← q) at (reached_current n told)

-- The code reads the window on to where its call came: what is given then.
abbrev pub given : Result Stored Refusal → Window → Given Unit Window
given r v = record { answer = (reached v r).answer; after = v }

pub read_there : (w v : Window) (r : Result Stored Refusal) (room : List ℕ) {y : Reply State} → v ≡ (reached w r).after
    → done_reply (reached w r) room ≡ y → done_reply (given r v) room ≡ y
read_there w v (Ok o) room e q = ap (λ (u : Window). done_reply (given (Ok o) u) room) e ∙ q
read_there w v (Err x) room e q = ap (λ (u : Window). done_reply (given (Err x) u) room) e ∙ q

-- The same of the window that is read on, by what the code came to.
module _ (src : List ℕ) (s : State) (n : ℕ) (r : Result Stored Refusal) (room : List ℕ) (q : done_reply (reached s.window r) room ≡ reach src n s) where
  module _ (c : Call) (k : ℕ) (e : wants c ≡ suc k) (m : n ≡ suc k) where
    pub refused_still : (x : Refusal) → r ≡ Err x → reply (refused (number_of x)) (state s.window room) ≡ step src c s
    refused_still x d = refused_there src s n (reached s.window (Err x)) room (rw d at q) c k e m x refl

    pub read_went_on : (o : Stored) → r ≡ Ok o → {v : Window} → v ≡ read_on o.reader o.next.0 s.window → answered c (state v room) ≡ step src c s
    read_went_on o d f = rw f (went_on src s n (reached s.window (Ok o)) room (rw d at q) c k e m refl)

  pub read_low : (o : Stored) → r ≡ Ok o → {v : Window} → v ≡ read_on o.reader o.next.0 s.window → v.current.0 ≤ v.fetched.0
  read_low o d f = rw f (reached_low src s n (reached s.window (Ok o)) room (rw d at q) refl)

-- What next and peek answer.
module _ (s : State) where
  pub took : (a : Answer) (w : Window) → a ≡ look 0 s → w ≡ past s.window → reply a (with_window s w) ≡ answered next_token s
  unfolding answered
  took a w e f = rw (e, f)

  pub peeked : (n : ℕ) (a : Answer) → a ≡ look n s → reply a s ≡ answered (peek_token n) s
  unfolding answered
  peeked n a e = rw e
