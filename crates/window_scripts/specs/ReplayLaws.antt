-- What replaying writes: nothing where opening is refused or the answers have no room; else the calls run on the window as it is at the
-- start, where demand 3 says that they answer as the record does. Assumes nothing.
use Rattle.std.specs.Prelude.{ℕ, ◌/◌, ◌<◌, ◌≤◌, ◌≡◌, Bool, true, false, cond, List, length, leb, Result, Ok, Err}
use Rattle.std.proofs.Math.Path.{ap}
use Rattle.std.proofs.Common.{◌∙◌, arith}
use borrow.Author.Tests.{lt-ltb, le-ltb, leb-true, leb-false}
use Rattle.std.proofs.lemmas.List.Edits.{sets}
use Rattle.patterns.proofs.Bools.{by_test}
use Rattle.patterns.specs.Determined.{Once}
use Rattle.patterns.proofs.Determined.{once}
use Rattle.refusals.specs.declared.Given.{Given}
use Rattle.refusals.specs.declared.Refusal.{Refusal}
use Rattle.scripts.specs.Scripts.{calls_of}
use Rattle.scripts.specs.Running.{Noted, ran}
use Rattle.scripts.proofs.Running.{ran_all}
use Rattle.reader.specs.Reading.{source_limit}
use Rattle.token_record.specs.Record.{done, refused, Reply, reply}
use Rattle.window.specs.declared.Window.{Window}
use Rattle.window.specs.Window.{State, state, step, start, open_of, done_told, done_reply}
use Rattle.window.specs.Determined.{done_read, done_same}
use Rattle.demand3.proofs.Simulation.{simulated, room_after}
use Rattle.window_scripts.specs.declared.asking.ToldGiven.{ToldGiven}
use Rattle.window_scripts.specs.Asking.{form, told_reply, told_of}
use Rattle.window_scripts.specs.Script.{Lent, lent, replayed}

-- What is left of what was lent.
abbrev pub left : State × List ℕ → Lent
left x = lent x.0.room x.1

-- What a call by number gives, and the numbers of its answer written.
pub note : {y : Reply State} {c : ToldGiven} {room before after : List ℕ} {at : ℕ}
    → told_reply c room ≡ told_of y → after ≡ sets before at c.told → Noted form at y before (state c.window room) after
note {before = before} {at = at} g e =
    record {
      state_after = ap (λ (p : State × List ℕ). p.0) g;
      answers_after = e ∙ ap (λ (p : State × List ℕ). sets before at p.1) g;
    }

-- How opening answers tells whether the source is within the limit.
module _ (src room : List ℕ) (g : Given Unit Window) (e : done_reply g room ≡ open_of src room) where
  answer_is : (b : Bool) → leb (length src) source_limit ≡ b → done_told g.answer ≡ cond b done (refused 1)
  answer_is true o = ap (λ (y : Reply State). y.answer) (rw o at e)
  answer_is false o = ap (λ (y : Reply State). y.answer) (rw o at e)

  open_done : g.answer ≡ Ok tt → (length src ≤ source_limit) × (state g.after room ≡ start src room)
  open_done told =
      by_test (leb (length src) source_limit) (λ o. (leb-true _ _ o, ap (λ (y : Reply State). y.after) (rw o at e)))
      (λ o. let q = answer_is false o in let z : ◌≡◌ {A = ℕ} 0 1 = cc in absurd (omega arith))

  open_refused : (n : Refusal) → g.answer ≡ Err n → (source_limit < length src) × (done_told g.answer ≡ refused 1)
  open_refused n told =
      by_test (leb (length src) source_limit) (λ o. let q = answer_is true o in let z : ◌≡◌ {A = ℕ} 0 1 = cc in absurd (omega arith))
      (λ o. (leb-false _ _ o, answer_is false o))

module _ (src script room answers : List ℕ) (g : Given Unit Window) (e : done_reply g room ≡ open_of src room) where
  -- opening refused
  pub replayed_refused : (n : Refusal) → g.answer ≡ Err n → reply (done_told g.answer) (lent room answers) ≡ replayed src script room answers
  unfolding replayed
  replayed_refused n told =
      let o = open_refused src room g e n told in
      rw (o.1, lt-ltb source_limit (length src) o.0)

  module _ (told : g.answer ≡ Ok tt) where
    -- no room for the answers
    pub replayed_not : length answers / 4 < length script / 2 → reply (refused 15) (lent room answers) ≡ replayed src script room answers
    unfolding replayed
    replayed_not h =
        rw (le-ltb source_limit (length src) (open_done src room g e told).0, lt-ltb (length answers / 4) (length script / 2) h)

    -- all calls run from opening on
    pub replayed_done : length script / 2 ≤ length answers / 4 → {after : Lent}
        → after ≡ left (ran form (step src) script 0 (length script / 2) (state g.after room) answers)
        → reply (done_told g.answer) after ≡ replayed src script room answers
    unfolding replayed
    replayed_done h q =
        let o = open_done src room g e told in
        let cs = calls_of form script in
        let p = (rw o.1 at q) ∙ ap left (ran_all form (step src) script (length script / 2) (start src room) answers) in
        rw told (
        ap (reply done) p
        ∙ rw (le-ltb source_limit (length src) o.0, le-ltb (length answers / 4) (length script / 2) h, simulated src room cs o.0, room_after src room cs o.0)
        )

-- two results that satisfy the promise are equal, with every lent number
pub replayed_once : Once (λ (p : Result Unit Refusal × List ℕ × List ℕ). reply (done_told p.0) (lent p.1 p.2))
replayed_once =
    once _ (λ r. (done_read r.answer, r.after.room, r.after.answers))
    (λ p. ap (λ (a : Result Unit Refusal). (a, p.1, p.2)) (done_same p.0))
