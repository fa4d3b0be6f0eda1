-- What replaying writes: nothing where the answers have no room; else the calls run from opening on, where the stream answers as the plain
-- list does. Assumes nothing.
use Rattle.std.specs.Prelude.{ℕ, ◌/◌, ◌<◌, ◌≤◌, ◌≡◌, length, Result}
use Rattle.std.proofs.Math.Path.{ap}
use Rattle.std.proofs.Common.{◌∙◌, lt-ltb, le-ltb}
use mathlib.Core.List.{List}
use Rattle.std.proofs.lemmas.List.Edits.{sets}
use Rattle.patterns.specs.Determined.{Once}
use Rattle.patterns.proofs.Determined.{once}
use Rattle.refusals.specs.declared.Refusal.{Refusal}
use Rattle.scripts.specs.Scripts.{calls_of}
use Rattle.scripts.specs.Running.{Noted}
use Rattle.scripts.specs.Running.{ran}
use Rattle.scripts.proofs.Running.{ran_all}
use Rattle.event_record.specs.Record.{Call, done, refused, reply}
use Rattle.event_room.specs.Room.{slots_in}
use Rattle.events.specs.declared.Stream.{Stream}
use Rattle.events.specs.Stream.{State, state, fresh, step, done_told}
use Rattle.events.specs.Determined.{done_read, done_same}
use Rattle.event_scripts.specs.declared.asking.ToldGiven.{ToldGiven}
use Rattle.event_scripts.specs.Asking.{told_reply, told_of}
use Rattle.event_view.specs.Viewed.{start}
use Rattle.event_view.proofs.Viewed.{viewed}
use Rattle.event_scripts.specs.Script.{form, lent, replayed}

-- A call's reply, and the numbers of its answer written.
pub note : (s : State) (before : List ℕ) (at : ℕ) {c d : Call} {g : ToldGiven} {room opens after : List ℕ}
    → told_reply g room opens ≡ told_of (step c s) → c ≡ d → after ≡ sets before at g.told
    → Noted form at (step d s) before (state g.stream room opens) after
note s before at e p n =
    rw (← p)
    (record {
      state_after = ap (λ (q : List ℕ × State). q.1) e;
      answers_after = n ∙ ap (λ (q : List ℕ × State). sets before at q.0) e;
    })

module _ (script room opens answers : List ℕ) where
  -- no room for the answers
  pub replayed_not : length answers / 5 < length script / 4 → reply (refused 15) (lent room opens answers) ≡ replayed script room opens answers
  unfolding replayed
  replayed_not h = rw (lt-ltb (length answers / 5) (length script / 4) h)

  -- all calls run from opening on
  pub replayed_done : length script / 4 ≤ length answers / 5 → {t u : Stream} {room' opens' after : List ℕ}
      → t ≡ fresh (slots_in (length room)) (length opens)
      → (state u room' opens', after) ≡ ran form step script 0 (length script / 4) (state t room opens) answers
      → reply done (lent room' opens' after) ≡ replayed script room opens answers
  unfolding replayed
  replayed_done h o e =
      let q = (rw o at e) ∙ ran_all form step script (length script / 4) (start room opens) answers in
      ap (λ (p : State × List ℕ). reply done (lent p.0.room p.0.opens p.1)) q
      ∙ rw (le-ltb (length answers / 5) (length script / 4) h, viewed (calls_of form script) room opens)

-- two results that satisfy the promise are equal, with every lent number
pub replayed_once : Once (λ (p : Result Unit Refusal × List ℕ × List ℕ × List ℕ). reply (done_told p.0) (lent p.1 p.2 p.3))
replayed_once =
    once _ (λ r. (done_read r.answer, r.after.room, r.after.opens, r.after.answers))
    (λ p. ap (λ (a : Result Unit Refusal). (a, p.1, p.2, p.3)) (done_same p.0))
