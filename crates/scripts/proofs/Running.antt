-- The calls of a script run one after the other, each answer noted at its place: that leaves the state after all calls and all answers
-- noted. By induction on the calls: an answer has so many numbers, so the next one stands behind it. Assumes nothing.
use Prim.Native.Nat.{ℕ, zero, suc, ◌+◌, ◌-◌, ◌*◌, ◌<◌, ◌≤◌}
use Rattle.std.specs.Prelude.{◌≡◌}
use Rattle.std.proofs.Math.Path.{refl}
use Rattle.std.proofs.Common.{◌∙◌}
use mathlib.Core.List.{List, flat_map}
use Rattle.std.proofs.Math.Nat.{zero-mul, suc-mul}
use Rattle.std.proofs.Math.Numerals.{add-one}
use native.Mathlib.Omega.{arith}
use Rattle.std.proofs.lemmas.List.Edits.{sets}
use Rattle.rooms.proofs.Stores.{sets_append}
use Rattle.refusals.specs.Calls.{Reply, run, after_all}
use Rattle.scripts.specs.Scripts.{Form, call_at, calls_from, noted}
use Rattle.scripts.specs.Running.{ran, Noted}

module _ {C A S : Type 0} (form : Form C A) (step : C → S → Reply A S) (script : List ℕ) where
  -- one call of those that are left, and none left
  pub ran_call : (i n : ℕ) (s : S) (answers : List ℕ) → i < n → {u : S} {after : List ℕ}
      → Noted form (i * form.answer_width) (step (call_at form script i) s) answers u after
      → ran form step script (i + 1) (n - (i + 1)) u after ≡ ran form step script i (n - i) s answers
  unfolding ran
  ran_call i n s answers h w = let m : n - i ≡ suc (n - (i + 1)) = omega arith in rw (m, w.state_after, w.answers_after)

  pub ran_none : (i n : ℕ) (s : S) (answers : List ℕ) → n ≤ i → ran form step script i (n - i) s answers ≡ (s, answers)
  unfolding ran
  ran_none i n s answers h = let m : n - i ≡ zero = omega arith in rw m

  -- what all of them leave
  ran_from : (i n : ℕ) (s : S) (answers : List ℕ)
      → ran form step script i n s answers
      ≡ (
        after_all step (calls_from form script i n) s,
        sets answers (i * form.answer_width) (flat_map form.numbers (run step (calls_from form script i n) s)),
      )
  unfolding ran calls_from run after_all flat_map
  ran_from i zero s answers = refl
  ran_from i (suc n) s answers =
      let y = step (call_at form script i) s in
      let more = flat_map form.numbers (run step (calls_from form script (i + 1) n) y.after) in
      ran_from (i + 1) n y.after (sets answers (i * form.answer_width) (form.numbers y.answer))
      ∙ rw (sets_append answers (i * form.answer_width) (form.numbers y.answer) more, form.sized y.answer, add-one i, suc-mul i form.answer_width)

  pub ran_all : (n : ℕ) (s : S) (answers : List ℕ)
      → ran form step script 0 n s answers ≡ (after_all step (calls_from form script 0 n) s, noted form (run step (calls_from form script 0 n) s) answers)
  unfolding noted
  ran_all n s answers = rw zero-mul at (ran_from 0 n s answers)
