-- The calls of a script run one after the other, each answer noted at its place: that leaves the state after all calls and all answers
-- noted. By induction on the calls: an answer has so many numbers, so the next one stands behind it. Assumes nothing.
use Prim.Native.Nat.{ℕ, zero, suc, ◌+◌, ◌-◌, ◌*◌, ◌<◌, ◌≤◌}
use Rattle.std.specs.Prelude.{◌≡◌}
use Rattle.std.proofs.Math.Path.{refl}
use Rattle.std.proofs.Common.{◌∙◌}
use mathlib.Core.List.{List, flat_map}
use Rattle.std.proofs.Math.Nat.{zero-mul, suc-mul}
use Rattle.std.proofs.Math.Numerals.{add-one}
use native.Mathlib.Omega.{arith}
use Rattle.std.proofs.lemmas.List.Edits.{sets}
use Rattle.rooms.proofs.Stores.{sets_append}
use Rattle.refusals.specs.Calls.{Reply, run, after_all}
use Rattle.scripts.specs.Scripts.{Form, call_at, calls_from, noted}

-- What a call's reply leaves, its answer noted at a place: the state, and the answers `after` for those `before`.
pub record Noted {C A S : Type 0} (form : Form C A) (at : ℕ) (y : Reply A S) (before : List ℕ) (s : S) (after : List ℕ) : Type 0 where
  pub state_after : s ≡ y.after
  pub answers_after : after ≡ sets before at (form.numbers y.answer)

module _ {C A S : Type 0} (form : Form C A) (step : C → S → Reply A S) (script : List ℕ) where
  -- n calls from the i-th on.
  unfoldable pub ran : ℕ → ℕ → S → List ℕ → S × List ℕ
  ran i zero s answers = (s, answers)
  ran i (suc n) s answers =
      let y = step (call_at form script i) s in
      ran (i + 1) n y.after (sets answers (i * form.answer_width) (form.numbers y.answer))
