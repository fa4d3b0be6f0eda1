-- A call's status is a number that says what came of it. A C function tells a reply by the status, with all that is lent after the call;
-- and where something is lent for what the call finds, by that too. Assumes nothing.
use Rattle.std.specs.Prelude.{ℕ, Result, Ok, Err}
use Rattle.refusals.specs.declared.Refusal.{Refusal}
use Rattle.refusals.specs.Refusals.{number_of}
use Rattle.refusals.specs.Calls.{Reply}

-- What came of a call: it is done, or has found what was asked for; there is none; or it is refused, by a number.
pub data Outcome : Type 0 where
  found none : Outcome
  refused : ℕ → Outcome

abbrev pub status_of : Outcome → ℕ
status_of found = 0
status_of none = 100
status_of (refused n) = n

-- The code's answer that gives nothing else.
abbrev pub done_outcome : Result Unit Refusal → Outcome
done_outcome (Ok u) = found
done_outcome (Err n) = refused (number_of n)

-- A reply told, with what is lent; and with what is lent for what it finds, which is written there.
abbrev pub told_by : {A S : Type 0} → (A → Outcome) → Reply A S → ℕ × S
told_by outcome y = (status_of (outcome y.answer), y.after)

abbrev pub told_with : {A S X : Type 0} → (A → Outcome) → (A → X → X) → Reply A S → X → ℕ × X × S
told_with outcome written y x = (status_of (outcome y.answer), written y.answer x, y.after)
